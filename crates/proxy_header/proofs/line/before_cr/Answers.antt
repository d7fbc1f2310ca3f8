-- What `strip_suffix` says, in whole texts.
use Rattle.std.proofs.Common.{Some}
use Rattle.std.proofs.lemmas.Slice.Eq.{strip_suffix_is}
use Rattle.std.proofs.lemmas.Bool.Decides.{Decides-eqb}
use Rattle.proxy_header.proofs.line.before_cr.Goals as goal

pub returns-in-Some-clause-found : goal.returns-in-Some-clause-found
returns-in-Some-clause-found c = strip_suffix_is Decides-eqb _ _ (Some c.in-Some.line) c.in-Some.ensures.cases
