-- What `strip_prefix` says, in whole texts.
use Rattle.std.proofs.Common.{Some, None}
use Rattle.std.proofs.lemmas.Slice.Eq.{strip_prefix_is}
use Rattle.std.proofs.lemmas.Bool.Decides.{Decides-eqb}
use Rattle.proxy_header.proofs.words.after.Goals as goal

pub returns-in-Some-clause-found : goal.returns-in-Some-clause-found
returns-in-Some-clause-found c = strip_prefix_is Decides-eqb _ _ (Some c.in-Some.rest) c.in-Some.ensures.cases

pub returns-in-None-clause-none : goal.returns-in-None-clause-none
returns-in-None-clause-none c = strip_prefix_is Decides-eqb _ _ None c.in-None.ensures.cases
