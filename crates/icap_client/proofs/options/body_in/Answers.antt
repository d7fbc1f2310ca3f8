-- A list that can be read says whether there is a body; one that cannot is no list of an OPTIONS answer.
use Rattle.std.proofs.Common.{◌≡◌, ◌∙◌, sym, Ok, Err}
use Rattle.icap_client.proofs.options.body_in.Goals as goal

pub returns-in-Ok-clause-some : goal.returns-in-Ok-clause-some
returns-in-Ok-clause-some c = (c.in-Ok.layout, (c.read.ensures.ok c.in-Ok.layout).0 c.in-Ok.is, c.has_body.ensures)

pub returns-in-Err-clause-none : goal.returns-in-Err-clause-none
returns-in-Err-clause-none c = λ body h.
    let same : Err c.in-Err.field-0 ≡ Ok h.0 = sym c.in-Err.is ∙ (c.read.ensures.ok h.0).1 h.1 in
    cc
