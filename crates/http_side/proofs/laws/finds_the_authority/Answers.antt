-- The authority that is cut out of a served target is that of its URI.
use Rattle.http_side.proofs.TargetForms.{finds_authority}
use Rattle.http_side.proofs.laws.finds_the_authority.Goals as goal

pub returns : goal.returns
returns c = finds_authority
