-- Without a length the fields haven't both.
use Rattle.std.proofs.Common.{◌&&◌, sym, ap, ◌∙◌}
use Rattle.http_side.proofs.FoundLemmas.{both_found}
use Rattle.http_side.proofs.lengths.LengthFields.has_both.Goals as goal

pub returns-else-is_some : goal.returns-else-is_some
returns-else-is_some c fields said =
    c.if-is_some.false
    ∙ sym (ap (λ b. b && c.args.self.chunked) (sym c.is_some.ensures ∙ c.if-is_some.false))
    ∙ both_found fields c.args.self said
