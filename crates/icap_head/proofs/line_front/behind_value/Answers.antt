-- A line that has come to its value is still there with one more value byte.
use Rattle.std.proofs.Common.{sym, ◌∙◌}
use Rattle.icap_head.proofs.LineFront.{more_value}
use Rattle.icap_head.proofs.line_front.behind_value.Goals as goal

pub returns-then-is_value_byte : goal.returns-then-is_value_byte
returns-then-is_value_byte c = λ line at. more_value line c.args.byte at (sym c.is_value_byte.ensures ∙ c.if-is_value_byte.true)
