-- All bytes so far are a method's.
use Rattle.std.proofs.Common.{ℕ, ◌<◌, IsTrue, get_or}
use Rattle.event_loop.specs.Requests.{is_method_byte}
use Rattle.event_loop.proofs.admin_lines.begins_with_method.Given as goal

abbrev pub invariant-loop-at : goal.invariant-loop-at
invariant-loop-at l = (k : ℕ) → k < l.at → IsTrue (is_method_byte (get_or l.line k 0))
