-- The room so far and that of the answers that are left are together the room of all.
use Rattle.std.proofs.Common.{◌≡◌, ◌+◌, drop}
use Rattle.wire_kit.specs.Memory.{total_room}
use Rattle.wire_kit.proofs.memory.room_for.Given as goal

abbrev pub invariant-loop-answer : goal.invariant-loop-answer
invariant-loop-answer l = l.room + total_room (drop l.answer-index l.answers) ≡ total_room l.answers
