-- As many bytes stand there as turns were made, and the capacity is still the size that was asked for.
use Rattle.std.proofs.Common.{◌≡◌, vec_len}
use Rattle.std.specs.Vec.{vec_capacity}
use Rattle.adapt_bytes.proofs.room.Room.new.Given as goal

abbrev pub invariant-loop : goal.invariant-loop
invariant-loop l = record { written : vec_len l.bytes ≡ l.counter; room : vec_capacity l.bytes ≡ l.fn.size }
