-- What a wire over a stream may have done so far: all that has its counts, and went over the stream.
use Rattle.wire_kit.specs.Past.{Past}
use Rattle.socket_wire.specs.Answers.{but_waits}
use Rattle.socket_wire.specs.Counting.{HasCounts}
use Rattle.socket_wire.specs.declared.socket.StreamWire.{StreamWire}

pub record IsPast {S : Type 0} (over : S → Past → Type 0) (wire : StreamWire S) (p : Past) : Type 0 where
  -- each byte, each end and each fault is in the wire's counts
  pub counts : HasCounts wire.tally p
  -- the bytes are those that the stream's calls gave and took, and an end and a fault is each one of its calls
  pub calls : over wire.stream (but_waits p)
