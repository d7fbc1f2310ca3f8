-- The bytes used of a counted or a chunked body are read as more of that body; only a chunked body can break.
use Rattle.std.proofs.Common.{arith}
use Rattle.http_side.proofs.Grows.{counted, chunks_read, chunks_fault}
use Rattle.http_side.proofs.body.BodyReader.feed.Goals as goal

pub returns-in-Left-clause-read : goal.returns-in-Left-clause-read
returns-in-Left-clause-read c = rw c.read_counted.ensures.part (λ framing text body h.
    counted framing text body c.args.piece.now c.args.self.now c.read_counted.new.self c.in-Left.left c.read_counted.result.used
    c.in-Left.is
    (omega (arith, c.read_counted.ensures.count)) (omega (arith, c.read_counted.ensures.count)) c.read_counted.ensures.place h)

pub returns-in-Chunks-clause-read : goal.returns-in-Chunks-clause-read
returns-in-Chunks-clause-read c = chunks_read c.read_chunks.result c.args.piece.now c.args.self.now c.read_chunks.new.self
    c.in-Chunks.chunks c.in-Chunks.is c.read_chunks.ensures.read

pub returns-in-Chunks-clause-fault : goal.returns-in-Chunks-clause-fault
returns-in-Chunks-clause-fault c = chunks_fault c.read_chunks.result c.args.piece.now c.args.self.now c.in-Chunks.chunks c.in-Chunks.is
    c.read_chunks.ensures.fault
