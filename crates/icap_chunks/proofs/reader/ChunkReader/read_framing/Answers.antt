-- A byte that is read where the reader doesn't pause is one more byte of framing.
use Rattle.std.proofs.Common.{arith, sym, ◌∙◌, below_more}
use Rattle.icap_chunks.proofs.Runs.{run_more}
use Rattle.icap_chunks.proofs.reader.ChunkReader.read_framing.Goals as goal

pub loop-byte-preserved : goal.loop-byte-preserved
loop-byte-preserved c =
    let i = c.loop-byte.invariant in
    let more = run_more c.args.self.now c.args.piece.now c.loop-byte.used (omega arith) in
    record {
      used = omega arith;
      read = c.step.ensures ∙ rw (i.read, i.used) (sym (rw i.used at more));
      framing = below_more _ _ i.framing (rw (sym i.read) (sym c.pauses.ensures ∙ c.if-pauses.false));
    }
