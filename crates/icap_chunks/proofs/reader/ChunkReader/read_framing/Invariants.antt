-- The reader has read just the bytes so far, and paused before none of them.
use Rattle.std.proofs.Common.{◌≡◌, ℕ, ◌<◌, false, take}
use Rattle.icap_chunks.specs.Machine.{run, pauses_at}
use Rattle.icap_chunks.proofs.reader.ChunkReader.read_framing.Given as goal

abbrev pub invariant-loop-byte : goal.invariant-loop-byte
invariant-loop-byte l = record {
  used : l.used ≡ l.byte-index;
  read : l.self ≡ run l.fn.self (take l.used l.piece);
  framing : (k : ℕ) → k < l.used → pauses_at (run l.fn.self (take k l.piece)).place ≡ false;
}
