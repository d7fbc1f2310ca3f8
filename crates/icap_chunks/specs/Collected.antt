-- What a collector has read of a text.
use Rattle.std.specs.Prelude.{◌≡◌, ℕ, List, ◌≤◌, None, length, take}
use Rattle.icap_chunks.specs.declared.pieces.Collector.{Collector}
use Rattle.icap_chunks.specs.Machine.{HasRead, end_of, fault_of}

-- the collector has read the text up to its offset, and has met neither the end nor a fault
pub record HasReadTo (text : List ℕ) (collector : Collector) : Type 0 where
  pub within : collector.at ≤ length text
  pub read : HasRead (take collector.at text) collector.body.items collector.reader
  pub no_end : end_of collector.reader ≡ None
  pub sound : fault_of collector.reader ≡ None
