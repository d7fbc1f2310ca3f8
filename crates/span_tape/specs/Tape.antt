-- A tape, and the pages that its bytes lie on.
use Rattle.std.specs.Prelude.{ℕ, ◌+◌, ◌-◌, ◌/◌, ◌%◌, nat_lt, if◌then◌else◌, List, length, drop}
use Rattle.span_bank.specs.declared.step.TheConstants.{PAGE_BYTES}

-- the bytes that a tape keeps, the place of the first, and where that one stands on its page
pub record Tape : Type 0 where
  pub base : ℕ
  pub start : ℕ
  pub bytes : List ℕ

-- the place after the last byte
abbrev pub end_of : Tape → ℕ
end_of t = t.base + length t.bytes

-- the pages that this many bytes fill, the last one perhaps in part
abbrev pub page_count : ℕ → ℕ
page_count n = (n + (PAGE_BYTES - 1)) / PAGE_BYTES

-- the pages of a tape
abbrev pub pages_in : Tape → ℕ
pages_in t = page_count (t.start + length t.bytes)

-- the tape from a place on; an empty one begins its next page at its next byte
abbrev pub from_place : Tape → ℕ → Tape
from_place t place = record {
  base = place;
  start = if nat_lt place (end_of t) then (t.start + (place - t.base)) % PAGE_BYTES else 0;
  bytes = drop (place - t.base) t.bytes;
}
