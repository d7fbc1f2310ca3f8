-- The bytes of a tape by their places, whatever pages they lie on; and the tapes of a reservation with their pages.
use Rattle.std.specs.Prelude.{◌≡◌, ℕ, ◌+◌, ◌-◌, ◌<◌, ◌≤◌, List, length, drop}
use Rattle.span_bank.specs.declared.limits.TheConstants.{MAX_CAPACITY}
use Rattle.span_tape.specs.Tape.{Tape, pages_in}
use Rattle.span_bank.specs.declared.step.TheConstants.{PAGE_BYTES}
use Rattle.span_bank.specs.Stakes.{Shown}

-- bytes from a place on
pub record Span : Type 0 where
  pub base : ℕ
  pub bytes : List ℕ

-- the bytes of a tape
abbrev pub span_of : Tape → Span
span_of t = record { base = t.base; bytes = t.bytes }

-- the place after the last byte
abbrev pub span_end : Span → ℕ
span_end s = s.base + length s.bytes

-- the bytes from a place on
abbrev pub span_from : Span → ℕ → Span
span_from s place = record { base = place; bytes = drop (place - s.base) s.bytes }

-- it has the bytes of a body from its base to the body's last byte so far
pub record EndsBody (s : Span) (body : List ℕ) : Type 0 where
  pub end : span_end s ≡ length body
  pub bytes : s.bytes ≡ drop s.base body

-- both bodies' bytes that are held, and the reservation that is charged with them
pub record Stock : Type 0 where
  pub original : Span
  pub adapted : Span
  pub held : ℕ
  pub claim : ℕ

-- a tape begins on its first page, an empty one at its beginning
pub record IsPaged (t : Tape) : Type 0 where
  pub start : t.start < PAGE_BYTES
  pub empty : length t.bytes ≡ 0 → t.start ≡ 0

-- the reservation is charged with just the tapes' bytes, and has just their pages
pub record IsStocked (original adapted : Tape) (stake : Shown) : Type 0 where
  pub original_paged : IsPaged original
  pub adapted_paged : IsPaged adapted
  pub held : stake.held ≡ length original.bytes + length adapted.bytes
  pub within : stake.held ≤ stake.claim
  pub small : stake.claim ≤ MAX_CAPACITY
  pub pages : stake.pages ≡ pages_in original + pages_in adapted
