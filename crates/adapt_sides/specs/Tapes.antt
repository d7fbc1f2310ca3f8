-- Which bytes a tape has, and which of the two bodies the next hop gets.
use Rattle.std.specs.Prelude.{◌≡◌, ℕ, ◌≤◌, Bool, false, List, [], length, drop, if◌then◌else◌}
use Rattle.trace_core.specs.declared.history.Seen.{Seen}
use Rattle.trace_core.specs.Legal.{MaySend}
use Rattle.trace_core.specs.Faults.{chooses_original}
use Rattle.span_tape.specs.Tape.{Tape, end_of}

-- a tape has the bytes of a body from its base to the body's last byte so far
pub record Follows (t : Tape) (body : List ℕ) : Type 0 where
  pub end : end_of t ≡ length body
  pub bytes : t.bytes ≡ drop t.base body

-- Of the chosen message: the bytes of its body that came, those that went out, and whether it has ended.

abbrev pub chosen_received : Seen → ℕ
chosen_received x = if chooses_original x then x.received else x.adapted_received

abbrev pub chosen_delivered : Seen → ℕ
chosen_delivered x = if chooses_original x then x.original_delivered else x.adapted_delivered

abbrev pub chosen_over : Seen → Bool
chosen_over x = if chooses_original x then x.ended else x.adapted_over

-- no byte of a body went out
abbrev pub IsUndelivered : Seen → Type 0
IsUndelivered x = (x.original_delivered ≡ 0) × (x.adapted_delivered ≡ 0)

-- the bytes that came of its body
abbrev pub chosen : Seen → List ℕ → List ℕ → List ℕ
chosen x original adapted = if chooses_original x then original else if x.modified then adapted else []

-- the original's tape has what may still go to the service
pub record KeepsUnsent (x : Seen) (t : Tape) : Type 0 where
  pub end : end_of t ≡ x.received
  pub base : x.closed ≡ false → MaySend x → t.base ≤ x.sent

-- the chosen message's tape begins with what goes to the next hop next
pub record KeepsUndelivered (x : Seen) (t : Tape) : Type 0 where
  pub end : end_of t ≡ chosen_received x
  pub base : x.closed ≡ false → t.base ≡ chosen_delivered x
