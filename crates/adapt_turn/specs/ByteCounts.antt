-- How many bytes a call moved over a transaction's wires.
use Rattle.std.specs.Prelude.{◌≡◌, ℕ, ◌+◌, ◌-◌, ◌^◌, length, min}
use Rattle.wire_kit.specs.Past.{Past}

-- the bytes that a wire gave and took between two moments
abbrev pub bytes_between : Past → Past → ℕ
bytes_between p q = (length q.read - length p.read) + (length q.taken - length p.taken)

-- this many, whatever may have happened on it before and after
abbrev pub MovesOver : (before after : Past → Type 0) → ℕ → Type 0
MovesOver before after n = (p q : Past) → before p → after q → bytes_between p q ≡ n

-- How many bytes went over each of the three wires.
pub record Moves : Type 1 where
  pub source : ℕ → Type 0
  pub service : ℕ → Type 0
  pub next : ℕ → Type 0

-- n is the sum over the three wires, as far as 64 bits count
pub record SumsBytes (over : Moves) (n : ℕ) : Type 0 where
  pub source : ℕ
  pub service : ℕ
  pub next : ℕ
  pub source_is : over.source source
  pub service_is : over.service service
  pub next_is : over.next next
  pub sum : n ≡ min (source + service + next) (2 ^ 64 - 1)

-- these are a wire's counts: the bytes that it gave, and those that it took
abbrev pub AreCounts : (ℕ × ℕ) → (Past → Type 0) → Type 0
AreCounts counts past = (p : Past) → past p → (counts.0 ≡ length p.read) × (counts.1 ≡ length p.taken)

-- what was counted between two moments
abbrev pub counted : (before after : ℕ × ℕ) → ℕ
counted before after = (after.0 - before.0) + (after.1 - before.1)
