-- The first byte that is none of a method decides.
use Rattle.std.proofs.Common.{◌≡◌, ◌≢◌, ℕ, ◌<◌, inl, inr, List, length, get_or, IsTrue, subst, sym, rules, arith}
use Rattle.std.proofs.lemmas.Bool.{cases_order}
use Rattle.event_loop.specs.Requests.{is_method_byte, BeginsWithMethod}
use Rattle.event_loop.proofs.admin_lines.begins_with_method.Goals as goal

-- a space is no byte of a method
no_space : (b : ℕ) → b ≡ 32 → IsTrue (is_method_byte b) → ⊥
no_space b e h =
    let at_32 : IsTrue (is_method_byte 32) = subst (λ n. IsTrue (is_method_byte n)) e h in
    search (rules, at_32)

-- the bytes before the one that decides are a method's, and it is none, and no space
no_method : (line : List ℕ) (at : ℕ) → ((k : ℕ) → k < at → IsTrue (is_method_byte (get_or line k 0)))
    → (at < length line → get_or line at 0 ≢ 32) → (at < length line → IsTrue (is_method_byte (get_or line at 0)) → ⊥)
    → BeginsWithMethod line → ⊥
no_method line at before other none h =
    elim (cases_order h.count at) as (λ _. ⊥) [
      | inl same ↦
          let within : at < length line = subst (λ n. n < length line) same h.within in
          other within (subst (λ n. get_or line n 0 ≡ 32) same h.space)
      | inr (inl less) ↦ no_space (get_or line h.count 0) h.space (before h.count less)
      | inr (inr more) ↦
          let within : at < length line = omega (arith, h.within) in
          none within (h.method at more)
    ]

-- a space stands after a method's first byte
behind_first : (line : List ℕ) (at : ℕ) → get_or line at 0 ≡ 32 → BeginsWithMethod line → 0 < at
behind_first line at space h =
    elim (cases_order 0 at) as (λ _. 0 < at) [
      | inl first ↦ absurd (no_space (get_or line 0 0) (subst (λ n. get_or line n 0 ≡ 32) (sym first) space) (h.method 0 h.some))
      | inr (inl some) ↦ some
      | inr (inr less) ↦ absurd (omega (arith, less))
    ]

pub returns-then-byte-eq32 : goal.returns-then-byte-eq32
returns-then-byte-eq32 c = (
  λ first. record {
    count = c.loop-at.at;
    some = search (rules, first);
    method = c.loop-at.invariant;
    within = c.loop-at-test.true;
    space = c.if-byte-eq32.true;
  },
  λ h. let some : 0 < c.loop-at.at = behind_first c.args.line.now c.loop-at.at c.if-byte-eq32.true h in search (rules, some),
)
