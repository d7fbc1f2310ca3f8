-- How many bytes went over the wires.
use Rattle.std.proofs.Common.{◌≡◌, ℕ, Bool, true, false, ◌+◌, ◌-◌, ◌<◌, ◌^◌, length, Option, Some, None, arith, refl, sym, ◌∙◌, ap, subst}
use Rattle.std.specs.Prelude.{MatchOption, ⊤, min}
use Rattle.wire_kit.specs.Past.{Past}
use Rattle.adapt_turn.specs.declared.ends.ServiceEnd.{ServiceEnd}
use Rattle.adapt_turn.specs.ChosenHead.{wire_of, on_held}
use Rattle.adapt_turn.specs.ByteCounts.{MovesOver, Moves, SumsBytes, AreCounts, counted}
use Rattle.adapt_turn.specs.Rows.{BytesOr}

-- between two moments of a wire as many bytes went over it as its counts differ by
moves_over : (before after_ : Past → Type 0) (c d : ℕ × ℕ) → AreCounts c before → AreCounts d after_ → MovesOver before after_ (counted c d)
moves_over before after_ c d f g = λ p q b a.
    let u = f p b in
    let w = g q a in
    ap (λ (k : ℕ). (length q.read - k) + (length q.taken - length p.taken)) (sym u.0)
    ∙ ap (λ (k : ℕ). (k - c.0) + (length q.taken - length p.taken)) (sym w.0)
    ∙ ap (λ (k : ℕ). (d.0 - c.0) + (length q.taken - k)) (sym u.1)
    ∙ ap (λ (k : ℕ). (d.0 - c.0) + (k - c.1)) (sym w.1)

-- over a wire that may not be there as many bytes went as its counts differ by, and none where there is none
over_wire : {L : Type 0} (past : L → Past → Type 0) (line line' : Option L) (c d : ℕ × ℕ)
    → MatchOption line ((c.0 ≡ 0) × (c.1 ≡ 0)) (λ l. AreCounts c (past l))
    → MatchOption line' ((d.0 ≡ 0) × (d.1 ≡ 0)) (λ l. AreCounts d (past l)) → (line ≡ None → line' ≡ None)
    → MatchOption line (counted c d ≡ 0) (λ l. MovesOver (past l) (λ p. MatchOption line' ⊥ (λ m. past m p)) (counted c d))
over_wire past None None c d f g none = let f0 = f.0 in let f1 = f.1 in let g0 = g.0 in let g1 = g.1 in omega (arith, f0, f1, g0, g1)
over_wire past None (Some m) c d f g none = absurd (let e : Some m ≡ None = none refl in cc)
over_wire past (Some l) None c d f g none = λ p q b a. absurd a
over_wire past (Some l) (Some m) c d f g none = moves_over (past l) (past m) c d f g

-- over the service's wire as many bytes went as its counts differ by, and none where its connection isn't held
over_line : {V W : Type 0} (past : W → Past → Type 0) (line line' : Option (ServiceEnd V W)) (c d : ℕ × ℕ)
    → on_held line ((c.0 ≡ 0) × (c.1 ≡ 0)) (λ w. AreCounts c (past w)) → on_held line' ((d.0 ≡ 0) × (d.1 ≡ 0)) (λ w. AreCounts d (past w))
    → (wire_of line ≡ None → wire_of line' ≡ None)
    → on_held line (counted c d ≡ 0) (λ w. MovesOver (past w) (λ p. on_held line' ⊥ (λ m. past m p)) (counted c d))
over_line {V} {W} past None None c d f g none = over_wire past None None c d f g none
over_line {V} {W} past None (Some m) c d f g none = over_wire past None m.wire c d f g none
over_line {V} {W} past (Some l) None c d f g none = over_wire past l.wire None c d f g none
over_line {V} {W} past (Some l) (Some m) c d f g none = over_wire past l.wire m.wire c d f g none

-- what went over the wires, by their pasts
abbrev over_wires : {A C V W : Type 0} → (A → Past → Type 0) → (W → Past → Type 0) → (C → Past → Type 0) → A → A → Option (ServiceEnd V W)
    → Option (ServiceEnd V W) → C → C → Moves
over_wires on_source on_wire on_next a a' line line' x x' = record {
  source = MovesOver (on_source a) (on_source a');
  service = λ k. on_held line (k ≡ 0) (λ w. MovesOver (on_wire w) (λ p. on_held line' ⊥ (λ m. on_wire m p)) k);
  next = MovesOver (on_next x) (on_next x');
}

-- what the counts before and after a call say
pub moves_of : {A C V W : Type 0} (on_source : A → Past → Type 0) (on_wire : W → Past → Type 0) (on_next : C → Past → Type 0) (a a' a2 : A)
    (line line' line2 : Option (ServiceEnd V W)) (x x' x2 : C) (c0 d0 c1 d1 c2 d2 : ℕ × ℕ) (n : ℕ)
    → AreCounts c0 (on_source a) → AreCounts d0 (on_source a')
    → on_held line ((c1.0 ≡ 0) × (c1.1 ≡ 0)) (λ w. AreCounts c1 (on_wire w))
    → on_held line' ((d1.0 ≡ 0) × (d1.1 ≡ 0)) (λ w. AreCounts d1 (on_wire w))
    → AreCounts c2 (on_next x) → AreCounts d2 (on_next x')
    → (wire_of line ≡ None → wire_of line' ≡ None) → a2 ≡ a' → line2 ≡ line' → x2 ≡ x'
    → n ≡ min (counted c0 d0 + counted c1 d1 + counted c2 d2) (2 ^ 64 - 1)
    → SumsBytes (over_wires on_source on_wire on_next a a2 line line2 x x2) n
moves_of {A} {C} {V} {W} on_source on_wire on_next a a' a2 line line' line2 x x' x2 c0 d0 c1 d1 c2 d2 n f0 g0 f1 g1 f2 g2 none ea el ex e =
    subst (λ (z : A). SumsBytes (over_wires on_source on_wire on_next a z line line2 x x2) n) (sym ea)
    (subst (λ (z : Option (ServiceEnd V W)). SumsBytes (over_wires on_source on_wire on_next a a' line z x x2) n) (sym el)
    (subst (λ (z : C). SumsBytes (over_wires on_source on_wire on_next a a' line line' x z) n) (sym ex)
    (record {
      source = counted c0 d0;
      service = counted c1 d1;
      next = counted c2 d2;
      source_is = moves_over (on_source a) (on_source a') c0 d0 f0 g0;
      service_is = over_line on_wire line line' c1 d1 f1 g1 none;
      next_is = moves_over (on_next x) (on_next x') c2 d2 f2 g2;
      sum = e;
    })))

-- wires that a call left as they were
none_counted : (c0 c1 c2 : ℕ × ℕ) → 0 ≡ min (counted c0 c0 + counted c1 c1 + counted c2 c2) (2 ^ 64 - 1)
none_counted c0 c1 c2 = let e : 0 ≡ counted c0 c0 + counted c1 c1 + counted c2 c2 = omega arith in ap (λ (k : ℕ). min k (2 ^ 64 - 1)) e

-- wires that a call left as they were moved no byte
pub moves_none : {A C V W : Type 0} (on_source : A → Past → Type 0) (on_wire : W → Past → Type 0) (on_next : C → Past → Type 0) (a a' : A)
    (line line' : Option (ServiceEnd V W)) (x x' : C) (c0 c1 c2 : ℕ × ℕ) (n : ℕ)
    → AreCounts c0 (on_source a) → on_held line ((c1.0 ≡ 0) × (c1.1 ≡ 0)) (λ w. AreCounts c1 (on_wire w)) → AreCounts c2 (on_next x)
    → a' ≡ a → line' ≡ line → x' ≡ x → n ≡ 0
    → SumsBytes (over_wires on_source on_wire on_next a a' line line' x x') n
moves_none {A} {C} {V} {W} on_source on_wire on_next a a' line line' x x' c0 c1 c2 n f0 f1 f2 ea el ex e =
    moves_of on_source on_wire on_next a a a' line line line' x x x' c0 c0 c1 c1 c2 c2 n f0 f0 f1 f1 f2 f2 (λ none. none) ea el ex
    (e ∙ none_counted c0 c1 c2)

-- where none went over all of them, none went over each
pub none_over : (over : Moves) (n : ℕ) → n ≡ 0 → SumsBytes over n → over.source 0 × over.service 0 × over.next 0
none_over over n z w =
    let e = w.sum in
    let a : w.source ≡ 0 = omega (arith, e, z) in
    let b : w.service ≡ 0 = omega (arith, e, z) in
    let c : w.next ≡ 0 = omega (arith, e, z) in
    (subst over.source a w.source_is, subst over.service b w.service_is, subst over.next c w.next_is)

-- what would put nothing below nothing isn't so
pub waiting_not : (waiting : Bool) → (waiting ≡ true → 0 < 0) → waiting ≡ false
waiting_not true n = absurd (let e = n refl in omega (arith, e))
waiting_not false n = refl

-- a line over which no byte went
abbrev none_moved : ℕ
none_moved = 0

-- if a byte went over a wire that is there or this is so, this is so where none went
some_wire : {L : Type 0} (past : L → Past → Type 0) (line line' : Option L) (this : Type 0) (p : Past) → MatchOption line ⊤ (λ l. past l p)
    → MatchOption line (none_moved ≡ 0) (λ l. MovesOver (past l) (λ q. MatchOption line' ⊥ (λ m. past m q)) none_moved)
    → (line ≡ None → ⊥) → BytesOr this (λ q. MatchOption line ⊥ (λ l. past l q)) (λ q. MatchOption line' ⊥ (λ m. past m q)) → this
some_wire past None line' this p b k n act = absurd (n refl)
some_wire past (Some l) line' this p b k n act = let v = act p b in v.4 (k p v.0 b v.1)

-- if a byte went over a held connection or this is so, this is so where none went
pub some_line : {V W : Type 0} (past : W → Past → Type 0) (line line' : Option (ServiceEnd V W)) (this : Type 0) (p : Past)
    → on_held line ⊤ (λ w. past w p)
    → on_held line (none_moved ≡ 0) (λ w. MovesOver (past w) (λ q. on_held line' ⊥ (λ m. past m q)) none_moved)
    → (wire_of line ≡ None → ⊥) → BytesOr this (λ q. on_held line ⊥ (λ w. past w q)) (λ q. on_held line' ⊥ (λ m. past m q)) → this
some_line {V} {W} past None None this p b k n act = absurd (n refl)
some_line {V} {W} past None (Some m) this p b k n act = absurd (n refl)
some_line {V} {W} past (Some l) None this p b k n act = some_wire past l.wire None this p b k n act
some_line {V} {W} past (Some l) (Some m) this p b k n act = some_wire past l.wire m.wire this p b k n act
