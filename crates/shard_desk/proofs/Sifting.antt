-- A walk over connections that lie idle, from the youngest on: each stays or goes.
use Rattle.std.proofs.Common.{◌≡◌, ℕ, suc, zero, ◌+◌, ◌-◌, ◌<◌, ◌≤◌, ◌⊎◌, inl, inr, List, [], ◌∷◌, ◌++◌, take, drop, length, slice_index_or}
use Rattle.std.proofs.Common.{append-nil, refl, sym, ap, ◌∙◌, subst, arith, Some, None}
use Rattle.std.specs.Prelude.{remove}
use Rattle.std.proofs.lemmas.List.{length-append, length-take, drop_all, take_all}
use Rattle.shard_desk.specs.Kept.{IsSifted, IsSiftedAt, IsPassed, IsTaken, IsTakenBy}

-- what is known of one in the midst: those before it and those after it, and what is left without it
record Mid {C : Type 0} (old all rest : List C) (j : ℕ) (x : C) : Type 0 where
  younger : drop j old ≡ x ∷ drop (suc j) old
  whole : all ≡ take j old ++ x ∷ rest
  without : remove all j ≡ take j old ++ rest
  parts : old ≡ take j old ++ x ∷ drop (suc j) old

-- the last of the first old connections stands between those before it and the rest
mid : {C : Type 0} → (old rest : List C) (j : ℕ) (x : C) → j < length old → x ≡ slice_index_or (take (suc j) old ++ rest) j x
    → Mid old (take (suc j) old ++ rest) rest j x
mid [] rest j x h e = absurd (omega (arith, h))
mid (y ∷ old) rest zero x h e = record {
  younger = ap (λ z. z ∷ old) (sym e);
  whole = ap (λ z. z ∷ rest) (sym e);
  without = refl;
  parts = ap (λ z. z ∷ old) (sym e);
}
mid (y ∷ old) rest (suc j) x h e =
    let m = mid old rest j x (omega (arith, h)) e in
    record {
      younger = m.younger;
      whole = ap (λ l. y ∷ l) m.whole;
      without = ap (λ l. y ∷ l) m.without;
      parts = ap (λ l. y ∷ l) m.parts;
    }

-- the walk has come to this place: those before it are as they were, and those from it on were sifted
pub record Walked {C : Type 0} (stays goes : C → Type 0) (old all : List C) (k : ℕ) : Type 0 where
  pub rest : List C
  pub all_is : all ≡ take k old ++ rest
  pub sifted : IsSifted stays goes (drop k old) rest

-- at the beginning
pub begins : {C : Type 0} → (stays goes : C → Type 0) → (old : List C) (k : ℕ) → length old ≤ k → Walked stays goes old old k
begins stays goes old k h = record {
  rest = [];
  all_is = sym (ap (λ l. l ++ []) (take_all k old h) ∙ append-nil old);
  sifted = subst (λ l. IsSifted stays goes l []) (sym (drop_all k old h)) refl;
}

-- the connection to which a walk comes next stands between those before it and the rest
mid_of : {C : Type 0} → (stays goes : C → Type 0) → (old all : List C) (k j : ℕ) (x : C) → (w : Walked stays goes old all k) → k ≡ suc j
    → j < length old
    → x ≡ slice_index_or all j x → Mid old all w.rest j x
mid_of stays goes old all k j x w e h at =
    let all_is : all ≡ take (suc j) old ++ w.rest = w.all_is ∙ ap (λ n. take n old ++ w.rest) e in
    subst (λ l. Mid old l w.rest j x) (sym all_is) (mid old w.rest j x h (subst (λ l. x ≡ slice_index_or l j x) all_is at))

-- one that stays
pub stays_on : {C : Type 0} → (stays goes : C → Type 0) → (old all new : List C) (k j : ℕ) (x : C) → Walked stays goes old all k → k ≡ suc j
    → j < length old
    → x ≡ slice_index_or all j x → new ≡ all → stays x → Walked stays goes old new j
stays_on stays goes old all new k j x w e h at same stay =
    let m = mid_of stays goes old all k j x w e h at in
    record {
      rest = x ∷ w.rest;
      all_is = same ∙ m.whole;
      sifted = subst (λ l. IsSifted stays goes l (x ∷ w.rest)) (sym m.younger)
          (inr (stay, (w.rest, refl, subst (λ n. IsSifted stays goes (drop n old) w.rest) e w.sifted)));
    }

-- one that goes
pub goes_away : {C : Type 0} → (stays goes : C → Type 0) → (old all new : List C) (k j : ℕ) (x : C) → Walked stays goes old all k
    → k ≡ suc j → j < length old
    → x ≡ slice_index_or all j x → new ≡ remove all j → goes x → Walked stays goes old new j
goes_away stays goes old all new k j x w e h at same go =
    let m = mid_of stays goes old all k j x w e h at in
    record {
      rest = w.rest;
      all_is = same ∙ m.without;
      sifted = subst (λ l. IsSifted stays goes l w.rest) (sym m.younger)
          (inl (go, subst (λ n. IsSifted stays goes (drop n old) w.rest) e w.sifted));
    }

-- one that is taken
pub is_taken : {C : Type 0} → (leads fit unfit unsure : C → Type 0) → (old all new : List C) (k j : ℕ) (x : C)
    → Walked (λ idle. (leads idle → ⊥) ⊎ unsure idle) (λ idle. leads idle × unfit idle) old all k → k ≡ suc j → j < length old
    → IsPassed leads fit unfit unsure j all new (Some x) → IsTakenBy leads fit unfit unsure old new (Some x)
is_taken leads fit unfit unsure old all new k j x w e h passed =
    let stays : (x : _) → Type 0 = λ idle. (leads idle → ⊥) ⊎ unsure idle in
    let goes : (x : _) → Type 0 = λ idle. leads idle × unfit idle in
    let m = mid_of stays goes old all k j x w e h passed.0 in (
      passed.1,
      passed.2,
      (
        take j old,
        drop (suc j) old,
        w.rest,
        m.parts,
        passed.3 ∙ m.without,
        subst (λ n. IsSifted stays goes (drop n old) w.rest) e w.sifted,
      ),
    )

-- one that isn't
pub walks_on : {C : Type 0} → (leads fit unfit unsure : C → Type 0) → (old all new : List C) (k j : ℕ)
    → Walked (λ idle. (leads idle → ⊥) ⊎ unsure idle) (λ idle. leads idle × unfit idle) old all k → k ≡ suc j → j < length old
    → IsPassed leads fit unfit unsure j all new None
    → Walked (λ idle. (leads idle → ⊥) ⊎ unsure idle) (λ idle. leads idle × unfit idle) old new j
walks_on leads fit unfit unsure old all new k j w e h (x, at, inl (lead, bad, gone)) =
    goes_away (λ idle. (leads idle → ⊥) ⊎ unsure idle) (λ idle. leads idle × unfit idle) old all new k j x w e h at gone (lead, bad)
walks_on leads fit unfit unsure old all new k j w e h (x, at, inr (stay, same)) =
    stays_on (λ idle. (leads idle → ⊥) ⊎ unsure idle) (λ idle. leads idle × unfit idle) old all new k j x w e h at same stay

-- a walk comes one place further with one that stays or goes there
pub sifts_on : {C : Type 0} → (stays goes : C → Type 0) → (old all new : List C) (k j : ℕ)
    → Walked stays goes old all k → k ≡ suc j → j < length old → IsSiftedAt stays goes j all new → Walked stays goes old new j
sifts_on stays goes old all new k j w e h (x, at, inl (go, gone)) = goes_away stays goes old all new k j x w e h at gone go
sifts_on stays goes old all new k j w e h (x, at, inr (stay, same)) = stays_on stays goes old all new k j x w e h at same stay

-- the next index, counted from the end
pub one_less : (count passed : ℕ) → passed < count → count - passed ≡ suc (count - 1 - passed)
one_less count passed h = omega (arith, h)

-- the next index, counted from the end, is below the count
pub below : (count passed : ℕ) → passed < count → count - 1 - passed < count
below count passed h = omega (arith, h)

-- as many are left when one more has passed as when there is one less
pub index_after : (count passed : ℕ) → count - (passed + 1) ≡ count - 1 - passed
index_after count passed = omega arith

-- at the end
pub ends : {C : Type 0} → (stays goes : C → Type 0) → (old all : List C) (k : ℕ) → k ≡ 0 → Walked stays goes old all k
    → IsSifted stays goes old all
ends stays goes old all k e w =
    let all_is : all ≡ w.rest = w.all_is ∙ ap (λ n. take n old ++ w.rest) e in
    subst (λ l. IsSifted stays goes old l) (sym all_is) (subst (λ n. IsSifted stays goes (drop n old) w.rest) e w.sifted)

-- how many there are is known
pub walked_length : {C : Type 0} → (stays goes : C → Type 0) → (old all : List C) (k : ℕ) → k ≤ length old → Walked stays goes old all k
    → k ≤ length all
walked_length stays goes old all k h w =
    let l = ap length w.all_is ∙ length-append (take k old) w.rest in
    let t = length-take k old in
    omega (arith, l, t, h)

-- one that a walk left was there before it
pub was_there : {C : Type 0} → (stays goes : C → Type 0) → (old new older younger : List C) (x : C) → IsSifted stays goes old new
    → new ≡ older ++ x ∷ younger
    → (before : List C) × (after : List C) × (old ≡ before ++ x ∷ after)
was_there stays goes [] new [] younger x sifted e = let none : [] ≡ x ∷ younger = sym sifted ∙ e in absurd cc
was_there stays goes [] new (z ∷ older) younger x sifted e = let none : [] ≡ z ∷ (older ++ x ∷ younger) = sym sifted ∙ e in absurd cc
was_there stays goes (y ∷ old) new older younger x (inl gone) e =
    let there = was_there stays goes old new older younger x gone.1 e in
    (y ∷ there.0, there.1, ap (λ l. y ∷ l) there.2)
was_there stays goes (y ∷ old) new [] younger x (inr stayed) e =
    let both : y ∷ stayed.1.0 ≡ x ∷ younger = sym stayed.1.1 ∙ e in
    let same : y ≡ x = cc in
    ([], old, ap (λ z. z ∷ old) same)
was_there stays goes (y ∷ old) new (z ∷ older) younger x (inr stayed) e =
    let both : y ∷ stayed.1.0 ≡ z ∷ (older ++ x ∷ younger) = sym stayed.1.1 ∙ e in
    let same : stayed.1.0 ≡ older ++ x ∷ younger = cc in
    let there = was_there stays goes old stayed.1.0 older younger x stayed.1.2 same in
    (y ∷ there.0, there.1, ap (λ l. y ∷ l) there.2)

-- one that is taken lay idle among them
pub lay_there : {C : Type 0} → (leads fit unfit unsure : C → Type 0) → (old new : List C) (x : C)
    → IsTaken leads fit unfit unsure old new (Some x)
    → (before : List C) × (after : List C) × (old ≡ before ++ x ∷ after)
lay_there leads fit unfit unsure old new x (inl (some, taken)) = (taken.2.0, taken.2.1, taken.2.3)
lay_there leads fit unfit unsure old new x (inr taken) =
    let second = taken.2.2 in
    was_there (λ idle. (leads idle → ⊥) ⊎ unsure idle) (λ idle. leads idle × unfit idle) old taken.0 second.0 second.1 x taken.1 second.3
