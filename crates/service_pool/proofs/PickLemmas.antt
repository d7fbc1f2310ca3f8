-- What a test picks among the idle connections.
use Rattle.std.proofs.Common.{◌≡◌, ℕ, ◌+◌, ◌≤◌, ◌<◌, Bool, true, false, List, [], ◌∷◌, ◌++◌, length, slice_index_or, arith, subst, sym, ap}
use Rattle.std.proofs.Common.{◌∙◌, inl, inr, length-append}
use Rattle.std.proofs.Math.Seq.{get_or-append_seam}
use Rattle.std.proofs.lemmas.Bool.Decides.{eqb_tells}
use Rattle.std.proofs.lemmas.List.{get_or_default}
use Rattle.std.specs.Borrow.{Bor}
use Rattle.std.specs.Fn.{Shared, FnReturnsAt}
use Rattle.std.specs.List.{remove}
use Rattle.service_pool.specs.Pooled.{NonePicked, IsFirst, Tests, TakesAt}

-- what is so from an index on, and just before it
pub each_more : (P : ℕ → Type 0) (size n m : ℕ) → m ≡ n + 1 → P n → ((i : ℕ) → m ≤ i → i < size → P i) → (i : ℕ) → n ≤ i → i < size → P i
each_more P size n m next here each i from below =
    elim (eqb_tells n i) [
      | inl e ↦ subst P e.1 here
      | inr e ↦ each i (omega (arith, from, e.1, next)) below
    ]

-- what the test said at an index it said of the connection there
pub said_of : {F C : Type 0} (test : Shared F (Bor C × Unit {0}) Bool) (f : F) (idle : List C) (index : ℕ) (c : C) (said : Bool)
    → index < length idle
    → c ≡ slice_index_or idle index c → Tests test f idle index said → FnReturnsAt test f c said
said_of test f idle index c said within at t = subst (λ d. FnReturnsAt test f d said)
    (t.1 ∙ get_or_default idle index t.0 c within ∙ sym at) t.2

-- where it picks none, it doesn't pick the youngest
pub youngest_said : {F C : Type 0} (test : Shared F (Bor C × Unit {0}) Bool) (f : F) (old new : List C) (c : C) → old ≡ new ++ c ∷ []
    → NonePicked test f old 0 → FnReturnsAt test f c false
youngest_said test f old new c cut none =
    let size : length old ≡ length new + 1 = ap length cut ∙ length-append new (c ∷ []) in
    let within : length new < length old = omega (arith, size) in
    let at : slice_index_or old (length new) c ≡ c = ap (λ l. slice_index_or l (length new) c) cut ∙ get_or-append_seam new c [] c in
    said_of test f old (length new) c false within (sym at) (none (length new) (omega arith) within)

-- the youngest is taken where it picks none of these, which are all
pub takes_unpicked : {F C : Type 0} (test : Shared F (Bor C × Unit {0}) Bool) (f : F) (idle old new : List C) (c : C) → old ≡ idle
    → old ≡ new ++ c ∷ []
    → NonePicked test f idle 0 → FnReturnsAt test f c false × NonePicked test f old 0
takes_unpicked test f idle old new c same cut none =
    let all = subst (λ l. NonePicked test f l 0) (sym same) none in
    (youngest_said test f old new c cut all, all)

-- the first one that it picks of these, which are all
pub takes_picked : {F G C : Type 0} (test : Shared F (Bor C × Unit {0}) Bool) (f : F) (better : Shared G (Bor C × Unit {0}) Bool) (g : G)
    (idle old new : List C) (index : ℕ) (c : C)
    → old ≡ idle → index < length idle → c ≡ slice_index_or idle index c → new ≡ remove idle index → Tests test f idle index true
    → IsFirst test f better g idle index
    → TakesAt test f better g old new index c
takes_picked test f better g idle old new index c same within at rest said first =
    let taken : TakesAt test f better g idle new index c =
    record { within = within; taken = at; rest = rest; picked = said_of test f idle index c true within at said; first = first } in
    subst (λ l. TakesAt test f better g l new index c) (sym same) taken
