-- What stays so of a message on its way.
use Rattle.std.proofs.Common.{◌≡◌, ℕ, zero, suc, Option, Some, None, IfSome, IsSomeAnd, refl, sym, subst, ◌∙◌}
use Rattle.shard_message.specs.Outset.{Outset}
use Rattle.shard_message.specs.Way.{AreSteps, Carries, IsSince}

-- what each step carries, many carry
pub carried_by_steps : {U S O M H : Type 0} (since : Outset U S O → M → Type 0) (tx : H → Option M) (step : H → H → Type 0)
    → ((one next : H) → step one next → Carries since (tx one) (tx next)) → (n : ℕ) (old new : H) → AreSteps step n old new
    → Carries since (tx old) (tx new)
carried_by_steps {H = H} since tx step carries zero old new same s h = subst (λ (z : H). IsSince since s (tx z)) (sym same) h
carried_by_steps since tx step carries (suc n) old new steps s h =
    carried_by_steps since tx step carries n steps.0 new steps.2 s (carries old steps.0 steps.1 s h)

-- it stays as it is
pub carried_as_it_is : {U S O M : Type 0} (since : Outset U S O → M → Type 0) (old new : Option M) → new ≡ old → Carries since old new
carried_as_it_is since old new same s h = record { tx = h.tx; moves = same ∙ h.moves; line = h.line; given = h.given; stands = h.stands }

-- what a round of turns makes of it, and then what comes of its service's connection
after_round : {U S O M : Type 0} (since : Outset U S O → M → Type 0) (turns : M → M → Type 0)
    (becomes : Outset U S O → (line given : Option S) → Type 0) (frees : M → Type 0) (gone : M → Outset U S O → Option S)
    (old turned new : Option M) (s : Outset U S O) (tx : M) → since s tx → old ≡ Some tx
    → IfSome old (λ tx. IfSome turned (λ next. turns tx next × ((s : Outset U S O) → since s tx
    → (line : Option S) × (given : Option S) × becomes s line given × since (record s { line = line; given = given }) next)))
    → IsSomeAnd turned (λ tx. frees tx × IsSomeAnd new (λ next. (s : Outset U S O) → since s tx
    → (given : Option S) × (given ≡ gone tx s) × since (record s { given = given }) next))
    → IsSince since s new
after_round since turns becomes frees gone None turned new s tx h is round freed = absurd cc
after_round since turns becomes frees gone (Some m) None new s tx h is round freed = absurd freed
after_round since turns becomes frees gone (Some m) (Some next) None s tx h is round freed = absurd freed.1
after_round {M = M} since turns becomes frees gone (Some m) (Some next) (Some last) s tx h is round freed =
    let m_is : m ≡ tx = cc in
    let r = round.1 s (subst (λ (z : M). since s z) (sym m_is) h) in
    let f = freed.1 (record s { line = r.0; given = r.1 }) r.3 in
    record { tx = last; moves = refl; line = r.0; given = f.0; stands = f.2 }

-- it goes through a round of turns, after which its service's connection comes out of it, or doesn't
pub carried_by_round : {U S O M : Type 0} (since : Outset U S O → M → Type 0) (turns : M → M → Type 0)
    (becomes : Outset U S O → (line given : Option S) → Type 0) (frees : M → Type 0) (gone : M → Outset U S O → Option S)
    (old turned new : Option M)
    → IfSome old (λ tx. IfSome turned (λ next. turns tx next × ((s : Outset U S O) → since s tx
    → (line : Option S) × (given : Option S) × becomes s line given × since (record s { line = line; given = given }) next)))
    → IsSomeAnd turned (λ tx. frees tx × IsSomeAnd new (λ next. (s : Outset U S O) → since s tx
    → (given : Option S) × (given ≡ gone tx s) × since (record s { given = given }) next))
    → Carries since old new
carried_by_round since turns becomes frees gone old turned new round freed s h =
    let later = after_round since turns becomes frees gone old turned new (record s { line = h.line; given = h.given })
    h.tx h.stands h.moves round freed in
    record { tx = later.tx; moves = later.moves; line = later.line; given = later.given; stands = later.stands }
