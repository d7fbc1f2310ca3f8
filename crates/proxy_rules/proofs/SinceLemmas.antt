-- What the wires gave and took since a transaction began, call by call.
use Rattle.std.proofs.Common.{◌≡◌, ℕ, false, List, [], ◌++◌, Option, Some, None, MatchOption, IfSome, is_some, refl, sym, ap, subst, ◌∙◌}
use Rattle.std.proofs.lemmas.List.{append-nil, append_assoc}
use Rattle.wire_kit.specs.Past.{Past, IsLater}
use Rattle.wire_kit.specs.declared.wire.Wire.{Ghosts as Wire}
use Rattle.adapt_turn.specs.declared.ends.ServiceEnd.{ServiceEnd}
use Rattle.adapt_turn.specs.declared.ends.FreedConnection.{FreedConnection}
use Rattle.adapt_turn.specs.ChosenHead.{wire_of, without_wire, on_held}
use Rattle.adapt_turn.specs.Stands.{Texts, Goes, joined, no_texts}
use Rattle.adapt_turn.proofs.Together.{no_later, later_then, of_five, given_assoc, ends_then}
use Rattle.proxy_rules.specs.Grown.{Grown}
use Rattle.proxy_rules.specs.Wires.{begun_with}
use Rattle.proxy_rules.specs.Since.{Snapshot, Since, SourceGrown, LineGrown, first_snapshot, held_or, freed_wire, anew_on, given_up}

-- a wire that is as it was gave and took nothing
pub grown_none : (past : Past → Type 0) → Grown past past [] []
grown_none past = λ p b. (p, b, no_later p)

-- what a wire gave and took up to a moment, and then after it, is what it gave and took in all
pub grown_then : (before mid after : Past → Type 0) (g t g' t' : List ℕ) → Grown before mid g t → Grown mid after g' t'
    → Grown before after (g ++ g') (t ++ t')
grown_then before mid after g t g' t' f h = λ p b. let w = f p b in let v = h w.0 w.1 in (v.0, v.1, later_then p w.0 v.0 g t g' t' w.2 v.2)

-- A connection that is held: what is so of it is told by its wire alone.

-- what is so of the connection that a service holds is so of its wire
by_wire : {V W : Type 0} (service : Option (ServiceEnd V W)) (P : W → Type 0) → on_held service ⊥ P → MatchOption (wire_of service) ⊥ P
by_wire None P h = h
by_wire (Some l) P h = h

-- what is so of a service's wire is so of the connection that it holds
on_wire : {V W : Type 0} (service : Option (ServiceEnd V W)) (P : W → Type 0) → MatchOption (wire_of service) ⊥ P → on_held service ⊥ P
on_wire None P h = h
on_wire (Some l) P h = h

abbrev GoesOver : {W : Type 0} → Wire W → (old new : Option W) → (given taken : List ℕ) → Type 0
GoesOver w old new given taken = (p : Past) → MatchOption old ⊥ (λ wire. w.past wire p)
    → (q : Past) × MatchOption new ⊥ (λ wire. w.past wire q) × IsLater p given taken q

-- two texts without a byte have none together
none_more : (xs ys : List ℕ) → xs ≡ [] → ys ≡ [] → xs ++ ys ≡ []
none_more xs ys e f = ap (λ (zs : List ℕ). zs ++ ys) e ∙ f

-- a text stays the same with no byte after it
no_more : (xs ys : List ℕ) → ys ≡ [] → xs ≡ xs ++ ys
no_more xs ys e = sym (ap (λ (zs : List ℕ). xs ++ zs) e ∙ append-nil xs)

-- without a connection at the beginning there is none
lacking : {W : Type 0} (w : Wire W) (old new given : Option W) (g t g' t' : List ℕ) → is_some new ≡ is_some old
    → (is_some old ≡ false → (g' ≡ []) × (t' ≡ []))
    → (held_or old given ≡ None) × (g ≡ []) × (t ≡ []) → (held_or new given ≡ None) × (g ++ g' ≡ []) × (t ++ t' ≡ [])
lacking w None None given g t g' t' holds unheld e = let u = unheld refl in (e.0, none_more g g' e.1 u.0, none_more t t' e.2 u.1)
lacking w None (Some y) given g t g' t' holds unheld e = absurd cc
lacking w (Some x) new given g t g' t' holds unheld e = let d = e.0 in absurd cc

-- one that was given up stays as it was
gone : {W : Type 0} (w : Wire W) (f : W) (given : Option W) (g t g' t' : List ℕ) → (g' ≡ []) × (t' ≡ [])
    → MatchOption given ⊥ (λ l. Grown (w.past f) (w.past l) g t)
    → MatchOption given ⊥ (λ l. Grown (w.past f) (w.past l) (g ++ g') (t ++ t'))
gone {W} w f given g t g' t' u h =
    subst (λ (bs : List ℕ). MatchOption given ⊥ (λ l. Grown (w.past f) (w.past l) bs (t ++ t'))) (no_more g g' u.0)
    (subst (λ (bs : List ℕ). MatchOption given ⊥ (λ l. Grown (w.past f) (w.past l) g bs)) (no_more t t' u.1) h)

-- a connection, held or given up, gave and took what it did before a pass, and then the bytes of the pass
lasting : {W : Type 0} (w : Wire W) (f : W) (old new given : Option W) (g t g' t' : List ℕ) → GoesOver w old new g' t'
    → is_some new ≡ is_some old → (is_some old ≡ false → (g' ≡ []) × (t' ≡ []))
    → MatchOption (held_or old given) ⊥ (λ l. Grown (w.past f) (w.past l) g t)
    → MatchOption (held_or new given) ⊥ (λ l. Grown (w.past f) (w.past l) (g ++ g') (t ++ t'))
lasting w f None None given g t g' t' goes holds unheld h = gone w f given g t g' t' (unheld refl) h
lasting w f None (Some y) given g t g' t' goes holds unheld h = absurd cc
lasting w f (Some x) None given g t g' t' goes holds unheld h = absurd cc
lasting w f (Some x) (Some y) given g t g' t' goes holds unheld h = grown_then (w.past f) (w.past x) (w.past y) g t g' t' h goes

-- the bytes of a pass come after what went over the service's connection, also where there never was one
line_goes : {W : Type 0} (w : Wire W) (first old new given : Option W) (g t g' t' : List ℕ) → GoesOver w old new g' t'
    → is_some new ≡ is_some old → (is_some old ≡ false → (g' ≡ []) × (t' ≡ []))
    → LineGrown w first (held_or old given) g t → LineGrown w first (held_or new given) (g ++ g') (t ++ t')
line_goes w None old new given g t g' t' goes holds unheld h = lacking w old new given g t g' t' holds unheld h
line_goes w (Some f) old new given g t g' t' goes holds unheld h = lasting w f old new given g t g' t' goes holds unheld h

-- what the source's wire took, before the transaction and in it
beside_then : (beside more further : List ℕ) → (beside ++ more) ++ further ≡ beside ++ (more ++ further)
beside_then beside more further = append_assoc beside more further

-- A pass over the wires.
pub since_goes : {A W C V : Type 0} (a : Wire A) (w : Wire W) (c : Wire C) (s : Snapshot A W C)
    (old_took new_took : List ℕ → Texts → Type 0)
    (source source' : A) (service service' : Option (ServiceEnd V W)) (next next' : C)
    → Goes old_took new_took
    (record {
      source = a.past source;
      service = λ p. on_held service ⊥ (λ wire. w.past wire p);
      next = c.past next;
      held = is_some (wire_of service);
    })
    (record {
      source = a.past source';
      service = λ p. on_held service' ⊥ (λ wire. w.past wire p);
      next = c.past next';
      held = is_some (wire_of service');
    })
    → Since a w c s old_took source (wire_of service) next → Since a w c s new_took source' (wire_of service') next'
since_goes {A} {W} {C} {V} a w c s old_took new_took source source' service service' next next' goes since =
    let t = since.texts in
    let d = goes.delta in
    record {
      texts = joined t d;
      took_is = of_five (new_took s.request) _ _ _ _ _ _ _ _ _ _
          (given_assoc (begun_with s.ahead).source_read t.source_read d.source_read) refl refl refl refl
          (goes.stands s.request (joined (begun_with s.ahead) t) since.took_is);
      source_is = λ p b. let x = since.source_is p b in let y = goes.source x.0 x.1 in (
        y.0,
        y.1,
        subst (λ (bs : List ℕ). IsLater p (t.source_read.bytes ++ d.source_read.bytes) bs y.0)
            (beside_then s.beside t.back_taken d.back_taken)
            (later_then p x.0 y.0 t.source_read.bytes (s.beside ++ t.back_taken) d.source_read.bytes d.back_taken x.2 y.2),
        ends_then t.source_read.ended d.source_read.ended p x.0 y.0 x.2.ends y.2.ends x.3 y.3,
      );
      line_is = line_goes w s.line (wire_of service) (wire_of service') s.given t.service_read t.service_taken d.service_read
          d.service_taken
          (λ p b. let x = goes.service p (on_wire service (λ wire. w.past wire p) b) in
          (x.0, by_wire service' (λ wire. w.past wire x.0) x.1, x.2))
          goes.holds goes.unheld since.line_is;
      next_is = grown_then (c.past s.next) (c.past next) (c.past next') [] t.next_taken [] d.next_taken since.next_is
          (λ p b. goes.next p b);
    }

-- The connection is given up.

-- a service whose connection is given up has no wire
without_is : {V W : Type 0} (service : Option (ServiceEnd V W)) → wire_of (without_wire service) ≡ None
without_is None = refl
without_is (Some l) = refl

-- what the wires gave and took stays the same where the service's connection is given up
pub since_without : {A W C V : Type 0} (a : Wire A) (w : Wire W) (c : Wire C) (s : Snapshot A W C)
    (old_took new_took : List ℕ → Texts → Type 0)
    (source source' : A) (service service' : Option (ServiceEnd V W)) (next next' : C)
    → ((request : List ℕ) (t : Texts) → old_took request t → new_took request t) → source' ≡ source → service' ≡ without_wire service
    → next' ≡ next
    → Since a w c s old_took source (wire_of service) next
    → Since a w c (given_up (wire_of service) s) new_took source' (wire_of service') next'
since_without {A} {W} {C} {V} a w c s old_took new_took source source' service service' next next' on_ e1 e2 e3 since =
    let none : wire_of service' ≡ None = ap (λ (z : Option (ServiceEnd V W)). wire_of z) e2 ∙ without_is service in
    let kept : held_or (wire_of service') (held_or (wire_of service) s.given) ≡ held_or (wire_of service) s.given =
    ap (λ (z : Option W). held_or z (held_or (wire_of service) s.given)) none in
    record {
      texts = since.texts;
      took_is = on_ s.request (joined (begun_with s.ahead) since.texts) since.took_is;
      source_is = subst (λ (z : A). SourceGrown (a.past s.source) (a.past z) since.texts.source_read (s.beside ++ since.texts.back_taken))
          (sym e1) since.source_is;
      line_is = subst (λ (z : Option W). LineGrown w s.line z since.texts.service_read since.texts.service_taken) (sym kept) since.line_is;
      next_is = subst (λ (z : C). Grown (c.past s.next) (c.past z) [] since.texts.next_taken) (sym e3) since.next_is;
    }

-- what the wires gave and took stays the same where a call gives the service's connection up and returns it
pub since_broken : {A W C V : Type 0} (a : Wire A) (w : Wire W) (c : Wire C) (s : Snapshot A W C)
    (old_took new_took : List ℕ → Texts → Type 0)
    (source source' : A) (service service' : Option (ServiceEnd V W)) (next next' : C) (result : Option W) → result ≡ wire_of service
    → ((request : List ℕ) (t : Texts) → old_took request t → new_took request t) → source' ≡ source → service' ≡ without_wire service
    → next' ≡ next
    → Since a w c s old_took source (wire_of service) next → Since a w c (given_up result s) new_took source' (wire_of service') next'
since_broken {A} {W} {C} {V} a w c s old_took new_took source source' service service' next next' result is on_ e1 e2 e3 since =
    subst (λ (z : Option W). Since a w c (given_up z s) new_took source' (wire_of service') next') (sym is)
    (since_without a w c s old_took new_took source source' service service' next next' on_ e1 e2 e3 since)

-- or it stays as it is
pub since_same : {A W C V : Type 0} (a : Wire A) (w : Wire W) (c : Wire C) (s : Snapshot A W C)
    (old_took new_took : List ℕ → Texts → Type 0)
    (source source' : A) (service service' : Option (ServiceEnd V W)) (next next' : C)
    → ((request : List ℕ) (t : Texts) → old_took request t → new_took request t) → source' ≡ source → service' ≡ service → next' ≡ next
    → Since a w c s old_took source (wire_of service) next → Since a w c s new_took source' (wire_of service') next'
since_same {A} {W} {C} {V} a w c s old_took new_took source source' service service' next next' on_ e1 e2 e3 since = record {
  texts = since.texts;
  took_is = on_ s.request (joined (begun_with s.ahead) since.texts) since.took_is;
  source_is = subst (λ (z : A). SourceGrown (a.past s.source) (a.past z) since.texts.source_read (s.beside ++ since.texts.back_taken))
      (sym e1) since.source_is;
  line_is = subst (λ (z : Option (ServiceEnd V W)). LineGrown w s.line (held_or (wire_of z) s.given) since.texts.service_read
      since.texts.service_taken) (sym e2) since.line_is;
  next_is = subst (λ (z : C). Grown (c.past s.next) (c.past z) [] since.texts.next_taken) (sym e3) since.next_is;
}

-- one that is given up once the service's exchange is over
pub since_freed : {A W C V : Type 0} (a : Wire A) (w : Wire W) (c : Wire C) (s : Snapshot A W C)
    (old_took new_took : List ℕ → Texts → Type 0)
    (source source' : A) (service service' : Option (ServiceEnd V W)) (next next' : C) (result : Option (FreedConnection W))
    → ((request : List ℕ) (t : Texts) → old_took request t → new_took request t) → source' ≡ source → next' ≡ next
    → (result ≡ None → service' ≡ service) → IfSome result (λ free. service' ≡ without_wire service)
    → IfSome result (λ free. wire_of service ≡ Some free.wire)
    → Since a w c s old_took source (wire_of service) next
    → Since a w c (given_up (freed_wire result) s) new_took source' (wire_of service') next'
since_freed a w c s old_took new_took source source' service service' next next' None on_ e1 e3 same freed wire since =
    since_same a w c s old_took new_took source source' service service' next next' on_ e1 (same refl) e3 since
since_freed {A} {W} {C} a w c s old_took new_took source source' service service' next next' (Some free) on_ e1 e3 same freed wire since =
    subst (λ (z : Option W). Since a w c (given_up z s) new_took source' (wire_of service') next') wire
    (since_without a w c s old_took new_took source source' service service' next next' on_ e1 freed e3 since)

-- The request begins anew.

-- a connection on which a request begins just now gave and took nothing since
line_anew : {W : Type 0} (w : Wire W) (line : Option W) → LineGrown w line (held_or line None) [] []
line_anew w None = (refl, refl, refl)
line_anew w (Some wire) = grown_none (w.past wire)

-- where the request begins anew, nothing went over its connection yet, and the other wires' bytes stand
pub since_anew : {A W C V : Type 0} (a : Wire A) (w : Wire W) (c : Wire C) (s : Snapshot A W C)
    (old_took new_took : List ℕ → Texts → Type 0)
    (source source' : A) (service service' : Option (ServiceEnd V W)) (next next' : C)
    → ((request : List ℕ) (t : Texts) → old_took request t → new_took request (record t { service_read = []; service_taken = [] }))
    → source' ≡ source → next' ≡ next
    → Since a w c s old_took source (wire_of service) next
    → Since a w c (anew_on (wire_of service') s) new_took source' (wire_of service') next'
since_anew {A} {W} {C} a w c s old_took new_took source source' service service' next next' anew e1 e3 since = record {
  texts = record since.texts { service_read = []; service_taken = [] };
  took_is = anew s.request (joined (begun_with s.ahead) since.texts) since.took_is;
  source_is = subst (λ (z : A). SourceGrown (a.past s.source) (a.past z) since.texts.source_read (s.beside ++ since.texts.back_taken))
      (sym e1) since.source_is;
  line_is = line_anew w (wire_of service');
  next_is = subst (λ (z : C). Grown (c.past s.next) (c.past z) [] since.texts.next_taken) (sym e3) since.next_is;
}

-- The beginning.

-- at the beginning only the source's wire gave and took: what came of the message, and what went beside it
pub since_begun : {A W C V : Type 0} (a : Wire A) (w : Wire W) (c : Wire C) (request read ahead since beside : List ℕ)
    (first source source' : A) (service : Option (ServiceEnd V W)) (line : Option W) (next next' : C) (took : List ℕ → Texts → Type 0)
    → took request (record no_texts { source_read = record { bytes = read; ended = false } }) → read ≡ ahead ++ since
    → Grown (a.past first) (a.past source) since beside
    → source' ≡ source → wire_of service ≡ line → next' ≡ next
    → Since a w c (first_snapshot request ahead beside first next line) took source' (wire_of service) next'
since_begun {A} {W} {C} {V} a w c request read ahead since beside first source source' service line next next' took t all g e0 e1 e2 =
    let h : Grown (a.past first) (a.past source') since beside =
    subst (λ (z : A). Grown (a.past first) (a.past z) since beside) (sym e0) g in
    record {
      texts = record no_texts { source_read = record { bytes = since; ended = false } };
      took_is = subst (λ (bs : List ℕ). took request (record no_texts { source_read = record { bytes = bs; ended = false } })) all t;
      source_is = λ p b. let x = h p b in (
        x.0,
        x.1,
        subst (λ (bs : List ℕ). IsLater p since bs x.0) (sym (append-nil beside)) x.2,
        λ e. absurd cc,
      );
      line_is = subst (λ (z : Option W). LineGrown w z (held_or (wire_of service) None) [] []) e1 (line_anew w (wire_of service));
      next_is = subst (λ (z : C). Grown (c.past next) (c.past z) [] []) (sym e2) (grown_none (c.past next));
    }

-- a part of what is said of the texts
pub since_part : {A W C : Type 0} (a : Wire A) (w : Wire W) (c : Wire C) (s : Snapshot A W C) (took part : List ℕ → Texts → Type 0)
    (source : A) (line : Option W) (next : C)
    → ((request : List ℕ) (t : Texts) → took request t → part request t) → Since a w c s took source line next
    → Since a w c s part source line next
since_part a w c s took part source line next so since = record {
  texts = since.texts;
  took_is = so s.request (joined (begun_with s.ahead) since.texts) since.took_is;
  source_is = since.source_is;
  line_is = since.line_is;
  next_is = since.next_is;
}
