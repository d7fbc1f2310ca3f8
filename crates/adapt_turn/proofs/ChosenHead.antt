-- The head that a message begins with is a made one, through each pass.
use Rattle.std.proofs.Common.{◌≡◌, ℕ, inl, inr, Bool, true, false, ◌&&◌, ◌||◌, List, [], ◌∷◌, ◌++◌, Option, Some, None, refl, sym, ◌∙◌, ap}
use Rattle.std.proofs.Common.{subst}
use Rattle.std.proofs.lemmas.Bool.{false≢true}
use Rattle.std.specs.Prelude.{if◌then◌else◌}
use Rattle.trace_core.specs.declared.history.Seen.{Seen}
use Rattle.trace_core.specs.declared.history.Event.{Event}
use Rattle.trace_core.specs.declared.history.Event.TheVariants.{Retry}
use Rattle.trace_core.specs.History.{History, seen, is_mod}
use Rattle.trace_core.specs.Legal.{Allows, IsLegal, MayFollow}
use Rattle.trace_core.specs.View.{after}
use Rattle.trace_core.specs.Turns.{after_all, MayAllFollow}
use Rattle.trace_core.proofs.Sound.{sound}
use Rattle.adapt_sides.specs.declared.hop.Hop.{Ghosts as Hop}
use Rattle.adapt_sides.specs.declared.service.Service.{Ghosts as Service}
use Rattle.adapt_sides.specs.Turns.Gift.{nothing, message}
use Rattle.adapt_turn.specs.declared.ends.ServiceEnd.{ServiceEnd}
use Rattle.adapt_hold.specs.Holding.{shows}
use Rattle.adapt_turn.specs.Stands.{HopsAre, IsChosen, writer_of}
use Rattle.adapt_turn.specs.ChosenHead.{IsMade, adapted_of, response_of}

-- it stays so with each event
abbrev pub KeepsMade : (Seen → List ℕ → Type 0) → Type 0
KeepsMade made = (x : Seen) (event : Event) (head : List ℕ) → x.closed ≡ false → Allows x event → made x head → made (after x event) head

-- what is seen after events and one more is what the one makes of what is seen after those
after_end : (x : Seen) (events : List Event) (event : Event) → after_all x (events ++ (event ∷ [])) ≡ after (after_all x events) event
after_end x [] event = refl
after_end x (first ∷ events) event = after_end (after x first) events event

-- an event that is allowed after events in a row, while the history is open, may follow them in the row
may_end : (x : Seen) (events : List Event) (event : Event) → MayAllFollow x events → (after_all x events).closed ≡ false
    → Allows (after_all x events) event → MayAllFollow x (events ++ (event ∷ []))
may_end x [] event m c a = (c, a, tt)
may_end x (first ∷ events) event m c a = (m.0, m.1, may_end (after x first) events event m.2 c a)

-- a head that was made stays a made one with each event that is allowed
pub made_on : {Framing : Type 0} (makes : Seen → Option (List ℕ) → Bool → List ℕ → Framing → Type 0) (adapted : Option (List ℕ))
    (is_response : Bool) (framing : Framing)
    → KeepsMade (IsMade makes adapted is_response framing)
made_on makes adapted is_response framing x event head c a m = record {
  before = m.before;
  since = m.since ++ (event ∷ []);
  legal = m.legal;
  may = may_end (seen x.plan m.before) m.since event m.may (subst (λ (y : Seen). y.closed ≡ false) m.now c)
      (subst (λ (y : Seen). Allows y event) m.now a);
  now = ap (λ (y : Seen). after y event) m.now ∙ sym (after_end (seen x.plan m.before) m.since event);
  chosen = m.chosen;
  made = m.made;
}

-- as it is begun
pub made_now : {Framing : Type 0} (makes : Seen → Option (List ℕ) → Bool → List ℕ → Framing → Type 0) (adapted : Option (List ℕ))
    (is_response : Bool) (made framing : Framing) (history : History) (head : List ℕ)
    → IsLegal history.plan history.events → IsChosen (shows history) → framing ≡ made
    → makes (shows history) (if (shows history).modified then adapted else None) ((shows history).modified && is_response) head made
    → IsMade makes adapted is_response framing (shows history) head
made_now {Framing} makes adapted is_response made framing history head legal chosen e m = record {
  before = history.events;
  since = [];
  legal = legal;
  may = tt;
  now = refl;
  chosen = chosen;
  made = subst (λ (z : Framing). makes (shows history) (if (shows history).modified then adapted else None)
      ((shows history).modified && is_response) head z) (sym e) m;
}

-- and with several
pub made_all : (made : Seen → List ℕ → Type 0) → KeepsMade made → (events : List Event) (x : Seen) (head : List ℕ) → MayAllFollow x events
    → made x head → made (after_all x events) head
made_all made keep [] x head m p = p
made_all made keep (event ∷ events) x head m p = made_all made keep events (after x event) head m.2 (keep x event head m.0 m.1 p)

-- What a service's side says of its head counts only where its message was chosen, and then it stays.

-- one of two is so where the second is
or_true : (b c : Bool) → c ≡ true → b || c ≡ true
or_true true c e = refl
or_true false c e = e

-- a 200 that stands goes on standing after all later events
still_modified : (events : List Event) (x : Seen) → x.modified ≡ true → (after_all x events).modified ≡ true
still_modified [] x e = e
still_modified (event ∷ events) x e = still_modified events (after x event) (or_true (is_mod event) x.modified e)

-- what is so of an adapted head, and of whether it is a response's, stays so if both stay where its message was chosen
told_by : (P : Option (List ℕ) → Bool → Type 0) (b : Bool) (a a' : Option (List ℕ)) (r r' : Bool) → (b ≡ true → (a' ≡ a) × (r' ≡ r))
    → P (if b then a else None) (b && r) → P (if b then a' else None) (b && r')
told_by P true a a' r r' same p = let w = same refl in
    subst (λ (z : Option (List ℕ)). P z r') (sym w.0) (subst (λ (z : Bool). P a z) (sym w.1) p)
told_by P false a a' r r' same p = p

-- a made head stays one if the adapted head, and whether it is a response's, stay where its message was chosen
pub made_told : {Framing : Type 0} (makes : Seen → Option (List ℕ) → Bool → List ℕ → Framing → Type 0) (a a' : Option (List ℕ))
    (r r' : Bool) (framing : Framing) (x : Seen) (head : List ℕ)
    → (x.modified ≡ true → (a' ≡ a) × (r' ≡ r)) → IsMade makes a r framing x head → IsMade makes a' r' framing x head
made_told makes a a' r r' framing x head same m = record {
  before = m.before;
  since = m.since;
  legal = m.legal;
  may = m.may;
  now = m.now;
  chosen = m.chosen;
  made = told_by (λ z b. makes (seen x.plan m.before) z b head framing) (seen x.plan m.before).modified a a' r r'
      (λ e. same (subst (λ (y : Seen). y.modified ≡ true) (sym m.now) (still_modified m.since (seen x.plan m.before) e))) m.made;
}

-- The same of a transaction's two writers, by its maker, its source's head and its service's line.

abbrev pub made_by : {Head G V W K : Type 0} → Hop K G → Service V → (Head → Seen → Option (List ℕ) → Bool → List ℕ → G → Type 0) → Head
    → Option (ServiceEnd V W) → K → Seen → List ℕ → Type 0
made_by k v makes source line hop x head = IsMade (makes source) (adapted_of v.adapted_head line) (response_of v.is_response line)
    (k.body_framing hop) x head

abbrev pub hops_of : {K G : Type 0} → Hop K G → (made : K → Seen → List ℕ → Type 0) → (next back : K) → Seen → List ℕ → List ℕ → List ℕ
    → Type 0
hops_of k made next back = HopsAre (writer_of k (made next) next) (writer_of k (made back) back)

-- the message on a wire keeps its head
pub heads_then : {K G : Type 0} (k : Hop K G) (made made' : K → Seen → List ℕ → Type 0) (next back : K) (x : Seen)
    → ((hop : K) (head : List ℕ) → made hop x head → made' hop x head) → (body to_next to_back : List ℕ)
    → hops_of k made next back x body to_next to_back → hops_of k made' next back x body to_next to_back
heads_then k made made' next back x f body to_next to_back p =
    elim p [
      | inl none ↦ inl (record {
        next_is = none.next_is;
        back_is = none.back_is;
        none = none.none;
        next_aside_is = none.next_aside_is;
        back_aside_is = none.back_aside_is;
      })
      | inr (inl on) ↦ inr (inl (record {
        begun = on.begun;
        alone = on.alone;
        head = on.head;
        given_is = (f next on.head on.given_is.0, on.given_is.1);
        aside_is = on.aside_is;
      }))
      | inr (inr (inl on)) ↦ inr (inr (inl (record {
        begun = on.begun;
        alone = on.alone;
        head = on.head;
        given_is = (f back on.head on.given_is.0, on.given_is.1);
        aside_is = on.aside_is;
      })))
      | inr (inr (inr over)) ↦ inr (inr (inr (record {
        over = over.over;
        none = over.none;
        next_aside_is = over.next_aside_is;
        back_aside_is = over.back_aside_is;
      })))
    ]

-- where nothing is begun, no head counts
pub heads_idle : {K G : Type 0} (k : Hop K G) (made made' : K → Seen → List ℕ → Type 0) (next back : K) (x : Seen)
    → x.closed ≡ false → k.gift next ≡ nothing → k.gift back ≡ nothing → (body to_next to_back : List ℕ)
    → hops_of k made next back x body to_next to_back → hops_of k made' next back x body to_next to_back
heads_idle k made made' next back x c n b body to_next to_back p =
    elim p [
      | inl none ↦ inl (record {
        next_is = none.next_is;
        back_is = none.back_is;
        none = none.none;
        next_aside_is = none.next_aside_is;
        back_aside_is = none.back_aside_is;
      })
      | inr (inl on) ↦ absurd (let e : nothing ≡ message = sym n ∙ on.begun in cc)
      | inr (inr (inl on)) ↦ absurd (let e : nothing ≡ message = sym b ∙ on.begun in cc)
      | inr (inr (inr over)) ↦ absurd (false≢true (sym c ∙ over.over))
    ]

-- the source keeps its head
pub source_heads : {Head G V W K : Type 0} (k : Hop K G) (v : Service V)
    (makes : Head → Seen → Option (List ℕ) → Bool → List ℕ → G → Type 0)
    (s s' : Head) (line : Option (ServiceEnd V W)) (x : Seen) → s' ≡ s → (hop : K) (head : List ℕ) → made_by k v makes s line hop x head
    → made_by k v makes s' line hop x head
source_heads {Head} k v makes s s' line x e hop head m = subst (λ (z : Head). made_by k v makes z line hop x head) (sym e) m

-- the service's side keeps its own, once its message is chosen
pub line_heads : {Head G V W K : Type 0} (k : Hop K G) (v : Service V) (makes : Head → Seen → Option (List ℕ) → Bool → List ℕ → G → Type 0)
    (s : Head) (line : Option (ServiceEnd V W)) (l m : ServiceEnd V W) (x : Seen) → line ≡ Some l
    → (x.modified ≡ true → v.adapted_head m.side ≡ v.adapted_head l.side)
    → (x.modified ≡ true → v.is_response m.side ≡ v.is_response l.side)
    → (hop : K) (head : List ℕ) → made_by k v makes s line hop x head → made_by k v makes s (Some m) hop x head
line_heads {Head} {G} {V} {W} k v makes s line l m x e f g hop head p =
    made_told (makes s) (v.adapted_head l.side) (v.adapted_head m.side) (v.is_response l.side) (v.is_response m.side) (k.body_framing hop) x
    head (λ c. (f c, g c))
    (subst (λ (z : Option (ServiceEnd V W)). made_by k v makes s z hop x head) e p)

-- before a byte of a reply no adapted message is chosen

-- of three of which none is so the second isn't
none_modified : (a b c : Bool) → a || b || c ≡ false → b ≡ true → ⊥
none_modified true b c e f = false≢true (sym e)
none_modified false true c e f = false≢true (sym e)
none_modified false false c e f = false≢true f

-- where the request may begin anew no adapted message has come
pub none_modified_before : (history : History) → IsLegal history.plan history.events → MayFollow history.plan history.events Retry
    → (shows history).modified ≡ true → ⊥
none_modified_before history l m e =
    let x = shows history in
    none_modified x.no_mod x.modified x.continued ((sound history.plan history.events l).unheard m.1.3) e
