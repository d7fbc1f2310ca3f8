-- Several events in a row.
use Rattle.std.proofs.Common.{◌≡◌, ℕ, ◌+◌, ◌-◌, ◌<◌, ◌≤◌, List, [], ◌∷◌, ◌++◌, length, take, drop, get_or, Some, arith, refl, sym, ◌∙◌, ap}
use Rattle.std.proofs.Common.{subst}
use Rattle.std.proofs.lemmas.List.{append-nil, length-drop, length-take-le, append_assoc}
use Rattle.std.proofs.Math.Seq.{take-length}
use Rattle.trace_core.specs.declared.history.Seen.{Seen}
use Rattle.trace_core.specs.declared.history.Event.{Event}
use Rattle.trace_core.specs.declared.history.Event.TheVariants.{In, End, Svc, Stop, Heard, Continue, NoMod, Mod, Ad, AdEnd, Usr, Done, Fail}
use Rattle.trace_core.specs.declared.history.Event.TheVariants.{Retry}
use Rattle.trace_core.specs.Legal.{MayFollow}
use Rattle.trace_core.specs.View.{after}
use Rattle.trace_core.specs.Faults.{first_fault}
use Rattle.trace_core.proofs.Answered.{refused}
use Rattle.plan_rules.specs.Room.{claim_then, IsWithinRoom}
use Rattle.plan_rules.specs.declared.limits.Limits.{Limits}
use Rattle.trace_core.specs.Turns.{after_all, MayAllFollow}
use Rattle.trace_core.specs.Held.{held_places}
use Rattle.trace_core.specs.declared.history.StepFault.{StepFault}
use Rattle.adapt_hold.specs.Spans.{EndsBody}
use Rattle.adapt_hold.specs.Holding.{Holding, IsTied, IsRoomy, shows, shows_then, history_then, moved, original_in, adapted_in, Brings}
use Rattle.adapt_hold.specs.Holding.{BringsNone}
use Rattle.adapt_hold.specs.Steps.{brought, brought_all, HasRoomFor, MayRun, moved_all, history_all}
use Rattle.adapt_hold.proofs.Tied.{brings, brings_none, moved-tied, still_fits, Steps}
use Rattle.adapt_hold.proofs.Closes.{then_shows}
use Rattle.adapt_hold.proofs.Bodies.{room_in, room_ad, room_others, original_follows, adapted_follows}

-- a list of no length is empty
pub no_bytes : (bs : List ℕ) → length bs ≡ 0 → bs ≡ []
no_bytes [] e = refl
no_bytes (b ∷ bs) e = absurd (omega (arith, e))

pub record Stays (h : Holding) (event : Event) (bytes : List ℕ) : Type 0 where
  pub steps : Steps h event bytes
  pub tied : IsTied (moved h event bytes)
  pub roomy : IsRoomy (moved h event bytes)

-- a step that brings no bytes keeps a holding tied, with a window left
others_stay : (h : Holding) (event : Event) (bytes : List ℕ) → IsTied h → IsRoomy h → MayFollow h.history.plan h.history.events event
    → BringsNone event → length bytes ≡ 0 → Stays h event bytes
others_stay h event bytes t r m b z =
    let s = brings_none h event m b in
    subst (λ (bs : List ℕ). Stays h event bs) (sym (no_bytes bytes z)) (record {
      steps = s;
      tied = moved-tied h event [] t s (still_fits h event t s b);
      roomy = room_others h event t r m b;
    })

-- one event within its room keeps a holding tied and roomy
pub stays : (h : Holding) (event : Event) (bytes : List ℕ) → IsTied h → IsRoomy h → MayFollow h.history.plan h.history.events event
    → length bytes ≡ brought event → IsWithinRoom (shows h.history) h.claim h.limits.window h.limits.turn event → Stays h event bytes
stays h (In n) bytes t r m b w =
    let k : length bytes ≡ n = omega (arith, b) in
    let s = brings h (In n) bytes m k in
    let room = room_in h n bytes t r m w in
    record { steps = s; tied = moved-tied h (In n) bytes t s room.0; roomy = room.1 }
stays h (Ad n) bytes t r m b w =
    let k : length bytes ≡ n = omega (arith, b) in
    let s = brings h (Ad n) bytes m k in
    let room = room_ad h n bytes t r m w in
    record { steps = s; tied = moved-tied h (Ad n) bytes t s room.0; roomy = room.1 }
stays h End bytes t r m b w = others_stay h End bytes t r m tt b
stays h (Svc n) bytes t r m b w = others_stay h (Svc n) bytes t r m tt b
stays h Stop bytes t r m b w = others_stay h Stop bytes t r m tt b
stays h Heard bytes t r m b w = others_stay h Heard bytes t r m tt b
stays h Retry bytes t r m b w = others_stay h Retry bytes t r m tt b
stays h Continue bytes t r m b w = others_stay h Continue bytes t r m tt b
stays h NoMod bytes t r m b w = others_stay h NoMod bytes t r m tt b
stays h (Mod body) bytes t r m b w = others_stay h (Mod body) bytes t r m tt b
stays h AdEnd bytes t r m b w = others_stay h AdEnd bytes t r m tt b
stays h (Usr n) bytes t r m b w = others_stay h (Usr n) bytes t r m tt b
stays h Done bytes t r m b w = others_stay h Done bytes t r m tt b
stays h (Fail cause) bytes t r m b w = others_stay h (Fail cause) bytes t r m tt b

-- the bytes that events bring to each tape
abbrev pub all_original : List Event → List ℕ → List ℕ
all_original [] bytes = []
all_original (event ∷ events) bytes = original_in event (take (brought event) bytes) ++ all_original events (drop (brought event) bytes)

abbrev pub all_adapted : List Event → List ℕ → List ℕ
all_adapted [] bytes = []
all_adapted (event ∷ events) bytes = adapted_in event (take (brought event) bytes) ++ all_adapted events (drop (brought event) bytes)

-- a holding after all of them
pub record Ran (h : Holding) (events : List Event) (bytes : List ℕ) : Type 0 where
  pub tied : IsTied (moved_all h events bytes)
  pub roomy : IsRoomy (moved_all h events bytes)
  pub seen : shows (moved_all h events bytes).history ≡ after_all (shows h.history) events
  pub history : (moved_all h events bytes).history ≡ history_all h.history events
  pub limits : (moved_all h events bytes).limits ≡ h.limits
  pub original : (body : List ℕ) → EndsBody h.original body
      → EndsBody (moved_all h events bytes).original (body ++ all_original events bytes)
  pub adapted : (body : List ℕ) → EndsBody h.adapted body → EndsBody (moved_all h events bytes).adapted (body ++ all_adapted events bytes)

pub record Cut (n m : ℕ) (bs : List ℕ) : Type 0 where
  pub own : length (take n bs) ≡ n
  pub others : m ≤ length (drop n bs)

-- of bytes that are enough for two parts the first is whole, and the rest enough for the second
take_length : (n m : ℕ) (bs : List ℕ) → n + m ≤ length bs → Cut n m bs
take_length n m bs e = record { own = length-take-le n bs (omega (arith, e)); others = let d = length-drop n bs in omega (arith, d, e) }

-- events in a row, each within its room, keep a holding tied and roomy, and bring their bytes to both bodies
pub ran : (h : Holding) (events : List Event) (bytes : List ℕ) → IsTied h → IsRoomy h → MayAllFollow (shows h.history) events
    → brought_all events ≤ length bytes → HasRoomFor (shows h.history) h.claim h.limits.window h.limits.turn events → Ran h events bytes
ran h [] bytes t r m b w = record {
  tied = t;
  roomy = r;
  seen = refl;
  history = refl;
  limits = refl;
  original = λ body f. subst (λ (bs : List ℕ). EndsBody h.original bs) (sym (append-nil body)) f;
  adapted = λ body f. subst (λ (bs : List ℕ). EndsBody h.adapted bs) (sym (append-nil body)) f;
}
ran h (event ∷ events) bytes t r m b w =
    let lengths = take_length (brought event) (brought_all events) bytes b in
    let own = take (brought event) bytes in
    let others = drop (brought event) bytes in
    let s = stays h event own t r (m.0, m.1) lengths.own w.0 in
    let stepped : Holding = moved h event own in
    let same : shows stepped.history ≡ after (shows h.history) event =
    then_shows h event (history_then h.history event) t (m.0, m.1) refl in
    let rest = ran stepped events others s.tied s.roomy
    (subst (λ (x : Seen). MayAllFollow x events) (sym same) m.2)
    lengths.others
    (subst (λ (x : Seen). HasRoomFor x stepped.claim stepped.limits.window stepped.limits.turn events) (sym same) w.1) in
    record {
      tied = rest.tied;
      roomy = rest.roomy;
      seen = rest.seen ∙ ap (λ (x : Seen). after_all x events) same;
      history = rest.history;
      limits = rest.limits;
      original = λ body f.
          subst (λ (bs : List ℕ). EndsBody (moved_all stepped events others).original bs)
          (append_assoc body (original_in event own) (all_original events others))
          (rest.original (body ++ original_in event own) (original_follows h event own body t s.steps f));
      adapted = λ body f.
          subst (λ (bs : List ℕ). EndsBody (moved_all stepped events others).adapted bs)
          (append_assoc body (adapted_in event own) (all_adapted events others))
          (rest.adapted (body ++ adapted_in event own) (adapted_follows h event own body t s.steps f));
    }

-- What the functions on events ask.

-- an event with just the bytes that it counts brings as many as there are
brings_length : (event : Event) (bytes : List ℕ) → Brings event bytes → length bytes ≡ brought event
brings_length (In n) bytes b = omega (arith, b)
brings_length (Ad n) bytes b = omega (arith, b)
brings_length End bytes b = elim b [ ]
brings_length (Svc n) bytes b = elim b [ ]
brings_length Stop bytes b = elim b [ ]
brings_length Heard bytes b = elim b [ ]
brings_length Retry bytes b = elim b [ ]
brings_length Continue bytes b = elim b [ ]
brings_length NoMod bytes b = elim b [ ]
brings_length (Mod body) bytes b = elim b [ ]
brings_length AdEnd bytes b = elim b [ ]
brings_length (Usr n) bytes b = elim b [ ]
brings_length Done bytes b = elim b [ ]
brings_length (Fail cause) bytes b = elim b [ ]

-- an event within its room, with just the bytes that it counts, fits the claim
pub fits_in : (h : Holding) (event : Event) (bytes : List ℕ) → IsTied h → IsRoomy h → Brings event bytes
    → IsWithinRoom (shows h.history) h.claim h.limits.window h.limits.turn event
    → MayFollow h.history.plan h.history.events event → held_places (shows_then h.history event) ≤ h.claim
fits_in h (In n) bytes t r b w m = (room_in h n bytes t r m w).0
fits_in h (Ad n) bytes t r b w m = (room_ad h n bytes t r m w).0
fits_in h End bytes t r b w m = elim b [ ]
fits_in h (Svc n) bytes t r b w m = elim b [ ]
fits_in h Stop bytes t r b w m = elim b [ ]
fits_in h Heard bytes t r b w m = elim b [ ]
fits_in h Retry bytes t r b w m = elim b [ ]
fits_in h Continue bytes t r b w m = elim b [ ]
fits_in h NoMod bytes t r b w m = elim b [ ]
fits_in h (Mod body) bytes t r b w m = elim b [ ]
fits_in h AdEnd bytes t r b w m = elim b [ ]
fits_in h (Usr n) bytes t r b w m = elim b [ ]
fits_in h Done bytes t r b w m = elim b [ ]
fits_in h (Fail cause) bytes t r b w m = elim b [ ]

-- a holding after an event within its room that brings its bytes has a window left
pub brought_roomy : (h k : Holding) (event : Event) (bytes : List ℕ) → IsTied h → IsRoomy h → Brings event bytes
    → IsWithinRoom (shows h.history) h.claim h.limits.window h.limits.turn event
    → MayFollow h.history.plan h.history.events event → k ≡ moved h event bytes → IsRoomy k
brought_roomy h k event bytes t r b w m e = subst (λ (x : Holding). IsRoomy x) (sym e)
    (stays h event bytes t r m (brings_length event bytes b) w).roomy

-- a holding after an event that brings no bytes has a window left
pub gone_on_roomy : (h k : Holding) (event : Event) → IsTied h → IsRoomy h → BringsNone event
    → MayFollow h.history.plan h.history.events event → k ≡ moved h event [] → IsRoomy k
gone_on_roomy h k event t r b m e = subst (λ (x : Holding). IsRoomy x) (sym e) (room_others h event t r m b)

-- what may follow isn't refused
pub never : (h : Holding) (event : Event) (fault : StepFault) → IsTied h → MayFollow h.history.plan h.history.events event
    → first_fault (shows h.history) event ≡ Some fault → ⊥
never h event f t m r = refused h.history.plan h.history.events event f t.legal r m

-- the rest of a row
pub run_rest : (h k : Holding) (event : Event) (events : List Event) (bytes own others : List ℕ) → IsTied h
    → MayRun h (event ∷ events) bytes
    → own ≡ take (brought event) bytes → others ≡ drop (brought event) bytes → k ≡ moved h event own → IsRoomy k → MayRun k events others
run_rest h k event events bytes own others t m o d e r =
    let lengths = take_length (brought event) (brought_all events) bytes m.carried in
    let same : shows k.history ≡ after (shows h.history) event =
    ap (λ (x : Holding). shows x.history) e ∙ then_shows h event (history_then h.history event) t (m.may.0, m.may.1) refl in
    let claim : k.claim ≡ claim_then (after (shows h.history) event) event h.claim h.limits.window = ap (λ (x : Holding). x.claim) e in
    let limits : k.limits ≡ h.limits = ap (λ (x : Holding). x.limits) e in
    record {
      may = subst (λ (x : Seen). MayAllFollow x events) (sym same) m.may.2;
      carried = subst (λ (bs : List ℕ). brought_all events ≤ length bs) (sym d) lengths.others;
      room = subst (λ (x : Seen). HasRoomFor x k.claim k.limits.window k.limits.turn events) (sym same)
          (subst (λ (c : ℕ). HasRoomFor (after (shows h.history) event) c k.limits.window k.limits.turn events) (sym claim)
          (subst (λ (l : Limits). HasRoomFor (after (shows h.history) event)
          (claim_then (after (shows h.history) event) event h.claim h.limits.window) l.window l.turn events) (sym limits) m.room.1));
      roomy = r;
    }

-- a step, and then the rest of a row, are the whole row
pub one_more : (h k l : Holding) (event : Event) (events : List Event) (bytes own others : List ℕ)
    → own ≡ take (brought event) bytes → others ≡ drop (brought event) bytes → k ≡ moved h event own
    → l ≡ moved_all k events others → l ≡ moved_all h (event ∷ events) bytes
one_more h k l event events bytes own others o d e s =
    let at : k ≡ moved h event (take (brought event) bytes) = e ∙ ap (λ (bs : List ℕ). moved h event bs) o in
    s ∙ ap (λ (x : Holding). moved_all x events others) at
    ∙ ap (λ (bs : List ℕ). moved_all (moved h event (take (brought event) bytes)) events bs) d

-- an empty row leaves a holding as it was
pub none_left_at : (h : Holding) (events : List Event) (bytes : List ℕ) → length events < 1 → h ≡ moved_all h events bytes
none_left_at h [] bytes l = refl
none_left_at h (event ∷ events) bytes l = absurd (omega (arith, l))

-- the same at a slice

-- a list without its first event is the rest of it
pub tail_is : (event : Event) (events : List Event) → take (length (event ∷ events) - 1) (drop 1 (event ∷ events)) ≡ events
tail_is event events = let n : length (event ∷ events) - 1 ≡ length events = omega arith in
    ap (λ (k : ℕ). take k events) n ∙ take-length events

-- the rest of a row may run after its first event, at a slice
pub run_rest_at : (h k : Holding) (events : List Event) (bytes own others : List ℕ) (n : ℕ) → IsTied h → MayRun h events bytes
    → 1 ≤ length events
    → n ≡ brought (get_or events 0 (In 0))
    → own ≡ take n bytes → others ≡ drop n bytes → k ≡ moved h (get_or events 0 (In 0)) own → IsRoomy k
    → MayRun k (take (length events - 1) (drop 1 events)) others
run_rest_at h k [] bytes own others n t m l b o d e r = absurd (omega (arith, l))
run_rest_at h k (event ∷ events) bytes own others n t m l b o d e r =
    subst (λ (es : List Event). MayRun k es others) (sym (tail_is event events))
    (run_rest h k event events bytes own others t m (o ∙ ap (λ (i : ℕ). take i bytes) b) (d ∙ ap (λ (i : ℕ). drop i bytes) b) e r)

-- the first event of a row and the rest of it are the whole row, at a slice
pub one_more_at : (h k l : Holding) (events : List Event) (bytes own others : List ℕ) (n : ℕ) → 1 ≤ length events
    → n ≡ brought (get_or events 0 (In 0))
    → own ≡ take n bytes → others ≡ drop n bytes → k ≡ moved h (get_or events 0 (In 0)) own
    → l ≡ moved_all k (take (length events - 1) (drop 1 events)) others → l ≡ moved_all h events bytes
one_more_at h k l [] bytes own others n m b o d e s = absurd (omega (arith, m))
one_more_at h k l (event ∷ events) bytes own others n m b o d e s =
    one_more h k l event events bytes own others (o ∙ ap (λ (i : ℕ). take i bytes) b) (d ∙ ap (λ (i : ℕ). drop i bytes) b) e
    (s ∙ ap (λ (es : List Event). moved_all k es others) (tail_is event events))

-- a row without its first event is shorter
pub shorter : (events : List Event) → 1 ≤ length events → length (take (length events - 1) (drop 1 events)) < length events
shorter [] l = absurd (omega (arith, l))
shorter (event ∷ events) l = let n = ap (λ (es : List Event). length es) (tail_is event events) in omega arith
