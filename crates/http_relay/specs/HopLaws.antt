-- What holds of every next hop, whatever the other sides do.
use Rattle.std.proofs.Common.{◌≡◌, ℕ, ◌<◌, inl, inr, arith, Bool, true, false, ◌||◌, List, [], ◌∷◌, ◌++◌, length, refl, ap, sym, subst, ◌∙◌}
use Rattle.std.proofs.Common.{not, if◌then◌else◌}
use Rattle.std.proofs.lemmas.Bool.Decides.{nat_tests}
use Rattle.trace_core.specs.declared.history.Plan.{Plan}
use Rattle.trace_core.specs.declared.history.Event.{Event}
use Rattle.trace_core.specs.declared.history.Event.TheVariants.{In, End, Svc, Stop, Heard, Retry, Continue, NoMod, Mod, Ad, AdEnd, Usr}
use Rattle.trace_core.specs.declared.history.Event.TheVariants.{Done, Fail}
use Rattle.trace_core.specs.declared.history.Seen.{Seen}
use Rattle.trace_core.specs.History.{seen, in_bytes, ad_bytes, is_plain, is_no_mod, is_mod}
use Rattle.trace_core.specs.Faults.{chooses_original}
use Rattle.trace_core.specs.Legal.{IsLegal, Allows, ChoosesOriginal}
use Rattle.trace_core.specs.Turns.{is_of_hop}
use Rattle.trace_core.specs.View.{after}
use Rattle.trace_core.proofs.Sound.{sound}
use Rattle.chunk_writer.specs.Writer.{Writer}
use Rattle.http_side.specs.declared.body.Framing.{Framing}
use Rattle.adapt_sides.specs.Tapes.{chosen, chosen_received, chosen_delivered}
use Rattle.adapt_sides.specs.Turns.Gift.{nothing as no_gift, message as message_gift, refusal as refusal_gift}
use Rattle.http_relay.specs.declared.hop.HopStage.{HopStage}
use Rattle.http_relay.specs.declared.hop.HopStage.TheVariants as at
use Rattle.http_relay.specs.Giving.{Hop, HasGiven, IsAside, GivenAt, AsideAt, NothingDue, gift_of, is_message, is_whole}
use Rattle.adapt_sides.specs.Tapes.{IsUndelivered}
use Rattle.http_relay.specs.Keeping as keeping

pub no_message_at : (stage : HopStage) (status : ℕ) (x : Seen) (f : Framing) (head body taken : List ℕ) (w : Writer)
    → stage ≡ at.Refusal status → GivenAt stage x f head body taken w → ⊥
no_message_at at.Empty status x f head body taken w e g = cc
no_message_at at.Message status x f head body taken w e g = cc
no_message_at at.Whole status x f head body taken w e g = cc
no_message_at (at.Refusal s) status x f head body taken w e g = g

-- Before anything is begun.
aside_is_given : (stage : HopStage) (x : Seen) (f : Framing) (head body taken : List ℕ) (w : Writer) → stage ≡ at.Empty
    → AsideAt stage taken w → IsUndelivered x → GivenAt stage x f head body taken w
aside_is_given at.Empty x f head body taken w e a u = (a, u)
aside_is_given at.Message x f head body taken w e a u = cc
aside_is_given at.Whole x f head body taken w e a u = cc
aside_is_given (at.Refusal status) x f head body taken w e a u = cc

given_is_aside : (stage : HopStage) (x : Seen) (f : Framing) (head body taken : List ℕ) (w : Writer) → stage ≡ at.Empty
    → GivenAt stage x f head body taken w → AsideAt stage taken w
given_is_aside at.Empty x f head body taken w e g = g.0
given_is_aside at.Message x f head body taken w e g = cc
given_is_aside at.Whole x f head body taken w e g = cc
given_is_aside (at.Refusal status) x f head body taken w e g = cc

pub fresh_given : (x : Seen) (head body taken : List ℕ) (h : Hop) → h.stage ≡ at.Empty → IsAside taken h → IsUndelivered x
    → HasGiven x head body taken h
fresh_given x head body taken h e a u = record {
  given = aside_is_given h.stage x h.framing head body taken h.writer e a.text u;
  untouched = λ n. (a.untouched n, u);
  touched = a.touched;
}

pub given_fresh : (x : Seen) (head body taken : List ℕ) (h : Hop) → h.stage ≡ at.Empty → HasGiven x head body taken h → IsAside taken h
given_fresh x head body taken h e g = record {
  text = given_is_aside h.stage x h.framing head body taken h.writer e g.given;
  untouched = λ n. (g.untouched n).0;
  touched = g.touched;
}

-- The laws.

-- one of two bodies, or none
abbrev pick : Bool → Bool → List ℕ → List ℕ → List ℕ
pick b c original adapted = if b then original else if c then adapted else []

-- what more comes of it
record More (b b' c c' : Bool) (original adapted bytes more : List ℕ) : Type 0 where
  behind : List ℕ
  is : pick b' c' (original ++ bytes) (adapted ++ more) ≡ pick b c original adapted ++ behind

more_of : (b b' c c' : Bool) (original adapted bytes more : List ℕ) → (b ≡ true → b' ≡ true)
    → (b ≡ false → c ≡ true → (b' ≡ false) × (c' ≡ true)) → More b b' c c' original adapted bytes more
more_of true b' c c' original adapted bytes more h k =
    record { behind = bytes; is = ap (λ (t : Bool). pick t c' (original ++ bytes) (adapted ++ more)) (h refl) }
more_of false b' true c' original adapted bytes more h k = record {
  behind = more;
  is = ap (λ (t : Bool). pick t c' (original ++ bytes) (adapted ++ more)) (k refl refl).0
      ∙ ap (λ (t : Bool). pick false t (original ++ bytes) (adapted ++ more)) (k refl refl).1;
}
more_of false b' false c' original adapted bytes more h k = record { behind = pick b' c' (original ++ bytes) (adapted ++ more); is = refl }

original_stays : (x : Seen) (event : Event) → chooses_original x ≡ true → chooses_original (after x event) ≡ true
original_stays x event e = grind (arith, nat_tests, e)

unchosen_by : (plain none now : Bool) → plain || none ≡ false → now ≡ false → plain || (now || none) ≡ false
unchosen_by true none now e n = cc
unchosen_by false true now e n = cc
unchosen_by false false now e n = n' now n
  where
    n' : (b : Bool) → b ≡ false → false || (b || false) ≡ false
    n' true h = cc
    n' false h = refl

not_answered : (x : Seen) (event : Event) → Allows x event → x.modified ≡ true → is_no_mod event ≡ false
not_answered x (In n) a m = refl
not_answered x End a m = refl
not_answered x (Svc n) a m = refl
not_answered x Stop a m = refl
not_answered x Heard a m = refl
not_answered x Continue a m = refl
not_answered x NoMod a m = let odd : true ≡ false = sym m ∙ a.1.1 in cc
not_answered x (Mod p) a m = refl
not_answered x (Ad n) a m = refl
not_answered x AdEnd a m = refl
not_answered x (Usr n) a m = refl
not_answered x Done a m = refl
not_answered x (Fail cause) a m = refl
not_answered x Retry a m = refl

stays_true : (b c : Bool) → c ≡ true → b || c ≡ true
stays_true true c e = refl
stays_true false c e = e

adapted_stays : (x : Seen) (event : Event) → Allows x event → chooses_original x ≡ false → x.modified ≡ true
    → (chooses_original (after x event) ≡ false) × ((after x event).modified ≡ true)
adapted_stays x event a e m = (
  unchosen_by (is_plain x.plan.kind) x.no_mod (is_no_mod event) e (not_answered x event a m),
  stays_true (is_mod event) x.modified m,
)

length_of_pick : (b c : Bool) (original adapted : List ℕ) (r s : ℕ) → length original ≡ r → length adapted ≡ s → (c ≡ false → s ≡ 0)
    → length (pick b c original adapted) ≡ (if b then r else s)
length_of_pick true c original adapted r s lo la z = lo
length_of_pick false true original adapted r s lo la z = la
length_of_pick false false original adapted r s lo la z = sym (z refl)

pub others : (plan : Plan) (before : List Event) (event : Event) (head original adapted bytes more taken : List ℕ) (h : Hop)
    → IsLegal plan (event ∷ before) → is_of_hop event ≡ false
    → length original ≡ (seen plan before).received → length adapted ≡ (seen plan before).adapted_received → length bytes ≡ in_bytes event
    → length more ≡ ad_bytes event
    → HasGiven (seen plan before) head (chosen (seen plan before) original adapted) taken h
    → HasGiven (seen plan (event ∷ before)) head (chosen (seen plan (event ∷ before)) (original ++ bytes) (adapted ++ more)) taken h
others plan before event head original adapted bytes more taken h legal z lo la lb lm g =
    let x = seen plan before in
    let y = after x event in
    let s = sound plan before legal.1 in
    let m : More (chooses_original x) (chooses_original y) x.modified y.modified original adapted bytes more =
    more_of (chooses_original x) (chooses_original y) x.modified y.modified original adapted bytes more (original_stays x event)
    (adapted_stays x event legal.0.1) in
    let long : length (chosen x original adapted) ≡ chosen_received x =
    length_of_pick (chooses_original x) x.modified original adapted x.received x.adapted_received lo la s.unmodified in
    subst (λ (xs : List ℕ). HasGiven y head xs taken h) (sym m.is) (keeping.others x event head (chosen x original adapted) m.behind taken h
    s legal.0.1 z long g)

empty_by : (stage : HopStage) → gift_of stage ≡ no_gift → stage ≡ at.Empty
empty_by at.Empty e = refl
empty_by at.Message e = cc
empty_by at.Whole e = cc
empty_by (at.Refusal status) e = cc

refusal_by : (stage : HopStage) (status : ℕ) → gift_of stage ≡ refusal_gift status → stage ≡ at.Refusal status
refusal_by at.Empty status e = cc
refusal_by at.Message status e = cc
refusal_by at.Whole status e = cc
refusal_by (at.Refusal s) status e = let is : s ≡ status = cc in ap at.Refusal is

pub idle_given : (x : Seen) (head body taken : List ℕ) (h : Hop) → gift_of h.stage ≡ no_gift → IsAside taken h → x.original_delivered ≡ 0
    → x.adapted_delivered ≡ 0 → HasGiven x head body taken h
idle_given x head body taken h e a o d = fresh_given x head body taken h (empty_by h.stage e) a (o, d)

pub idle_aside : (x : Seen) (head body taken : List ℕ) (h : Hop) → gift_of h.stage ≡ no_gift → HasGiven x head body taken h
    → IsAside taken h
idle_aside x head body taken h e g = given_fresh x head body taken h (empty_by h.stage e) g

begun_at : (stage : HopStage) (taken : List ℕ) (h : Hop) → stage ≡ h.stage → gift_of stage ≡ message_gift → AsideAt stage taken h.writer → ⊥
begun_at at.Empty taken h s e a = cc
begun_at at.Message taken h s e a = a
begun_at at.Whole taken h s e a = a
begun_at (at.Refusal status) taken h s e a = cc

pub begun : (taken : List ℕ) (h : Hop) → gift_of h.stage ≡ message_gift → IsAside taken h → ⊥
begun taken h e a = begun_at h.stage taken h refl e a.text

pub refused : (x : Seen) (head body taken : List ℕ) (status : ℕ) (h : Hop) → gift_of h.stage ≡ refusal_gift status
    → HasGiven x head body taken h → ⊥
refused x head body taken status h e g = no_message_at h.stage status x h.framing head body taken h.writer (refusal_by h.stage status e)
    g.given

not_true : (b : Bool) → not b ≡ true → b ≡ false
not_true true e = cc
not_true false e = refl

pub untouched_given : (x : Seen) (head body taken : List ℕ) (h : Hop) → not h.touched ≡ true → HasGiven x head body taken h
    → (taken ≡ []) × (x.original_delivered ≡ 0) × (x.adapted_delivered ≡ 0)
untouched_given x head body taken h e g = let u = g.untouched (not_true h.touched e) in (u.0, u.1.0, u.1.1)

pub untouched_aside : (taken : List ℕ) (h : Hop) → not h.touched ≡ true → IsAside taken h → taken ≡ []
untouched_aside taken h e a = a.untouched (not_true h.touched e)

not_false : (b : Bool) → not b ≡ false → b ≡ true
not_false true e = refl
not_false false e = cc

pub touched_given : (x : Seen) (head body taken : List ℕ) (h : Hop) → not h.touched ≡ false → HasGiven x head body taken h
    → 0 < length taken
touched_given x head body taken h e g = g.touched (not_false h.touched e)

pub touched_aside : (taken : List ℕ) (h : Hop) → not h.touched ≡ false → IsAside taken h → 0 < length taken
touched_aside taken h e a = a.touched (not_false h.touched e)

original_by : (x : Seen) → ChoosesOriginal x → chooses_original x ≡ true
original_by x (inl p) = grind (arith, nat_tests, p)
original_by x (inr m) = grind (arith, nat_tests, m)

taken_by : (b : Bool) (o a r s : ℕ) → (if b then o else a) ≡ (if b then r else s) → b ≡ true → o ≡ r
taken_by true o a r s d e = d
taken_by false o a r s d e = cc

left_by : (b : Bool) (o a r s : ℕ) → (if b then o else a) ≡ (if b then r else s) → b ≡ false → a ≡ s
left_by true o a r s d e = cc
left_by false o a r s d e = d

out_whole : (b : Bool) (x : Seen) (n : ℕ) → chooses_original x ≡ b → chosen_delivered x ≡ chosen_received x
    → (chooses_original x ≡ true → x.modified ≡ false) → Allows x (Usr n) → ⊥
out_whole true x n e d one (inl a) =
    let same : x.original_delivered ≡ x.received = taken_by (chooses_original x) x.original_delivered x.adapted_delivered x.received
    x.adapted_received d e in
    omega (arith, same, a.1.0, a.2)
out_whole true x n e d one (inr a) = let odd : true ≡ false = sym a.0 ∙ one e in cc
out_whole false x n e d one (inl a) = let odd : false ≡ true = sym e ∙ original_by x a.0 in cc
out_whole false x n e d one (inr a) =
    let same : x.adapted_delivered ≡ x.adapted_received =
    left_by (chooses_original x) x.original_delivered x.adapted_delivered x.received x.adapted_received d e in
    omega (arith, same, a.1.0, a.2)

rests_at : (stage : HopStage) (x : Seen) (head body taken : List ℕ) (h : Hop) → stage ≡ h.stage
    → GivenAt stage x h.framing head body taken h.writer → gift_of stage ≡ message_gift → NothingDue x h → x.closed ≡ false
    → (event : Event) → is_of_hop event ≡ true → Allows x event → ⊥
rests_at at.Empty x head body taken h s g e d o event i a = cc
rests_at at.Message x head body taken h s g e d o (Usr n) i a = d.none (ap is_message (sym s)) n o a
rests_at at.Message x head body taken h s g e d o Done i a = d.no_done (ap (λ (t : HopStage). is_message t || is_whole t) (sym s)) o a
rests_at at.Message x head body taken h s g e d o event i a = cc
rests_at at.Whole x head body taken h s g e d o (Usr n) i a = out_whole (chooses_original x) x n refl (g.all_out refl).1 d.one a
rests_at at.Whole x head body taken h s g e d o Done i a = d.no_done (ap (λ (t : HopStage). is_message t || is_whole t) (sym s)) o a
rests_at at.Whole x head body taken h s g e d o event i a = cc
rests_at (at.Refusal status) x head body taken h s g e d o event i a = cc

pub rests_where : (x : Seen) (head body taken : List ℕ) (h : Hop) → HasGiven x head body taken h → gift_of h.stage ≡ message_gift
    → NothingDue x h → x.closed ≡ false
    → (event : Event) → is_of_hop event ≡ true → Allows x event → ⊥
rests_where x head body taken h g e d o event i a = rests_at h.stage x head body taken h refl g.given e d o event i a
