-- How far a pass brings each body.
use Rattle.std.proofs.Common.{◌≡◌, ℕ, ◌+◌, ◌≤◌, false, List, [], ◌∷◌, Option, Some, None, arith, refl, sym, ◌∙◌, ap, subst}
use Rattle.std.proofs.lemmas.Bool.Decides.{nat_tests}
use Rattle.std.proofs.lemmas.Bool.{false≢true}
use Rattle.trace_core.specs.declared.history.Seen.{Seen}
use Rattle.trace_core.specs.declared.history.Event.{Event}
use Rattle.trace_core.specs.declared.history.Event.TheVariants.{Svc, Stop, Fail}
use Rattle.trace_core.specs.declared.history.Cause.{Cause}
use Rattle.trace_core.specs.History.{in_bytes, ad_bytes}
use Rattle.trace_core.specs.View.{after}
use Rattle.trace_core.specs.Turns.{after_all, AllAre, in_sum, ad_sum, is_of_sending}
use Rattle.plan_rules.specs.Room.{original_room, adapted_room}
use Rattle.adapt_hold.specs.Holding.{Holding, IsTied, shows, history_then, moved}
use Rattle.adapt_hold.proofs.Closes.{then_shows}
use Rattle.adapt_turn.specs.declared.pass.PassAnswer.{PassAnswer}
use Rattle.adapt_turn.specs.Reports.{View, Report, Reported, stepped, source_room, service_room}
use Rattle.adapt_turn.proofs.Stepped.{reported_shows}

-- an event brings the bytes of its own body that it says
received_after : (x : Seen) (event : Event) → (after x event).received ≤ x.received + in_bytes event
received_after x event = omega arith

-- an event brings the adapted body at most the bytes that it counts
adapted_after : (x : Seen) (event : Event) → (after x event).adapted_received ≤ x.adapted_received + ad_bytes event
adapted_after x event = omega arith

-- events in a row bring the original at most the bytes that they count
received_all : (x : Seen) (events : List Event) → (after_all x events).received ≤ x.received + in_sum events
received_all x [] = omega arith
received_all x (event ∷ events) =
    let one = received_after x event in
    let more = received_all (after x event) events in
    omega (arith, one, more)

-- events in a row bring the adapted body at most the bytes that they count
adapted_all : (x : Seen) (events : List Event) → (after_all x events).adapted_received ≤ x.adapted_received + ad_sum events
adapted_all x [] = omega arith
adapted_all x (event ∷ events) =
    let one = adapted_after x event in
    let more = adapted_all (after x event) events in
    omega (arith, one, more)

-- a failure brings none
in_stepped : (failed : Option Cause) (reported : List Event) → in_sum (stepped failed reported) ≤ in_sum reported
in_stepped None reported = omega arith
in_stepped (Some cause) reported = omega arith

-- what is stepped of a report brings the adapted body at most what was reported
ad_stepped : (failed : Option Cause) (reported : List Event) → ad_sum (stepped failed reported) ≤ ad_sum reported
ad_stepped None reported = omega arith
ad_stepped (Some cause) reported = omega arith

-- the room for the original is at most a turn's bytes
pub original_few : (x : Seen) (claim window turn : ℕ) → original_room x claim window turn ≤ turn
original_few x claim window turn = grind (arith, nat_tests)

-- the room for the adapted body is at most a turn's bytes
pub adapted_few : (x : Seen) (window turn : ℕ) → adapted_room x window turn ≤ turn
adapted_few x window turn = grind (arith, nat_tests)

-- the longest turn has all the room that there may be
pub source_fits : (h : Holding) → source_room h ≤ 65536
source_fits h = omega (arith, original_few (shows h.history) h.claim h.limits.window h.limits.turn, h.limits.turn_in_range)

-- the room for what the service gives is at most 65536 bytes
pub service_fits : (h : Holding) → service_room h ≤ 65536
service_fits h = omega (arith, adapted_few (shows h.history) h.limits.window h.limits.turn, h.limits.turn_in_range)

-- of what a pass reports so much came of the original, and so much of the adapted body
pub reported_received : {F : Type 0} {v : View F} {h k : Holding} {r : Report} {passed : PassAnswer}
    → IsTied h → Reported v h k r passed
    → (n : ℕ) → in_sum r.events ≤ n → n ≤ h.limits.turn → (shows k.history).received ≤ (shows h.history).received + h.limits.turn
reported_received {F} {v} {h} {k} {r} {passed} t p n few turn =
    let shown = reported_shows t p in
    let all = received_all (shows h.history) (stepped passed.failed r.events) in
    let less = in_stepped passed.failed r.events in
    let at : (after_all (shows h.history) (stepped passed.failed r.events)).received ≤ (shows h.history).received + h.limits.turn =
    omega (arith, all, less, few, turn) in
    subst (λ (x : Seen). x.received ≤ (shows h.history).received + h.limits.turn) (sym shown) at

-- a pass that reports at most so many adapted bytes brings the adapted body at most as many
pub reported_adapted : {F : Type 0} {v : View F} {h k : Holding} {r : Report} {passed : PassAnswer}
    → IsTied h → Reported v h k r passed
    → (n : ℕ) → ad_sum r.events ≤ n → (shows k.history).adapted_received ≤ (shows h.history).adapted_received + n
reported_adapted {F} {v} {h} {k} {r} {passed} t p n few =
    let shown = reported_shows t p in
    let all = adapted_all (shows h.history) (stepped passed.failed r.events) in
    let less = ad_stepped passed.failed r.events in
    let at : (after_all (shows h.history) (stepped passed.failed r.events)).adapted_received ≤ (shows h.history).adapted_received + n =
    omega (arith, all, less, few) in
    subst (λ (x : Seen). x.adapted_received ≤ (shows h.history).adapted_received + n) (sym shown) at

-- closing brings no byte of either body
fail_shows : (h k : Holding) (cause : Cause) → IsTied h → (shows h.history).closed ≡ false → k ≡ moved h (Fail cause) []
    → shows k.history ≡ after (shows h.history) (Fail cause)
fail_shows h k cause t c e = ap (λ (y : Holding). shows y.history) e ∙ then_shows h (Fail cause) (history_then h.history (Fail cause)) t
    (c, tt) refl

-- a failure brings the original no byte
pub fail_received : (h k : Holding) (cause : Cause) (n : ℕ) → IsTied h → (shows h.history).closed ≡ false → k ≡ moved h (Fail cause) []
    → (shows k.history).received ≤ (shows h.history).received + n
fail_received h k cause n t c e =
    let few = received_after (shows h.history) (Fail cause) in
    let at : (after (shows h.history) (Fail cause)).received ≤ (shows h.history).received + n = omega (arith, few) in
    subst (λ (x : Seen). x.received ≤ (shows h.history).received + n) (sym (fail_shows h k cause t c e)) at

-- a failure brings the adapted body no byte
pub fail_adapted : (h k : Holding) (cause : Cause) (n : ℕ) → IsTied h → (shows h.history).closed ≡ false → k ≡ moved h (Fail cause) []
    → (shows k.history).adapted_received ≤ (shows h.history).adapted_received + n
fail_adapted h k cause n t c e =
    let few = adapted_after (shows h.history) (Fail cause) in
    let at : (after (shows h.history) (Fail cause)).adapted_received ≤ (shows h.history).adapted_received + n = omega (arith, few) in
    subst (λ (x : Seen). x.adapted_received ≤ (shows h.history).adapted_received + n) (sym (fail_shows h k cause t c e)) at

-- sending brings no adapted byte
pub none_of_sending : (reported : List Event) → AllAre is_of_sending reported → ad_sum reported ≤ 0
none_of_sending [] o = omega arith
none_of_sending (Svc n ∷ events) o = let more = none_of_sending events o.1 in omega (arith, more)
none_of_sending (Stop ∷ events) o = let more = none_of_sending events o.1 in omega (arith, more)
none_of_sending (_ ∷ events) o = absurd (false≢true o.0)

-- the newer hold is the same
pub paced_kept : (n : ℕ) (of : Seen → ℕ) (k k' : Holding) → k' ≡ k → of (shows k.history) ≤ n → of (shows k'.history) ≤ n
paced_kept n of k k' e l = subst (λ (z : Holding). of (shows z.history) ≤ n) (sym e) l
