-- What each event makes of what the fields show.
use Rattle.std.proofs.Common.{◌≡◌, ℕ, ◌+◌, Bool, true, false, None, refl, ap, ◌∙◌, arith}
use Rattle.std.specs.Prelude.{if◌then◌else◌, ◌&&◌}
use Rattle.std.proofs.Math.Nat.{zero-add, add_comm}
use Rattle.trace_core.specs.declared.history.Event.{Event}
use Rattle.trace_core.specs.declared.history.Event.TheVariants.{In, End, Svc, Stop, Heard, Continue, NoMod, Mod, Ad, AdEnd, Usr, Done, Fail}
use Rattle.trace_core.specs.declared.history.Event.TheVariants.{Retry}
use Rattle.trace_core.specs.declared.history.Cause.{Cause}
use Rattle.trace_core.specs.declared.history.Payload.{Payload}
use Rattle.trace_core.specs.declared.history.Payload.TheVariants.{Body, NullBody}
use Rattle.trace_core.specs.declared.progress.Progress.TheInside.{Inside}
use Rattle.trace_core.specs.declared.progress.phase.Mode.{Mode}
use Rattle.trace_core.specs.declared.progress.phase.Mode.TheVariants.{Open, Closed}
use Rattle.trace_core.specs.declared.progress.phase.Phases.{Phases}
use Rattle.trace_core.specs.declared.progress.phase.Source.TheVariants.{Ended}
use Rattle.trace_core.specs.declared.progress.phase.Request.TheVariants.{Begun, Previewed, PreviewedWhole, Resumed, Over}
use Rattle.trace_core.specs.declared.progress.phase.Response.TheVariants.{Awaited, Unmodified, Headed, Adapting, Adapted}
use Rattle.trace_core.specs.declared.progress.phase.Attempt.TheVariants.{Second}
use Rattle.trace_core.specs.History.{Seen}
use Rattle.trace_core.specs.Faults.{first_fault, is_early, is_all_sent}
use Rattle.trace_core.specs.Modes.{seen_of, phases_of, IsInRange}
use Rattle.trace_core.specs.View.{after}

-- two choices of nothing, a test that fails after another, and a choice between a sum and nothing
none_either : (b : Bool) → ◌≡◌ {A = ℕ} (if b then 0 else 0) 0
none_either true = refl
none_either false = refl

-- anything and false is false
fails_after : (b : Bool) → (b && false) ≡ false
fails_after true = refl
fails_after false = refl

-- a sum, where a test holds, is the sum of both parts where it holds
sum_where : (b : Bool) (d n : ℕ) → (if b then d + n else 0) ≡ (if b then n else 0) + (if b then d else 0)
sum_where true d n = add_comm d n
sum_where false d n = refl

-- what is seen after an event, where it and what was seen go by other names
pub renamed : {old new x : Seen} {event e : Event} → old ≡ x → event ≡ e → new ≡ after old e → new ≡ after x event
renamed {old = old} {new = new} {x = x} {event = event} {e = e} same is taken = cc

-- where an event has no fault by what is seen, it has none where both go by other names
pub no_fault_of : {old x : Seen} {event e : Event} → old ≡ x → event ≡ e → first_fault x event ≡ None → first_fault old e ≡ None
no_fault_of {old = old} {x = x} {event = event} {e = e} same is none = cc

-- an event of a 200 with a payload is that of the payload by its other name
pub of_payload : {event : Event} (payload named : Payload) → event ≡ Mod payload → payload ≡ named → event ≡ Mod named
of_payload payload named is same = cc

-- a test gives the same of what is seen by its other name
pub tested : {old x : Seen} {found value : Bool} (test : Seen → Bool) → old ≡ x → found ≡ test x → found ≡ value → test old ≡ value
tested test same is found = cc

-- fields with more bytes received show what is seen after In
pub taken_in : (a : Inside) (n : ℕ) → seen_of (record a { received = a.received + n }) ≡ after (seen_of a) (In n)
taken_in a n = ap (λ r. record (seen_of a) { received = r }) (add_comm a.received n) ∙ simp (zero-add, none_either, fails_after)

-- fields with more bytes sent show what is seen after Svc
pub taken_svc : (a : Inside) (n : ℕ) → seen_of (record a { sent = a.sent + n }) ≡ after (seen_of a) (Svc n)
taken_svc a n = ap (λ r. record (seen_of a) { sent = r }) (add_comm a.sent n) ∙ simp (zero-add, none_either, fails_after)

-- fields with more adapted bytes received show what is seen after Ad
pub taken_ad : (a : Inside) (n : ℕ) → seen_of (record a { adapted_received = a.adapted_received + n }) ≡ after (seen_of a) (Ad n)
taken_ad a n = ap (λ r. record (seen_of a) { adapted_received = r }) (add_comm a.adapted_received n)
    ∙ simp (zero-add, none_either, fails_after)

-- fields with more bytes delivered show what is seen after Usr
pub taken_usr : (a : Inside) (n : ℕ) → seen_of (record a { delivered = a.delivered + n }) ≡ after (seen_of a) (Usr n)
taken_usr a n = simp (sum_where, zero-add, fails_after)

-- fields with the source ended show what is seen after End, where that has no fault
pub taken_end : (a : Inside) (p : Phases) (m : Mode) → IsInRange a → p ≡ phases_of a.mode → m ≡ Open (record p { source = Ended })
    → first_fault (seen_of a) End ≡ None
    → seen_of (record a { mode = m }) ≡ after (seen_of a) End
taken_end a p m r at is none = grind (arith, at, is, none)

-- fields with a reply begun show what is seen after Heard, where that has no fault
pub taken_heard : (a : Inside) (p : Phases) (m : Mode) → IsInRange a → p ≡ phases_of a.mode → m ≡ Open (record p { response = Awaited })
    → first_fault (seen_of a) Heard ≡ None
    → seen_of (record a { mode = m }) ≡ after (seen_of a) Heard
taken_heard a p m r at is none = grind (arith, at, is, none)

-- fields with the request resumed show what is seen after Continue, where that has no fault
pub taken_continue : (a : Inside) (p : Phases) (m : Mode) → IsInRange a → p ≡ phases_of a.mode → m ≡ Open (record p { request = Resumed })
    → first_fault (seen_of a) Continue ≡ None
    → seen_of (record a { mode = m }) ≡ after (seen_of a) Continue
taken_continue a p m r at is none = grind (arith, at, is, none)

-- fields with the message unmodified show what is seen after NoMod, where that has no fault
pub taken_no_mod : (a : Inside) (p : Phases) (m : Mode) → IsInRange a → p ≡ phases_of a.mode → m ≡ Open (record p { response = Unmodified })
    → first_fault (seen_of a) NoMod ≡ None
    → seen_of (record a { mode = m }) ≡ after (seen_of a) NoMod
taken_no_mod a p m r at is none = grind (arith, at, is, none)

-- fields with an adapted body begun show what is seen after a 200 with a body, where that has no fault
pub taken_body : (a : Inside) (p : Phases) (m : Mode) → IsInRange a → p ≡ phases_of a.mode → m ≡ Open (record p { response = Adapting })
    → first_fault (seen_of a) (Mod Body) ≡ None
    → seen_of (record a { mode = m }) ≡ after (seen_of a) (Mod Body)
taken_body a p m r at is none = grind (arith, at, is, none)

-- fields with the adapted head alone show what is seen after a 200 with null-body, where that has no fault
pub taken_null_body : (a : Inside) (p : Phases) (m : Mode) → IsInRange a → p ≡ phases_of a.mode → m ≡ Open (record p { response = Headed })
    → first_fault (seen_of a) (Mod NullBody) ≡ None
    → seen_of (record a { mode = m }) ≡ after (seen_of a) (Mod NullBody)
taken_null_body a p m r at is none = grind (arith, at, is, none)

-- fields with the adapted body ended show what is seen after AdEnd, where that has no fault
pub taken_adapted_end : (a : Inside) (p : Phases) (m : Mode) → IsInRange a → p ≡ phases_of a.mode
    → m ≡ Open (record p { response = Adapted }) → first_fault (seen_of a) AdEnd ≡ None
    → seen_of (record a { mode = m }) ≡ after (seen_of a) AdEnd
taken_adapted_end a p m r at is none = grind (arith, at, is, none)

-- fields with sending over show what is seen after a Stop that ends no preview, where it has no fault
pub taken_last_stop : (a : Inside) (p : Phases) (m : Mode) → IsInRange a → p ≡ phases_of a.mode → m ≡ Open (record p { request = Over })
    → first_fault (seen_of a) Stop ≡ None
    → is_early (seen_of a) ≡ false
    → seen_of (record a { mode = m }) ≡ after (seen_of a) Stop
taken_last_stop a p m r at is none early = grind (arith, at, is, none)

-- fields with a preview of the whole body out show what is seen after its Stop, where that has no fault
pub taken_whole_stop : (a : Inside) (p : Phases) (m : Mode) → IsInRange a → p ≡ phases_of a.mode
    → m ≡ Open (record p { request = PreviewedWhole }) → first_fault (seen_of a) Stop ≡ None
    → is_early (seen_of a) ≡ true → is_all_sent (seen_of a) ≡ true
    → seen_of (record a { mode = m }) ≡ after (seen_of a) Stop
taken_whole_stop a p m r at is none early all = grind (arith, at, is, none)

-- fields with a preview of a part of the body out show what is seen after its Stop, where that has no fault
pub taken_first_stop : (a : Inside) (p : Phases) (m : Mode) → IsInRange a → p ≡ phases_of a.mode
    → m ≡ Open (record p { request = Previewed }) → first_fault (seen_of a) Stop ≡ None
    → is_early (seen_of a) ≡ true → is_all_sent (seen_of a) ≡ false
    → seen_of (record a { mode = m }) ≡ after (seen_of a) Stop
taken_first_stop a p m r at is none early all = grind (arith, at, is, none)

-- fields that are closed show what is seen after Done
pub taken_done : (a : Inside) (p : Phases) → p ≡ phases_of a.mode → seen_of (record a { mode = Closed p }) ≡ after (seen_of a) Done
taken_done a p at = grind (arith, at)

-- fields that are closed show what is seen after Fail, for whatever cause
pub taken_fail : (a : Inside) (p : Phases) (cause : Cause) → p ≡ phases_of a.mode
    → seen_of (record a { mode = Closed p }) ≡ after (seen_of a) (Fail cause)
taken_fail a p cause at = grind (arith, at)

-- fields begun anew in a second attempt show what is seen after Retry, where that has no fault
pub taken_retry : (a : Inside) (p : Phases) → IsInRange a → p ≡ phases_of a.mode → first_fault (seen_of a) Retry ≡ None
    → seen_of (record a { mode = Open (record p { request = Begun; attempt = Second }); sent = 0 }) ≡ after (seen_of a) Retry
taken_retry a p r at none = grind arith
