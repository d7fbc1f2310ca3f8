-- What the pass of one side does to a transaction.
use Rattle.std.specs.Prelude.{◌≡◌, ℕ, ◌<◌, ◌≤◌, ◌⊎◌, ⊤, MatchOption, Bool, true, false, List, [], ◌∷◌, ◌++◌, take, Option, Some, None}
use Rattle.trace_core.specs.declared.history.Event.{Event}
use Rattle.trace_core.specs.declared.history.Event.TheVariants.{Fail, Retry}
use Rattle.trace_core.specs.declared.history.Cause.{Cause}
use Rattle.trace_core.specs.declared.history.Cause.TheVariants as causes
use Rattle.trace_core.specs.declared.history.Seen.{Seen}
use Rattle.trace_core.specs.History.{History}
use Rattle.trace_core.specs.Legal.{MayFollow}
use Rattle.trace_core.specs.Turns.{after_all, AllAre, in_sum, ad_sum, is_of_source, is_of_sending, is_of_replies, is_of_hop}
use Rattle.plan_rules.specs.Room.{original_room, adapted_room}
use Rattle.wire_kit.specs.Past.{Past, IsLater}
use Rattle.wire_kit.specs.declared.wire.Wire.{Ghosts as Wire}
use Rattle.adapt_sides.specs.declared.source.Source.{Ghosts as Source}
use Rattle.adapt_sides.specs.declared.service.Service.{Ghosts as Service}
use Rattle.adapt_sides.specs.declared.hop.Hop.{Ghosts as Hop}
use Rattle.adapt_sides.specs.declared.fault.ClientFault.{ClientFault}
use Rattle.adapt_sides.specs.declared.fault.ClientFault.TheVariants as client
use Rattle.adapt_sides.specs.declared.fault.RelayFault.{RelayFault}
use Rattle.adapt_sides.specs.declared.fault.RelayFault.TheVariants as relay
use Rattle.adapt_sides.specs.Tapes.{chosen}
use Rattle.adapt_sides.specs.Turns.{Given, given_then, OfRelayWire, OfClientWire}
use Rattle.adapt_hold.specs.Spans.{EndsBody}
use Rattle.adapt_hold.specs.Holding.{Holding, shows, moved}
use Rattle.adapt_hold.specs.Steps.{MayRun, moved_all}
use Rattle.adapt_turn.specs.declared.pass.PassAnswer.{PassAnswer}
use Rattle.adapt_turn.specs.declared.turn.Outcome.{Outcome}
use Rattle.adapt_turn.specs.declared.turn.Outcome.TheVariants as outcomes

-- The cause that each side's fault is: want of memory is a cause of its own, and a body of another length than its head said is
-- the service's fault.

abbrev pub source_cause : RelayFault → Cause
source_cause relay.NoMemory = causes.Memory
source_cause _ = causes.Source

abbrev pub service_cause : ClientFault → Cause
service_cause client.NoMemory = causes.Memory
service_cause _ = causes.Service

abbrev pub hop_cause : RelayFault → Cause
hop_cause relay.NoMemory = causes.Memory
hop_cause relay.Length = causes.Service
hop_cause _ = causes.NextHop

-- a cause that lies with a side, or with memory: neither the deadline nor a stop
abbrev pub IsOfSide : Cause → Type 0
IsOfSide causes.Deadline = ⊥
IsOfSide causes.Stopping = ⊥
IsOfSide _ = ⊤

-- The service's connection broke where the request may begin anew: it was used before, and ended or failed.
pub record Breaks (history : History) (reused : Bool) (fault : Option ClientFault) : Type 0 where
  pub used : reused ≡ true
  pub broke : (fault ≡ Some client.Closed) ⊎ (fault ≡ Some client.Device)
  pub may : MayFollow history.plan history.events Retry

-- the fault of a side, where there is a side
abbrev pub fault_of : {L : Type 0} → (L → Option ClientFault) → Option L → Option ClientFault
fault_of fault None = None
fault_of fault (Some line) = fault line

-- a fault that a side didn't have before has its reason
abbrev pub HasFaultReason : {F : Type 0} → (old_fault new_fault : Option F) → (reason : F → Type 0) → Type 0
HasFaultReason {F} old_fault new_fault reason = old_fault ≡ None → (fault : F) → new_fault ≡ Some fault → reason fault

-- why the service fails first: its wire failed in a write, or what was read of it has its reason
abbrev pub FailsService : {V : Type 0} → Service V → Option V → Seen → ClientFault → Type 0
FailsService v side x fault = (fault ≡ client.Device) ⊎ MatchOption side ⊥ (v.has_reason fault x)

-- It was closed by that cause where the request might not begin anew: its connection wasn't used before, or hadn't ended or failed,
-- or the plan or a byte of a reply forbids it. A fault that the service didn't have before has its reason by what was seen then.
abbrev pub FailsFor : {V : Type 0} → Service V → Cause → (reused : Bool) → (old_side side : Option V) → Holding → Type 0
FailsFor v cause reused old_side side new =
    (mid : Holding) × (new ≡ moved mid (Fail cause) []) × (Breaks mid.history reused (fault_of v.fault side) → ⊥)
    × HasFaultReason (fault_of v.fault old_side) (fault_of v.fault side) (FailsService v side (shows mid.history))

-- how a transaction ends that this failed, if anything did
abbrev pub outcome_by : Option Cause → Outcome
outcome_by None = outcomes.Done
outcome_by (Some cause) = outcomes.Fail cause

-- how a history ended, the newest event first; while it is open, how it ends unless it fails
abbrev pub outcome_of : List Event → Outcome
outcome_of (Fail cause ∷ before) = outcomes.Fail cause
outcome_of _ = outcomes.Done

-- what is stepped: what the side reported, or the failure
abbrev pub stepped : Option Cause → List Event → List Event
stepped None reported = reported
stepped (Some cause) reported = Fail cause ∷ []

-- how much room the source's side reads into, and the service's
abbrev pub source_room : Holding → ℕ
source_room h = original_room (shows h.history) h.claim h.limits.window h.limits.turn

abbrev pub service_room : Holding → ℕ
service_room h = adapted_room (shows h.history) h.limits.window h.limits.turn

-- What a pass is lent, at one moment: what the transaction holds, one side, and the side's wire.
pub record Lent (S W : Type 0) : Type 0 where
  pub hold : Holding
  pub side : S
  pub wire : W

abbrev pub lending : {S W : Type 0} → Holding → S → W → Lent S W
lending hold side wire = record { hold = hold; side = side; wire = wire }

-- One side and its wire through a pass, whichever of the three it is.
pub record View (F : Type 0) : Type 1 where
  -- the events that are the side's
  pub events : Event → Bool
  -- the cause that a fault of it is
  pub cause : F → Cause
  -- what a first fault shows of the wire
  pub of_wire : F → Past → Past → Type 0
  -- how often the wire answered Wait
  pub waits : Past → ℕ
  pub old_fault : Option F
  pub new_fault : Option F
  -- nothing is due
  pub rests : Type 0
  pub before : Past → Type 0
  pub after : Past → Type 0

abbrev pub source_view : {S H W : Type 0} → Source S H → Wire W → (old new : Lent S W) → View RelayFault
source_view s w old new = record {
  events = is_of_source;
  cause = source_cause;
  of_wire = OfRelayWire;
  waits = λ past. past.read_waits;
  old_fault = s.fault old.side;
  new_fault = s.fault new.side;
  rests = s.rests (source_room old.hold) new.side;
  before = w.past old.wire;
  after = w.past new.wire;
}

-- the service's side as it writes, and as it reads
abbrev pub send_view : {V W : Type 0} → Service V → Wire W → (old new : Lent V W) → View ClientFault
send_view v w old new = record {
  events = is_of_sending;
  cause = service_cause;
  of_wire = OfClientWire;
  waits = λ past. past.write_waits;
  old_fault = v.fault old.side;
  new_fault = v.fault new.side;
  rests = v.rests_writing (shows old.hold.history) new.side;
  before = w.past old.wire;
  after = w.past new.wire;
}

abbrev pub hear_view : {V W : Type 0} → Service V → Wire W → (old new : Lent V W) → View ClientFault
hear_view v w old new = record {
  events = is_of_replies;
  cause = service_cause;
  of_wire = OfClientWire;
  waits = λ past. past.read_waits;
  old_fault = v.fault old.side;
  new_fault = v.fault new.side;
  rests = v.rests_reading (shows old.hold.history) (service_room old.hold) new.side;
  before = w.past old.wire;
  after = w.past new.wire;
}

abbrev pub hop_view : {K G W : Type 0} → Hop K G → Wire W → (old new : Lent K W) → View RelayFault
hop_view k w old new = record {
  events = is_of_hop;
  cause = hop_cause;
  of_wire = OfRelayWire;
  waits = λ past. past.write_waits;
  old_fault = k.fault old.side;
  new_fault = k.fault new.side;
  rests = k.rests (shows old.hold.history) new.side;
  before = w.past old.wire;
  after = w.past new.wire;
}

-- What a side reported: events, the body bytes that they brought, and the bytes that its wire gave and took.
pub record Report : Type 0 where
  pub events : List Event
  pub out : List ℕ
  pub given : List ℕ
  pub taken : List ℕ

-- of a read, and of a write
abbrev pub reading : (events : List Event) → (out given : List ℕ) → Report
reading events out given = record { events = events; out = out; given = given; taken = [] }

abbrev pub writing : (events : List Event) → (taken : List ℕ) → Report
writing events taken = record { events = events; out = []; given = []; taken = taken }

-- no byte went over the wire
abbrev pub IsStill : Report → Type 0
IsStill r = (r.given ≡ []) × (r.taken ≡ [])

-- Why a pass failed or waits, on a wire with the past p before and q after. It failed by the side's fault.
pub record Explains {F : Type 0} (v : View F) (p q : Past) (passed : PassAnswer) : Type 0 where
  pub failed : (cause : Cause) → passed.failed ≡ Some cause
      → (fault : F) × (v.new_fault ≡ Some fault) × (cause ≡ v.cause fault) × (v.old_fault ≡ None → v.of_wire fault p q)
  pub waiting : passed.waiting ≡ true → v.rests ⊎ (v.waits p < v.waits q)

-- a pass that waits did nothing; another one moved a byte, stepped an event, or met a broken connection
pub record Tells (r : Report) (passed : PassAnswer) : Type 0 where
  pub idle : passed.waiting ≡ true → IsStill r × (r.events ≡ []) × (passed.failed ≡ None)
  pub active : passed.waiting ≡ false → passed.broken ≡ false → IsStill r → r.events ≡ [] → passed.failed ≡ None → ⊥

-- What a side reported, of what its wire gave and took, and what was stepped of it.
pub record Reported {F : Type 0} (v : View F) (old new : Holding) (r : Report) (passed : PassAnswer) : Type 0 where
  pub wire : (p : Past) → v.before p → (q : Past) × v.after q × IsLater p r.given r.taken q × Explains v p q passed
  pub only : AllAre v.events r.events
  pub runs : MayRun old (stepped passed.failed r.events) r.out
  pub is : new ≡ moved_all old (stepped passed.failed r.events) r.out
  pub quiet : (cause : Cause) → passed.failed ≡ Some cause → r.events ≡ []
  pub blamed : (cause : Cause) → passed.failed ≡ Some cause → (fault : F) × (v.new_fault ≡ Some fault) × (cause ≡ v.cause fault)
  pub tells : Tells r passed
  pub sound : passed.failed ≡ None → passed.broken ≡ false → v.new_fault ≡ None

-- The source's wire gave this, of the body no more than there was room for; if it waits, all is framed that can be; and an end
-- that the framing gives isn't withheld.
pub record SourceReported {S H W : Type 0} (s : Source S H) (w : Wire W) (old new : Lent S W) (passed : PassAnswer) : Type 0 where
  pub delta : Given
  pub out : List ℕ
  pub reported : List Event
  pub reports : Reported (source_view s w old new) old.hold new.hold (reading reported out delta.bytes) passed
  pub few : in_sum reported ≤ source_room old.hold
  pub framed : passed.waiting ≡ true → s.is_framed (source_room old.hold) new.side
  pub wire : (p : Past) → w.past old.wire p → (q : Past) × w.past new.wire q × IsLater p delta.bytes [] q
      × (delta.ended ≡ true → p.ends < q.ends)
  pub told : passed.failed ≡ None → s.is_over new.side → (after_all (shows old.hold.history) reported).ended ≡ true
  pub agrees : s.agrees (after_all (shows old.hold.history) reported) new.side
  pub goes_on : (body : List ℕ) (read : Given) → s.has_read (shows old.hold.history) body read old.side
      → s.has_read (after_all (shows old.hold.history) reported) (body ++ take (in_sum reported) out) (given_then read delta) new.side

-- the service's wire took these bytes
pub record SendReported {V W : Type 0} (v : Service V) (w : Wire W) (old new : Lent V W) (passed : PassAnswer) : Type 0 where
  pub delta : List ℕ
  pub reported : List Event
  pub reports : Reported (send_view v w old new) old.hold new.hold (writing reported delta) passed
  pub goes_on : (request came taken : List ℕ) → EndsBody old.hold.original came
      → v.has_sent request (shows old.hold.history) came taken old.side
      → v.has_sent request (after_all (shows old.hold.history) reported) came (taken ++ delta) new.side

-- The service's wire gave these bytes, of the adapted body no more than there was room for; where it waits, all is framed that may be.
pub record HearReported {V W : Type 0} (v : Service V) (w : Wire W) (old new : Lent V W) (passed : PassAnswer) : Type 0 where
  pub delta : List ℕ
  pub out : List ℕ
  pub reported : List Event
  pub reports : Reported (hear_view v w old new) old.hold new.hold (reading reported out delta) passed
  pub few : ad_sum reported ≤ service_room old.hold
  pub framed : passed.waiting ≡ true → v.is_framed (service_room old.hold) new.side
  pub goes_on : (adapted read : List ℕ) → v.has_heard (shows old.hold.history) adapted read old.side
      → v.has_heard (after_all (shows old.hold.history) reported) (adapted ++ take (ad_sum reported) out) (read ++ delta) new.side

-- The next hop's wire took so many more bytes of the message with the chosen body; where Done is reported, the whole of it was taken.
pub record HopReported {K G W : Type 0} (k : Hop K G) (w : Wire W) (old new : Lent K W) (passed : PassAnswer) : Type 0 where
  pub delta : List ℕ
  pub reported : List Event
  pub reports : Reported (hop_view k w old new) old.hold new.hold (writing reported delta) passed
  pub goes_on : (original adapted head taken : List ℕ) → EndsBody old.hold.original original → EndsBody old.hold.adapted adapted
      → k.has_given (shows old.hold.history) head (chosen (shows old.hold.history) original adapted) taken old.side
      → k.has_given (after_all (shows old.hold.history) reported) head (chosen (shows old.hold.history) original adapted) (taken ++ delta)
      new.side
  pub done : (original adapted head taken : List ℕ) → EndsBody old.hold.original original → EndsBody old.hold.adapted adapted
      → (after_all (shows old.hold.history) reported).closed ≡ true
      → k.has_given (shows old.hold.history) head (chosen (shows old.hold.history) original adapted) taken old.side
      → k.is_whole head (chosen (shows old.hold.history) original adapted) (taken ++ delta) new.side
