-- What a turn of a side says: why it waits, what moved, what it leaves as it was, and why the transaction failed.
use Rattle.std.specs.Prelude.{◌≡◌, ℕ, ◌+◌, ◌≤◌, ◌⊎◌, Bool, true, false, Option, None, MatchOption, ⊤}
use Rattle.trace_core.specs.declared.history.Event.TheVariants.{Retry}
use Rattle.trace_core.specs.declared.history.Cause.{Cause}
use Rattle.trace_core.specs.declared.history.Cause.TheVariants as causes
use Rattle.trace_core.specs.declared.history.Point.TheVariants.{Reqmod, Respmod}
use Rattle.trace_core.specs.Legal.{MayFollow}
use Rattle.wire_kit.specs.Past.{Past}
use Rattle.wire_kit.specs.declared.wire.Wire.{Ghosts as Wire}
use Rattle.adapt_sides.specs.declared.source.Source.{Ghosts as Source}
use Rattle.adapt_sides.specs.declared.service.Service.{Ghosts as Service}
use Rattle.adapt_sides.specs.declared.hop.Hop.{Ghosts as Hop}
use Rattle.adapt_sides.specs.Turns.Gift.{nothing, message}
use Rattle.adapt_hold.specs.Holding.{Holding, shows}
use Rattle.adapt_turn.specs.declared.ends.Ends.{Ends}
use Rattle.adapt_turn.specs.declared.ends.ServiceEnd.{ServiceEnd}
use Rattle.plan_rules.specs.declared.pace.Pace.{Pace}
use Rattle.adapt_turn.specs.declared.turn.Side.{Side}
use Rattle.adapt_turn.specs.declared.turn.Side.TheVariants as sides
use Rattle.adapt_turn.specs.declared.turn.Outcome.{Outcome}
use Rattle.adapt_turn.specs.declared.turn.Outcome.TheVariants as outcomes
use Rattle.adapt_turn.specs.ChosenHead.{answers_user, on_held, response_of, side_of, wire_of}
use Rattle.adapt_turn.specs.Reports.{Lent, lending, Breaks, HasFaultReason, FailsFor, source_view, source_room, service_room}
use Rattle.adapt_turn.specs.Passes.{Writers, service_faults}
use Rattle.adapt_turn.specs.Rows.{may_step, TookBy, Advances}
use Rattle.adapt_turn.specs.Stands.{IsChosen, IsDone, Pasts, Waited, WaitedBoth, faults_in, Blamed, BlamedWriter}
use Rattle.adapt_turn.specs.TurnAnswers.{BySide, OfWriter}

-- Why it waits.

-- a turn of the source waits
pub record SourceWaits {S H W : Type 0} (s : Source S H) (w : Wire W) (old new : Lent S W) : Type 0 where
  -- there was nothing to read, or the wire answered Wait
  pub waited : Waited (s.rests (source_room old.hold) new.side) (λ past. past.read_waits) (w.past old.wire) (w.past new.wire)
  -- none of the bytes that the side keeps can be framed, or there is no room for them
  pub framed : s.is_framed (source_room old.hold) new.side

-- a turn of the service waits, with this hold
pub record ServiceWaits {V W : Type 0} (v : Service V) (w : Wire W) (hold : Holding) (old new : Option (ServiceEnd V W)) : Type 0 where
  -- nothing was due to be written, or to be read, or the wire answered Wait
  pub waited : WaitedBoth (MatchOption new ⊤ (λ service. v.rests_writing (shows hold.history) service.side))
      (MatchOption new ⊤ (λ service. v.rests_reading (shows hold.history) (service_room hold) service.side))
      (λ p. on_held old ⊥ (λ wire. w.past wire p)) (λ p. on_held new ⊥ (λ wire. w.past wire p))
  -- none of the bytes that the side keeps can be framed, or there is no room for them
  pub framed : MatchOption new ⊤ (λ service. MatchOption service.wire ⊤ (λ wire. v.is_framed (service_room hold) service.side))

-- the writer that has the message waits
pub record WriterWaits {K G A C : Type 0} (k : Hop K G) (a : Wire A) (c : Wire C) (old new : Writers K A C) : Type 0 where
  -- a message or a refusal is begun
  pub begun : k.gift new.next ≡ nothing → k.gift new.back ≡ nothing → ⊥
  -- nothing of it was due, or its wire answered Wait
  pub waited : OfWriter (k.gift new.back)
      (Waited (k.rests (shows old.hold.history) new.next) (λ past. past.write_waits) (c.past old.next_wire) (c.past new.next_wire))
      (Waited (k.rests (shows old.hold.history) new.back) (λ past. past.write_waits) (a.past old.back_wire) (a.past new.back_wire))

-- a turn of the next hop waits: no message is chosen, or the writer that has it waits
abbrev pub NextWaits : {K G A C : Type 0} → Hop K G → Wire A → Wire C → (old new : Writers K A C) → Type 0
NextWaits k a c old new = (IsChosen (shows old.hold.history) → ⊥) ⊎ WriterWaits k a c old new

-- What is asked of a turn that answers Waiting.
pub record OnWait : Type 1 where
  -- no byte went over a wire
  pub still : Type 0
  -- nothing of the refusal was due, or its wire answered Wait
  pub refusal : Type 0
  -- the turn's side waits
  pub side : Type 0

-- A turn answers Waiting.
pub record TurnWaits (old new : Holding) (on : OnWait) : Type 0 where
  -- nothing was stepped
  pub hold : new ≡ old
  -- no byte moved
  pub still : on.still
  -- a closed transaction waits with its refusal
  pub refusal : (shows old.history).closed ≡ true → on.refusal
  -- an open one waits for the turn's side
  pub side : (shows old.history).closed ≡ false → on.side

-- What moved.

-- an open transaction stepped at least one event of this side, or Fail
pub record StepsOne (side : Side) (old new : Holding) : Type 0 where
  pub running : (shows old.history).closed ≡ false
  pub advances : Advances (may_step side) old new

-- What is asked of a turn that answers Moved.
pub record OnMove : Type 1 where
  -- this many bytes went over the wires
  pub bytes : ℕ → Type 0
  -- the wires before it; anything is so of the service's where no connection is held
  pub before : Pasts

-- A turn answers Moved with this number.
pub record TurnMoves (on : OnMove) (side : Side) (old new : Holding) (n : ℕ) : Type 0 where
  -- so many bytes moved
  pub bytes : on.bytes n
  -- where it was none, an event was stepped, for any pasts of the wires
  pub active : n ≡ 0 → (p q r : Past) → on.before.source p → on.before.service q → on.before.next r → StepsOne side old new

-- A turn answers Broken.
pub record TurnBreaks {V W : Type 0} (v : Service V) (pace : Pace) (side : Side) (old new : Holding) (service : Option (ServiceEnd V W)) :
    Type 0 where
  -- it was the service's
  pub of_service : side ≡ sides.Service
  -- of an open transaction
  pub running : (shows old.history).closed ≡ false
  -- the request may be retried
  pub may : MayFollow new.history.plan new.history.events Retry
  -- the connection was marked before, or it was used before and has ended or failed
  pub why : (pace.broken ≡ true) ⊎ MatchOption service ⊥ (λ line. Breaks new.history pace.reused (v.fault line.side))

-- What is asked of a turn that answers Finished.
pub record OnFinish : Type 1 where
  -- how the transaction had ended
  pub outcome : Outcome
  -- a refusal was due
  pub refusing : Bool
  -- it is out, or its wire has failed
  pub is_over : Type 0

-- A turn answers Finished with this outcome.
pub record TurnFinishes (on : OnFinish) (old new : Holding) (outcome : Outcome) : Type 0 where
  -- it was closed before
  pub closed : (shows old.history).closed ≡ true
  -- it says how it had ended
  pub ended : outcome ≡ on.outcome
  -- no refusal was due, or it is out, or its wire has failed
  pub refusal : (on.refusing ≡ false) ⊎ on.is_over
  -- Done is answered only where Done stands
  pub done : outcome ≡ outcomes.Done → IsDone new.history

-- What it leaves as it was.

-- A transaction before a turn, or after it, with the types of its source, its service, its writers, and the two wires of these.
pub record TxView (S V K A C : Type 0) : Type 0 where
  pub hold : Holding
  pub source : S
  pub source_wire : A
  -- with its wire
  pub service : V
  pub next : K
  pub next_wire : C
  pub back : K
  pub outcome : Outcome

abbrev pub tx_view : {T S V K M A W C H G : Type 0} → Holding → Ends T S V K M A W C H G → Outcome
    → TxView S (Option (ServiceEnd V W)) K A C
tx_view hold ends outcome = record {
  hold = hold;
  source = ends.source;
  source_wire = ends.source_wire;
  service = ends.service;
  next = ends.next;
  next_wire = ends.next_wire;
  back = ends.back;
  outcome = outcome;
}

-- it hasn't failed
abbrev pub HasNotFailed : Outcome → Type 0
HasNotFailed outcome = (cause : Cause) → outcome ≡ outcomes.Fail cause → ⊥

-- both writers stay as they were
pub record SameWriters {S V K A C : Type 0} (old new : TxView S V K A C) : Type 0 where
  pub next : new.next ≡ old.next
  pub back : new.back ≡ old.back

-- what a turn of the source keeps
pub record SourceKeeps {S V K A C : Type 0} (old new : TxView S V K A C) : Type 0 where
  pub service : new.service ≡ old.service
  pub next_wire : new.next_wire ≡ old.next_wire
  -- it brings no more of the original than a turn may
  pub few : (shows new.hold.history).received ≤ (shows old.hold.history).received + old.hold.limits.turn
  pub writers : HasNotFailed new.outcome → SameWriters old new

-- what a turn of the service keeps
pub record ServiceKeeps {S V K A C : Type 0} (old new : TxView S V K A C) : Type 0 where
  pub source : new.source ≡ old.source
  pub source_wire : new.source_wire ≡ old.source_wire
  pub next_wire : new.next_wire ≡ old.next_wire
  -- it brings no more of the adapted body than a turn may
  pub few : (shows new.hold.history).adapted_received ≤ (shows old.hold.history).adapted_received + old.hold.limits.turn
  pub writers : HasNotFailed new.outcome → SameWriters old new

-- what a turn of the next hop keeps
pub record NextKeeps {S V K A C G : Type 0} (k : Hop K G) (old new : TxView S V K A C) : Type 0 where
  pub source : new.source ≡ old.source
  pub service : new.service ≡ old.service
  -- of the two wires that a message may go to, one
  pub one_wire : (new.source_wire ≡ old.source_wire) ⊎ (new.next_wire ≡ old.next_wire)
  -- unless the transaction fails, that of the writer without a message
  pub other_wire : HasNotFailed new.outcome → OfWriter (k.gift new.back) (new.source_wire ≡ old.source_wire) (new.next_wire ≡ old.next_wire)

-- what a turn of an open transaction keeps
pub record KeepsOpen {S V W K G A C : Type 0} (v : Service V) (k : Hop K G) (side : Side)
    (old new : TxView S (Option (ServiceEnd V W)) K A C) : Type 0 where
  -- it steps events of its side, or Fail
  pub took : TookBy (may_step side) old.hold new.hold
  -- the other sides, and their wires
  pub others : BySide side (SourceKeeps old new) (ServiceKeeps old new) (NextKeeps k old new)
  -- a message that is begun back to the user answers a request that was offered
  pub back : k.gift old.back ≡ nothing → k.gift new.back ≡ message
      → answers_user (shows old.hold.history) (response_of v.is_response old.service) ≡ true
  -- and one that is begun to the next hop doesn't
  pub next : k.gift old.next ≡ nothing → k.gift new.next ≡ message
      → answers_user (shows old.hold.history) (response_of v.is_response old.service) ≡ false

-- what a turn of a closed transaction keeps of its sides and wires: all but the user's writer, and the user's wire
pub record KeepsClosed {S V K A C : Type 0} (old new : TxView S V K A C) : Type 0 where
  pub source : new.source ≡ old.source
  pub service : new.service ≡ old.service
  -- at RESPMOD the user's wire is the next hop's, at REQMOD the source's
  pub source_wire : old.hold.history.plan.point ≡ Respmod → new.source_wire ≡ old.source_wire
  pub next_wire : old.hold.history.plan.point ≡ Reqmod → new.next_wire ≡ old.next_wire

-- What a turn of a side keeps.
pub record TurnKeeps {S V W K G A C : Type 0} (v : Service V) (k : Hop K G) (side : Side)
    (old new : TxView S (Option (ServiceEnd V W)) K A C) : Type 0 where
  pub running : (shows old.hold.history).closed ≡ false → KeepsOpen v k side old new
  pub closed : (shows old.hold.history).closed ≡ true → KeepsClosed old new

-- Why the transaction failed, for a cause.

-- the cause is the deadline, which has passed at this moment
pub record IsLate (pace : Pace) (now : ℕ) (cause : Cause) : Type 0 where
  pub timely : cause ≡ causes.Deadline
  pub late : pace.last_moved + pace.deadline ≤ now

-- it failed for the source
pub record SourceFails {S H W : Type 0} (s : Source S H) (w : Wire W) (old new : Lent S W) (cause : Cause) : Type 0 where
  -- the cause is that of the side's fault, where its numbers are those of the history
  pub blames : s.agrees (shows old.hold.history) old.side → Blamed (faults_in (source_view s w old new)) cause
  -- and else it is Source
  pub disagrees : (s.agrees (shows old.hold.history) old.side → ⊥) → cause ≡ causes.Source
  -- a fault that the side didn't have before has its reason
  pub reason : HasFaultReason (s.fault old.side) (s.fault new.side) (λ fault. s.has_reason fault new.side)

-- it failed for the service
pub record ServiceFails {V W : Type 0} (v : Service V) (w : Wire W) (reused : Bool) (old new : Option (ServiceEnd V W)) (hold : Holding)
    (cause : Cause) : Type 0 where
  -- there is one, and its connection was held
  pub held : wire_of old ≡ None → ⊥
  -- the cause is that of the side's fault
  pub blames : Blamed (service_faults v w old new) cause
  -- the request might not begin anew; a fault that the side didn't have before has its reason
  pub unbroken : FailsFor v cause reused (side_of old) (side_of new) hold

-- no head could be made for the chosen message; the maker says why
pub record LacksHead {K G A C : Type 0} (k : Hop K G) (old : Writers K A C) (unmade : Type 0) : Type 0 where
  pub chosen : IsChosen (shows old.hold.history)
  -- no message is begun
  pub next_idle : k.gift old.next ≡ nothing
  pub back_idle : k.gift old.back ≡ nothing
  pub reason : unmade

-- it failed for the next hop: no head could be made, or a writer is to blame
abbrev pub NextFails : {K G A C : Type 0} → Hop K G → Wire A → Wire C → (old new : Writers K A C) → Cause → (unmade : Type 0) → Type 0
NextFails k a c old new cause unmade =
    LacksHead k old unmade
    ⊎ (BlamedWriter k c (lending old.hold old.next old.next_wire) (lending new.hold new.next new.next_wire) cause
    ⊎ BlamedWriter k a (lending old.hold old.back old.back_wire) (lending new.hold new.back new.back_wire) cause)
