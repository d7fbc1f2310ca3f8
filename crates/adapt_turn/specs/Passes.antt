-- What a pass of a side does, one record for each side.
use Rattle.std.specs.Prelude.{◌≡◌, ℕ, ◌+◌, ◌≤◌, ◌⊎◌, Bool, true, false, List, [], Option, Some, None, MatchOption}
use Rattle.trace_core.specs.declared.history.Cause.{Cause}
use Rattle.trace_core.specs.declared.history.Cause.TheVariants as causes
use Rattle.trace_core.specs.declared.history.Event.TheVariants.{Fail}
use Rattle.trace_core.specs.declared.history.Seen.{Seen}
use Rattle.wire_kit.specs.declared.wire.Wire.{Ghosts as Wire}
use Rattle.adapt_sides.specs.declared.source.Source.{Ghosts as Source}
use Rattle.adapt_sides.specs.declared.service.Service.{Ghosts as Service}
use Rattle.adapt_sides.specs.declared.hop.Hop.{Ghosts as Hop}
use Rattle.adapt_sides.specs.declared.fault.ClientFault.{ClientFault}
use Rattle.adapt_sides.specs.declared.fault.ClientFault.TheVariants as client
use Rattle.adapt_sides.specs.declared.fault.RelayFault.{RelayFault}
use Rattle.adapt_sides.specs.Turns.{OfClientWire, FailsGiving}
use Rattle.adapt_sides.specs.Turns.Gift.{nothing, message}
use Rattle.adapt_hold.specs.Holding.{Holding, IsTied, shows, moved}
use Rattle.adapt_turn.specs.declared.pass.PassAnswer.{PassAnswer}
use Rattle.adapt_turn.specs.declared.turn.Side.{Side}
use Rattle.adapt_turn.specs.declared.turn.Side.TheVariants as sides
use Rattle.adapt_turn.specs.Reports.{Lent, lending, SourceReported, SendReported, HearReported, HopReported, Breaks, HasFaultReason}
use Rattle.adapt_turn.specs.Reports.{FailsFor, IsOfSide, source_view, hear_view, source_room, service_room, service_cause, hop_cause}
use Rattle.adapt_turn.specs.Reports.{fault_of, outcome_by, outcome_of}
use Rattle.adapt_turn.specs.Rows.{may_step, TookBy, Advances, BytesOr}
use Rattle.adapt_turn.specs.Stands.{IsChosen, Waited, WaitedBoth, FaultView, faults_in, Blamed, BlamedWriter}
use Rattle.adapt_turn.specs.TurnAnswers.{OfWriter}
use Rattle.adapt_turn.specs.ChosenHead.{MakesAt, MakesNoneAt, answers_user, on_held, response_of, wire_of}
use Rattle.adapt_turn.specs.declared.ends.ServiceEnd.{ServiceEnd}
use Rattle.adapt_turn.specs.declared.head.MakesHead.{Ghosts as MakesHead}

-- the source's numbers aren't those of the history: it is no message of this transaction, which fails, and nothing is read
pub record Disagrees {S H W : Type 0} (s : Source S H) (old new : Lent S W) (passed : PassAnswer) : Type 0 where
  pub no : s.agrees (shows old.hold.history) old.side → ⊥
  pub failed : new.hold ≡ moved old.hold (Fail causes.Source) []
  pub side : new.side ≡ old.side
  pub wire : new.wire ≡ old.wire
  pub passed_is : passed ≡ record { waiting = false; failed = Some causes.Source; broken = false }

-- A pass of the source's side. Where it waits, nothing was stepped, there was nothing to read or the wire answered Wait, and none of
-- the bytes that the side keeps can be framed. Else a byte moved, or an event was stepped.
pub record SourcePasses {S H W : Type 0} (s : Source S H) (w : Wire W) (old new : Lent S W) (passed : PassAnswer) : Type 0 where
  pub did : (s.agrees (shows old.hold.history) old.side × SourceReported s w old new passed) ⊎ Disagrees s old new passed
  pub tied : IsTied old.hold
  pub idle : passed.waiting ≡ true → passed.failed ≡ None
  pub still : passed.waiting ≡ true → new.hold ≡ old.hold
  pub waits : passed.waiting ≡ true → Waited (s.rests (source_room old.hold) new.side) (λ past. past.read_waits) (w.past old.wire)
      (w.past new.wire)
  pub framed : passed.waiting ≡ true → s.is_framed (source_room old.hold) new.side
  -- a pass brings no more of the body than a turn may
  pub paced : (shows new.hold.history).received ≤ (shows old.hold.history).received + old.hold.limits.turn
  -- it steps events of the source, or Fail
  pub took : TookBy (may_step sides.Source) old.hold new.hold
  pub active : passed.waiting ≡ false → BytesOr (Advances (may_step sides.Source) old.hold new.hold) (w.past old.wire) (w.past new.wire)
  -- it failed by the side's fault, or because its numbers aren't those of the history
  pub blames : (cause : Cause) → passed.failed ≡ Some cause
      → (s.agrees (shows old.hold.history) old.side → Blamed (faults_in (source_view s w old new)) cause)
      × ((s.agrees (shows old.hold.history) old.side → ⊥) → cause ≡ causes.Source)
  pub reason : HasFaultReason (s.fault old.side) (s.fault new.side) (λ fault. s.has_reason fault new.side)
  pub of_side : (cause : Cause) → passed.failed ≡ Some cause → IsOfSide cause
  pub over : (cause : Cause) → passed.failed ≡ Some cause → (shows new.hold.history).closed ≡ true
  pub ends : outcome_by passed.failed ≡ outcome_of new.hold.history.events
  pub sound : passed.failed ≡ None → s.fault new.side ≡ None
  -- an end of the body that the framing tells is told by the pass that reads it
  pub told : passed.failed ≡ None → s.is_over new.side → (shows new.hold.history).ended ≡ true
  pub whole : passed.broken ≡ false
  pub head : s.head new.side ≡ s.head old.side

-- the service's side wrote what was due
pub record WritesDue {V W : Type 0} (v : Service V) (w : Wire W) (reused : Bool) (old new : Lent V W) (passed : PassAnswer) : Type 0 where
  pub reports : SendReported v w old new passed
  pub reason : HasFaultReason (v.fault old.side) (v.fault new.side) (λ fault. fault ≡ client.Device)
  pub heard : (x : Seen) (adapted read : List ℕ) → v.has_heard x adapted read old.side → v.has_heard x adapted read new.side
  pub head : v.adapted_head new.side ≡ v.adapted_head old.side
  pub response : v.is_response new.side ≡ v.is_response old.side
  pub whole : passed.waiting ≡ true → passed.broken ≡ false
  pub unbroken : (cause : Cause) → passed.failed ≡ Some cause → Breaks old.hold.history reused (v.fault new.side) → ⊥
  pub breaks : passed.broken ≡ true → Breaks new.hold.history reused (v.fault new.side)

-- it read replies
pub record ReadsReplies {V W : Type 0} (v : Service V) (w : Wire W) (reused : Bool) (old new : Lent V W) (passed : PassAnswer) : Type 0
  where
    pub reports : HearReported v w old new passed
    pub reason : HasFaultReason (v.fault old.side) (v.fault new.side) (λ fault. v.has_reason fault (shows old.hold.history) new.side)
    pub sent : (request came taken : List ℕ) → v.has_sent request (shows old.hold.history) came taken old.side
        → v.has_sent request (shows old.hold.history) came taken new.side
    pub rests : (x : Seen) → v.rests_writing x old.side → v.rests_writing x new.side
    pub head : (shows old.hold.history).modified ≡ true → v.adapted_head new.side ≡ v.adapted_head old.side
    pub response : (shows old.hold.history).modified ≡ true → v.is_response new.side ≡ v.is_response old.side
    pub unbroken : (cause : Cause) → passed.failed ≡ Some cause → Breaks old.hold.history reused (v.fault new.side) → ⊥
    pub breaks : passed.broken ≡ true → Breaks new.hold.history reused (v.fault new.side)

-- it wrote, and then read
pub record DoesBoth {V W : Type 0} (v : Service V) (w : Wire W) (reused : Bool) (old new : Lent V W) : Type 0 where
  pub mid : Lent V W
  pub first : PassAnswer
  pub second : PassAnswer
  pub tied : IsTied mid.hold
  pub running : (shows mid.hold.history).closed ≡ false
  pub writes : WritesDue v w reused old mid first
  pub reads : ReadsReplies v w reused mid new second

-- A pass of the service's side: it writes, and reads unless the write closed the transaction or met a broken connection.
pub record ServicePasses {V W : Type 0} (v : Service V) (w : Wire W) (reused : Bool) (old new : Lent V W) (passed : PassAnswer) : Type 0
  where
    pub did : WritesDue v w reused old new passed ⊎ DoesBoth v w reused old new
    pub tied : IsTied old.hold
    pub idle : passed.waiting ≡ true → passed.failed ≡ None
    pub still : passed.waiting ≡ true → new.hold ≡ old.hold
    pub waits : passed.waiting ≡ true → WaitedBoth (v.rests_writing (shows old.hold.history) new.side)
        (v.rests_reading (shows old.hold.history) (service_room old.hold) new.side) (w.past old.wire) (w.past new.wire)
    pub framed : passed.waiting ≡ true → v.is_framed (service_room old.hold) new.side
    pub paced : (shows new.hold.history).adapted_received ≤ (shows old.hold.history).adapted_received + old.hold.limits.turn
    pub took : TookBy (may_step sides.Service) old.hold new.hold
    pub active : passed.waiting ≡ false → passed.broken ≡ false
        → BytesOr (Advances (may_step sides.Service) old.hold new.hold) (w.past old.wire) (w.past new.wire)
    pub blames : (cause : Cause) → passed.failed ≡ Some cause → Blamed (faults_in (hear_view v w old new)) cause
    -- it fails only where the request might not begin anew
    pub unbroken : (cause : Cause) → passed.failed ≡ Some cause → FailsFor v cause reused (Some old.side) (Some new.side) new.hold
    pub of_side : (cause : Cause) → passed.failed ≡ Some cause → IsOfSide cause
    pub over : (cause : Cause) → passed.failed ≡ Some cause → (shows new.hold.history).closed ≡ true
    pub ends : outcome_by passed.failed ≡ outcome_of new.hold.history.events
    pub sound : passed.failed ≡ None → passed.broken ≡ false → v.fault old.side ≡ None → v.fault new.side ≡ None
    pub breaks : passed.broken ≡ true → (passed.failed ≡ None) × Breaks new.hold.history reused (v.fault new.side)

abbrev pub service_end : {V W : Type 0} → V → W → ServiceEnd V W
service_end side wire = record { side = side; wire = Some wire }

-- the service's side, where there is a service, and its wire as long as its connection is held
abbrev pub service_faults : {V W : Type 0} → Service V → Wire W → (old new : Option (ServiceEnd V W)) → FaultView ClientFault
service_faults v w old new = record {
  cause = service_cause;
  of_wire = OfClientWire;
  old_fault = fault_of (λ line. v.fault line.side) old;
  new_fault = fault_of (λ line. v.fault line.side) new;
  before = λ p. on_held old ⊥ (λ wire. w.past wire p);
  after = λ p. on_held new ⊥ (λ wire. w.past wire p);
}

-- A pass of the service's line: where no connection is held nothing is due, else it is the side's pass.
pub record ServiceEndPasses {V W : Type 0} (v : Service V) (w : Wire W) (reused : Bool) (old : Holding) (line : Option (ServiceEnd V W))
    (new : Holding) (line' : Option (ServiceEnd V W)) (passed : PassAnswer) : Type 0 where
  pub did : ((wire_of line ≡ None) × (line' ≡ line) × (new ≡ old) × (passed ≡ record { waiting = true; failed = None; broken = false }))
      ⊎ ((side side' : V) × (wire wire' : W) × (line ≡ Some (service_end side wire)) × (line' ≡ Some (service_end side' wire'))
      × ServicePasses v w reused (lending old side wire) (lending new side' wire') passed)

-- What a pass of the next hop is lent: what is held, the writer on the next hop's wire, and that back to the user, with their wires.
pub record Writers (K A C : Type 0) : Type 0 where
  pub hold : Holding
  pub next : K
  pub next_wire : C
  pub back : K
  pub back_wire : A

abbrev pub writers : {K A C : Type 0} → Holding → K → C → K → A → Writers K A C
writers hold next next_wire back back_wire = record { hold = hold; next = next; next_wire = next_wire; back = back; back_wire = back_wire }

-- How the chosen message goes on: whether it answers the user, though a request was offered; that its maker of heads wasn't asked; the
-- heads that it makes, with how the body goes; and why it makes none.
pub record Choice (G : Type 0) : Type 1 where
  pub answers : Bool
  pub unasked : Type 0
  pub makes : List ℕ → G → Type 0
  pub none : Cause → Type 0

abbrev pub choice_of : {M S K H G V W : Type 0} → MakesHead M S K H G → Service V → (old_maker maker : M) → H → Option (ServiceEnd V W)
    → Seen → Choice G
choice_of m v old_maker maker source line x = record {
  answers = answers_user x (response_of v.is_response line);
  unasked = maker ≡ old_maker;
  makes = λ head framing. MakesAt m v maker source line x head framing;
  none = λ cause. MakesNoneAt m v old_maker source line x cause;
}

-- a message was begun before
pub record HadMessage {K G : Type 0} (k : Hop K G) (choice : Choice G) (next back next' back' : K) : Type 0 where
  pub unasked : choice.unasked
  pub busy : k.gift next ≡ nothing → k.gift back ≡ nothing → ⊥
  pub next_is : next' ≡ next
  pub back_is : back' ≡ back

-- one writer begins it now, with a head that was made; nothing is begun on the other one
pub record BeginsOn {K G : Type 0} (k : Hop K G) (choice : Choice G) (answers : Bool) (own own' other other' : K) : Type 0 where
  pub way : choice.answers ≡ answers
  pub idle : k.gift own ≡ nothing
  pub other_idle : k.gift other ≡ nothing
  pub other_is : other' ≡ other
  pub gift : k.gift own' ≡ message
  pub fault : k.fault own' ≡ k.fault own
  pub head : List ℕ
  pub made : choice.makes head (k.body_framing own')
  pub given : (x : Seen) (none body taken : List ℕ) → k.has_given x none body taken own → k.has_given x head body taken own'

-- it goes back to the user exactly where it answers the user
abbrev pub Begins : {K G : Type 0} → Hop K G → Choice G → (next back next' back' : K) → Type 0
Begins k choice next back next' back' = HadMessage k choice next back next' back'
    ⊎ (BeginsOn k choice false next next' back back' ⊎ BeginsOn k choice true back back' next next')

-- a writer gave of the message that it has
pub record GivesOn {K G W : Type 0} (k : Hop K G) (w : Wire W) (old new : Lent K W) (passed : PassAnswer) : Type 0 where
  pub reports : HopReported k w old new passed
  pub reason : HasFaultReason (k.fault old.side) (k.fault new.side) (FailsGiving
      (k.breaks_length (shows old.hold.history) (k.body_framing new.side)))
  pub again : (had : RelayFault) → k.fault old.side ≡ Some had → passed.failed ≡ Some (hop_cause had)
  pub gift : k.gift new.side ≡ k.gift old.side
  pub framing : k.body_framing new.side ≡ k.body_framing old.side
  pub whole : passed.broken ≡ false

-- that of the two which has a message: the one back to the user where that was begun; the other one and its wire stay
abbrev pub GivesOne : {K G A C : Type 0} → Hop K G → Wire A → Wire C → (old new : Writers K A C) → PassAnswer → Type 0
GivesOne k a c old new passed =
    ((k.gift old.back ≡ nothing) × GivesOn k c (lending old.hold old.next old.next_wire) (lending new.hold new.next new.next_wire) passed
    × (new.back ≡ old.back) × (new.back_wire ≡ old.back_wire))
    ⊎ ((k.gift old.back ≡ nothing → ⊥) × GivesOn k a (lending old.hold old.back old.back_wire) (lending new.hold new.back new.back_wire)
    passed × (new.next ≡ old.next) × (new.next_wire ≡ old.next_wire))

-- no message is chosen, and nothing is done
pub record HasNoChoice {K G A C : Type 0} (choice : Choice G) (old new : Writers K A C) : Type 0 where
  pub none : IsChosen (shows old.hold.history) → ⊥
  pub unasked : choice.unasked
  pub same : new ≡ old

-- the head of the chosen message couldn't be made, and the transaction is closed
pub record FailsToBegin {K G A C : Type 0} (k : Hop K G) (choice : Choice G) (old new : Writers K A C) : Type 0 where
  pub cause : Cause
  pub none : choice.none cause
  pub next_idle : k.gift old.next ≡ nothing
  pub back_idle : k.gift old.back ≡ nothing
  pub new_is : new ≡ writers (moved old.hold (Fail cause) []) old.next old.next_wire old.back old.back_wire

-- the chosen message goes out, and is begun where it wasn't
pub record BeginsAndGives {K G A C : Type 0} (k : Hop K G) (a : Wire A) (c : Wire C) (choice : Choice G) (old new : Writers K A C)
    (passed : PassAnswer) : Type 0 where
  pub next : K
  pub back : K
  pub chosen : IsChosen (shows old.hold.history)
  pub begins : Begins k choice old.next old.back next back
  pub gives : GivesOne k a c (writers old.hold next old.next_wire back old.back_wire) new passed

-- A pass of the next hop's side.
pub record NextPasses {K G A C : Type 0} (k : Hop K G) (a : Wire A) (c : Wire C) (choice : Choice G) (old new : Writers K A C)
    (passed : PassAnswer) : Type 0 where
  pub did : HasNoChoice choice old new ⊎ (FailsToBegin k choice old new ⊎ BeginsAndGives k a c choice old new passed)
  pub tied : IsTied old.hold
  pub whole : passed.broken ≡ false
  pub idle : passed.waiting ≡ true → passed.failed ≡ None
  pub still : passed.waiting ≡ true → new.hold ≡ old.hold
  -- no message is chosen; or nothing of it is due, or its wire answered Wait
  pub waits : passed.waiting ≡ true → (IsChosen (shows old.hold.history) → ⊥)
      ⊎ ((k.gift new.next ≡ nothing → k.gift new.back ≡ nothing → ⊥) × OfWriter (k.gift new.back)
      (Waited (k.rests (shows old.hold.history) new.next) (λ past. past.write_waits) (c.past old.next_wire) (c.past new.next_wire))
      (Waited (k.rests (shows old.hold.history) new.back) (λ past. past.write_waits) (a.past old.back_wire) (a.past new.back_wire)))
  pub took : TookBy (may_step sides.NextHop) old.hold new.hold
  pub active : passed.waiting ≡ false → OfWriter (k.gift new.back) (BytesOr (Advances (may_step sides.NextHop) old.hold new.hold)
      (c.past old.next_wire) (c.past new.next_wire))
      (BytesOr (Advances (may_step sides.NextHop) old.hold new.hold) (a.past old.back_wire) (a.past new.back_wire))
  -- a message is begun back to the user exactly where it answers the user
  pub way : (k.gift old.back ≡ nothing → k.gift new.back ≡ message → choice.answers ≡ true)
      × (k.gift old.next ≡ nothing → k.gift new.next ≡ message → choice.answers ≡ false)
  pub blames : (cause : Cause) → passed.failed ≡ Some cause
      → (IsChosen (shows old.hold.history) × (k.gift old.next ≡ nothing) × (k.gift old.back ≡ nothing) × choice.none cause)
      ⊎ (BlamedWriter k c (lending old.hold old.next old.next_wire) (lending new.hold new.next new.next_wire) cause
      ⊎ BlamedWriter k a (lending old.hold old.back old.back_wire) (lending new.hold new.back new.back_wire) cause)
  pub of_side : (cause : Cause) → passed.failed ≡ Some cause → IsOfSide cause ⊎ choice.none cause
  pub over : (cause : Cause) → passed.failed ≡ Some cause → (shows new.hold.history).closed ≡ true
  pub ends : outcome_by passed.failed ≡ outcome_of new.hold.history.events
  pub sound : passed.failed ≡ None → (k.fault old.next ≡ None → k.fault new.next ≡ None)
      × (k.fault old.back ≡ None → k.fault new.back ≡ None)
  -- the wire of the writer without a message isn't touched
  pub elsewhere : OfWriter (k.gift new.back) (new.back_wire ≡ old.back_wire) (new.next_wire ≡ old.next_wire)

-- A pass of any side: `none` says why the head of the chosen message couldn't be made, and the line is the service's after the pass.
pub record AnyPasses {V W : Type 0} (v : Service V) (reused : Bool) (none : Cause → Type 0) (side : Side) (old new : Holding)
    (line : Option (ServiceEnd V W)) (passed : PassAnswer) : Type 0 where
  -- one that fails closes the transaction, and one that waits does nothing
  pub over : (cause : Cause) → passed.failed ≡ Some cause → (shows new.history).closed ≡ true
  pub idle : passed.waiting ≡ true → passed.failed ≡ None
  pub still : passed.waiting ≡ true → new ≡ old
  -- the cause is of a side, or the maker's
  pub of_side : (cause : Cause) → passed.failed ≡ Some cause → IsOfSide cause ⊎ ((side ≡ sides.NextHop) × none cause)
  pub breaks : passed.broken ≡ true → (side ≡ sides.Service) × (passed.failed ≡ None)
      × MatchOption line ⊥ (λ l. Breaks new.history reused (v.fault l.side))
