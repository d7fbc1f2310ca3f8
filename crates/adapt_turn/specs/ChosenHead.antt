-- The head that a message begins with: made of the heads that were read, as it was chosen.
use Rattle.std.specs.Prelude.{◌≡◌, ℕ, MatchOption, ◌&&◌, Bool, true, false, List, Option, Some, None, if◌then◌else◌}
use Rattle.trace_core.specs.declared.history.Seen.{Seen}
use Rattle.trace_core.specs.declared.history.Point.{Point}
use Rattle.trace_core.specs.declared.history.Point.TheVariants.{Reqmod, Respmod}
use Rattle.trace_core.specs.declared.history.Event.{Event}
use Rattle.trace_core.specs.declared.history.Cause.{Cause}
use Rattle.trace_core.specs.History.{seen}
use Rattle.trace_core.specs.Legal.{IsLegal}
use Rattle.trace_core.specs.Turns.{after_all, MayAllFollow}
use Rattle.adapt_sides.specs.declared.service.Service.{Ghosts as Service}
use Rattle.adapt_turn.specs.declared.ends.ServiceEnd.{ServiceEnd}
use Rattle.adapt_turn.specs.declared.head.MakesHead.{Ghosts as MakesHead}
use Rattle.adapt_turn.specs.Stands.{IsChosen}

-- the service's wire, as long as its connection is held
abbrev pub wire_of : {V W : Type 0} → Option (ServiceEnd V W) → Option W
wire_of None = None
wire_of (Some line) = line.wire

-- the service's side, where there is a service
abbrev pub side_of : {V W : Type 0} → Option (ServiceEnd V W) → Option V
side_of None = None
side_of (Some line) = Some line.side

-- the same side, and its connection is given up
abbrev pub without_wire : {V W : Type 0} → Option (ServiceEnd V W) → Option (ServiceEnd V W)
without_wire None = None
without_wire (Some line) = Some (record { side = line.side; wire = None })

-- what is so where its connection isn't held, and where it is
abbrev pub on_held : {V W : Type 0} → Option (ServiceEnd V W) → (unheld : Type 0) → (held : W → Type 0) → Type 0
on_held line unheld held = MatchOption line unheld (λ l. MatchOption l.wire unheld held)

-- the adapted head that a service's side read, where there is a service
abbrev pub adapted_of : {V W : Type 0} → (V → Option (List ℕ)) → Option (ServiceEnd V W) → Option (List ℕ)
adapted_of adapted_head None = None
adapted_of adapted_head (Some line) = adapted_head line.side

-- whether it is a response's
abbrev pub response_of : {V W : Type 0} → (V → Bool) → Option (ServiceEnd V W) → Bool
response_of is_response None = false
response_of is_response (Some line) = is_response line.side

abbrev pub is_reqmod : Point → Bool
is_reqmod Reqmod = true
is_reqmod Respmod = false

-- the chosen message is an answer to the user, though a request was offered: it goes back
abbrev pub answers_user : Seen → (is_response : Bool) → Bool
answers_user x is_response = (is_response && x.modified) && is_reqmod x.plan.point

-- This maker makes this head, and says how the body goes with it, of the source's head, where this is seen: of the service's head only
-- where its message was chosen.
abbrev pub MakesAt : {M S K H G V W : Type 0} → MakesHead M S K H G → Service V → M → H → Option (ServiceEnd V W) → Seen → List ℕ → G
    → Type 0
MakesAt m v maker source line x head framing = m.makes maker source x (if x.modified then adapted_of v.adapted_head line else None)
    (x.modified && response_of v.is_response line) head framing

-- and why it makes none
abbrev pub MakesNoneAt : {M S K H G V W : Type 0} → MakesHead M S K H G → Service V → M → H → Option (ServiceEnd V W) → Seen → Cause
    → Type 0
MakesNoneAt m v maker source line x cause = m.makes_none maker source x (if x.modified then adapted_of v.adapted_head line else None)
    (x.modified && response_of v.is_response line) cause

-- The head, and how the body goes with it, were made at a moment of a history that shows the same as this one, of the message that
-- was chosen then.
pub record IsMade {Framing : Type 0} (makes : Seen → Option (List ℕ) → Bool → List ℕ → Framing → Type 0) (adapted : Option (List ℕ))
    (is_response : Bool) (framing : Framing) (x : Seen) (head : List ℕ) : Type 0 where
  -- the events up to that moment, the newest one first, and those since, the newest one last
  pub before : List Event
  pub since : List Event
  pub legal : IsLegal x.plan before
  pub may : MayAllFollow (seen x.plan before) since
  pub now : x ≡ after_all (seen x.plan before) since
  pub chosen : IsChosen (seen x.plan before)
  pub made : makes (seen x.plan before) (if (seen x.plan before).modified then adapted else None)
      ((seen x.plan before).modified && is_response) head framing
