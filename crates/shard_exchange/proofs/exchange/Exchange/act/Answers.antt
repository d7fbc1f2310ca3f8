-- A message that moves on after a step is the same: at the gate, in a round, or as a connection goes back.
use Rattle.std.proofs.Common.{◌≡◌, ◌∙◌, inl, inr, Bool, true, false, Option, not, ◌&&◌, ◌||◌, if◌then◌else◌, sym}
use Rattle.std.proofs.lemmas.Bool.{false≢true}
use Rattle.exchange_core.specs.declared.state.CourseState.{CourseState}
use Rattle.exchange_core.specs.declared.due.Due.TheVariants.{GiveBack, Turn}
use Rattle.exchange_core.specs.declared.phase.Phase.{Phase}
use Rattle.exchange_core.specs.declared.phase.Phase.TheVariants.{AtGate, Moving}
use Rattle.exchange_core.specs.Course.{is_in_use, is_leased}
use Rattle.exchange_core.specs.Dues.{due_at}
use Rattle.exchange_core.specs.May.{is_at_gate, is_moving}
use Rattle.shard_exchange.specs.declared.answers.Round.{Round}
use Rattle.shard_exchange.specs.declared.ends.End.{End}
use Rattle.shard_exchange.specs.Ends.{moves}
use Rattle.shard_exchange.specs.Outcomes.{Deeds, Does, IsGated, IsGivenBack, IsTurned, MovesOn}
use Rattle.shard_exchange.proofs.exchange.Exchange.act.Goals as goal

-- the gate let the message pass
passed : {H O : Type 0} (passes : O → Bool → Type 0) (ends : End → Type 0) (follows : O → End → Type 0) (answered reusable : Bool)
    (held holds : H) (old new : CourseState)
    → IsGated passes ends follows answered reusable held holds old new → moves new ≡ true → holds ≡ held
passed passes ends follows answered reusable held holds old new gated moving = elim gated [
  | inl through ↦ through.3
  | inr ended ↦ absurd (false≢true (sym ended.2.over ∙ moving))
]

-- a connection went back
went_back : (puts gives_up stays : Type 0) (there : Bool) (old new : CourseState) → IsGivenBack puts gives_up stays there old new → stays
went_back puts gives_up stays there old new given = given.2

-- a round of turns was taken
took_turns : {H O : Type 0} (rounds : H → H → O → Round → Type 0) (frees : H → Option Bool → Type 0) (answered reusable : H → Bool)
    (ends : H → Bool → End → Type 0) (follows : H → O → End → Type 0) (repeats : H → Type 0) (late : O → Bool)
    (held : H) (old new : CourseState)
    → IsTurned rounds frees answered reusable ends follows repeats late held old new → moves new ≡ true
    → (turned : H) × (later : O) × (round : Round) × rounds held turned later round × ((usable : Option Bool) × frees turned usable)
took_turns rounds frees answered reusable ends follows repeats late held old new turn moving =
    let freed = turn.freed moving in
    (turn.turned, turn.later, turn.round, turn.taken, (freed.0, freed.1))

-- a connection goes back, or there is a round of turns
by_due : {H O : Type 0} (stays : H → H → Type 0) (rounds : H → H → O → Round → Type 0) (frees : H → Option Bool → Type 0) (held holds : H)
    (deeds : Deeds) (back : Bool) → (deeds.given → stays held holds)
    → (deeds.turned → (turned : H) × (later : O) × (round : Round) × rounds held turned later round
    × ((usable : Option Bool) × frees turned usable))
    → Does deeds (if back then GiveBack else Turn) → MovesOn stays rounds frees held holds
by_due stays rounds frees held holds deeds true gives takes h = inr (inl (gives h))
by_due stays rounds frees held holds deeds false gives takes h = inr (inr (takes h))

-- What is due of a message that moves is to ask the gate, to give a connection back, or a round of turns.
moving_on : {H O : Type 0} (stays : H → H → Type 0) (rounds : H → H → O → Round → Type 0) (frees : H → Option Bool → Type 0)
    (held holds : H) (deeds : Deeds) (phase : Phase) (old : CourseState) → (is_at_gate phase || is_moving phase) ≡ true
    → (deeds.gated → holds ≡ held)
    → (deeds.given → stays held holds)
    → (deeds.turned → (turned : H) × (later : O) × (round : Round) × rounds held turned later round
    × ((usable : Option Bool) × frees turned usable))
    → Does deeds (due_at phase old) → MovesOn stays rounds frees held holds
moving_on stays rounds frees held holds deeds (AtGate point offered) old moved passes gives takes does = inl (passes does)
moving_on stays rounds frees held holds deeds (Moving point offered) old moved passes gives takes does =
    by_due stays rounds frees held holds deeds (is_leased old.connection && not (is_in_use old.connection)) gives takes does
moving_on stays rounds frees held holds deeds _ old moved passes gives takes does = cc

pub returns-in-Step-clause-same : goal.returns-in-Step-clause-same
returns-in-Step-clause-same g c =
    let course = c.args.self.now.course in
    λ moved moving.
    let held = c.args.self.now.holdings in
    let holds = c.do_due-step.new.self.holdings in
    moving_on g.H.Holder.stays (λ held turned later round. g.H.Effects.rounds held turned c.args.out.now later c.args.at.now round)
    (λ turned usable. g.H.Holder.frees turned holds usable) held holds _ course.phase course moved
    (λ gated. passed (λ later passes. g.H.Effects.lets_pass c.args.out.now later c.args.at.now passes) _ _ _ _ _ _ _ _ gated moving)
    (λ given. went_back _ _ _ (g.H.Holder.has_line held) course c.do_due-step.new.self.course given)
    (λ turned. took_turns _ _ _ _ _ _ _ _ _ _ _ turned moving) c.do_due-step.ensures.does
