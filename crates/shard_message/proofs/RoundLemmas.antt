-- Rounds, turn by turn.
use Rattle.std.proofs.Common.{◌≡◌, ◌-◌, ◌<◌, ◌≤◌, Bool, true, false, List, [], ◌∷◌, length, take, drop, get_or, arith, refl, ap, subst, ◌∙◌}
use Rattle.std.proofs.Common.{inl, inr}
use Rattle.std.proofs.Math.Seq.{take-length}
use Rattle.adapt_turn.specs.declared.turn.Side.{Side}
use Rattle.adapt_turn.specs.declared.turn.TurnAnswer.{TurnAnswer}
use Rattle.shard_exchange.specs.declared.answers.Round.{Round}
use Rattle.shard_exchange.specs.declared.answers.Round.TheVariants as rounds
use Rattle.shard_message.specs.Rounds.{Adds, IsRound, IsTurned, ends_round}

-- no side is left
pub no_turn : {T : Type 0} (turn : T → Side → TurnAnswer → T → Type 0) (over : T → Bool) (old : T) (sides : List Side) → length sides < 1
    → IsRound turn over sides old old rounds.Waiting
no_turn turn over old [] l = (refl, refl)
no_turn turn over old (side ∷ later) l = absurd (omega (arith, l))

-- the round ends with this turn
pub last_turn : {T : Type 0} (turn : T → Side → TurnAnswer → T → Type 0) (over : T → Bool) (old mid : T) (sides : List Side) (none : Side)
    (answer : TurnAnswer) (turned : Round) → 1 ≤ length sides
    → turn old (get_or sides 0 none) answer mid → IsTurned (over mid) answer turned → ends_round turned ≡ true
    → IsRound turn over sides old mid turned
last_turn turn over old mid [] none answer turned l t i e = absurd (omega (arith, l))
last_turn turn over old mid (side ∷ later) none answer turned l t i e = (mid, answer, turned, t, i, inl (e, refl, refl))

-- what is left after the first one
later_is : (side : Side) (later : List Side) → take (length (side ∷ later) - 1) (drop 1 (side ∷ later)) ≡ later
later_is side later = let n : length (side ∷ later) - 1 ≡ length later = omega arith in ap (λ k. take k later) n ∙ take-length later

-- further turns follow this one
pub more_turns : {T : Type 0} (turn : T → Side → TurnAnswer → T → Type 0) (over : T → Bool) (old mid new : T) (sides : List Side)
    (none : Side) (answer : TurnAnswer) (turned rest round : Round) → 1 ≤ length sides
    → turn old (get_or sides 0 none) answer mid → IsTurned (over mid) answer turned → ends_round turned ≡ false
    → IsRound turn over (take (length sides - 1) (drop 1 sides)) mid new rest → Adds turned rest round
    → IsRound turn over sides old new round
more_turns turn over old mid new [] none answer turned rest round l t i e later a = absurd (omega (arith, l))
more_turns turn over old mid new (side ∷ later) none answer turned rest round l t i e others a = (
  mid,
  answer,
  turned,
  t,
  i,
  inr (
    e,
    (
      rest,
      subst (λ (s : List Side). IsRound turn over s mid new rest) (later_is side later) others,
      a,
    ),
  ),
)
