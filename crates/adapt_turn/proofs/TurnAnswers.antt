-- What is so for each answer, for each side and of the writer that has the message.
use Rattle.std.proofs.Common.{◌≡◌, ℕ, ◌-◌, ◌<◌, ◌≤◌, Bool, true, false, inl, inr, List, [], ◌∷◌, length, take, drop, get_or, Option, Some}
use Rattle.std.proofs.Common.{None, arith, refl, ◌∙◌, sym, ap, subst}
use Rattle.std.proofs.Math.Seq.{take-length}
use Rattle.adapt_sides.specs.Turns.{Gift}
use Rattle.adapt_sides.specs.Turns.Gift.{nothing, message, refusal}
use Rattle.adapt_turn.specs.declared.turn.Side.{Side}
use Rattle.adapt_turn.specs.declared.turn.Side.TheVariants.{Source, Service, NextHop}
use Rattle.trace_core.specs.declared.history.Cause.{Cause}
use Rattle.adapt_turn.specs.Reports.{outcome_by}
use Rattle.adapt_turn.specs.declared.turn.Outcome.{Outcome}
use Rattle.adapt_turn.specs.declared.turn.Outcome.TheVariants as outcomes
use Rattle.adapt_turn.specs.declared.turn.TurnAnswer.{TurnAnswer}
use Rattle.adapt_turn.specs.declared.turn.TurnAnswer.TheVariants as answers
use Rattle.plan_rules.specs.declared.pace.Pace.{Pace}
use Rattle.adapt_turn.specs.TurnAnswers.{BySide, OfWriter, OnAnswer, ByAnswer, Paces, Drives}

-- what follows from each answer of a turn is so for the answer that it gave
pub by_answer : (turned : TurnAnswer) (on : OnAnswer)
    → (turned ≡ answers.Waiting → on.waiting) → ((n : ℕ) → turned ≡ answers.Moved n → on.moved n) → (turned ≡ answers.Broken → on.broken)
    → ((outcome : Outcome) → turned ≡ answers.Finished outcome → on.finished outcome)
    → ByAnswer turned on
by_answer answers.Waiting on w m b f = w refl
by_answer (answers.Moved n) on w m b f = m n refl
by_answer answers.Broken on w m b f = b refl
by_answer (answers.Finished outcome) on w m b f = f outcome refl

-- what follows of each answer follows
pub answer_on : (turned : TurnAnswer) (on on' : OnAnswer) → ByAnswer turned on
    → (on.waiting → on'.waiting) → ((n : ℕ) → on.moved n → on'.moved n) → (on.broken → on'.broken)
    → ((o : Outcome) → on.finished o → on'.finished o) → ByAnswer turned on'
answer_on answers.Waiting on on' a w m b f = w a
answer_on (answers.Moved n) on on' a w m b f = m n a
answer_on answers.Broken on on' a w m b f = b a
answer_on (answers.Finished outcome) on on' a w m b f = f outcome a

-- An answer of a closed one is none that its connection broke.
pub not_broken : (turned : TurnAnswer) (on : OnAnswer) → ByAnswer turned on → (on.broken → ⊥) → turned ≡ answers.Broken → ⊥
not_broken turned on a none e = none (subst (λ (z : TurnAnswer). ByAnswer z on) e a)

-- a turn in which no byte moved leaves the clock and the marks, if it answers Broken only where the connection was marked
pub paces_still : (closed : Bool) (old new : Pace) (now : ℕ) (moves : ℕ → Type 0) (said : TurnAnswer) → new ≡ old
    → (said ≡ answers.Broken → old.broken ≡ true)
    → (closed ≡ false → moves 0 × ((m : ℕ) → said ≡ answers.Moved m → m ≡ 0)) → Paces closed old new now moves said
paces_still closed old new now moves said e b m =
    let last = ap (λ (z : Pace). z.last_moved) e in
    let broken = ap (λ (z : Pace). z.broken) e in
    record {
      moment = inl last;
      clock = λ o. (0, (m o).0, λ z. last, λ l. absurd (omega (arith, l)), (m o).1);
      still = λ s. last;
      rests = λ k. last;
      limit = ap (λ (z : Pace). z.deadline) e;
      marked = (
        λ t. inl (sym broken ∙ t),
        λ w. elim w [
          | inl t ↦ broken ∙ t
          | inr s ↦ broken ∙ b s
        ],
      );
      reused = ap (λ (z : Pace). z.reused) e;
    }

-- what follows for each side of a turn is so for the turn's side
pub for_side : (side : Side) (source service next : Type 0) → (side ≡ Source → source) → (side ≡ Service → service)
    → (side ≡ NextHop → next) → BySide side source service next
for_side Source source service next a b c = a refl
for_side Service source service next a b c = b refl
for_side NextHop source service next a b c = c refl

-- nothing failed where no cause is told
pub unfailed : (failed : Option Cause) (outcome : Outcome) → outcome ≡ outcome_by failed
    → ((cause : Cause) → outcome ≡ outcomes.Fail cause → ⊥) → failed ≡ None
unfailed None outcome e n = refl
unfailed (Some cause) outcome e n = absurd (n cause e)

-- a writer that has nothing has no message
pub idle_no_message : (gift : Gift) → gift ≡ nothing → gift ≡ message → ⊥
idle_no_message gift n m = let d : nothing ≡ message = sym n ∙ m in absurd cc

-- nothing is begun back to the user
pub of_next : (gift : Gift) (next back : Type 0) → gift ≡ nothing → next → OfWriter gift next back
of_next gift next back idle n = (λ e. n, λ busy. absurd (busy idle))

-- where one is begun back, what is so of the writer back is so of the writer that has the message
pub of_back : (gift : Gift) (next back : Type 0) → (gift ≡ nothing → ⊥) → back → OfWriter gift next back
of_back gift next back busy b = (λ e. absurd (busy e), λ k. b)

-- the same of what follows of both
pub of_either : (gift gift' : Gift) (next back next' back' : Type 0) → gift' ≡ gift → (next → next') → (back → back')
    → OfWriter gift next back → OfWriter gift' next' back'
of_either gift gift' next back next' back' same n b w = (λ e. n (w.0 (sym same ∙ e)), λ k. b (w.1 (λ e. k (same ∙ e))))

-- what follows of either follows
pub of_one : (gift : Gift) (next back this : Type 0) → (next → this) → (back → this) → OfWriter gift next back → this
of_one nothing next back this n b w = n (w.0 refl)
of_one message next back this n b w = b (w.1 (λ e. let d : message ≡ nothing = e in absurd cc))
of_one (refusal status) next back this n b w = b (w.1 (λ e. let d : refusal status ≡ nothing = e in absurd cc))

-- Turns in a row.

-- no sides in a row leave what is driven as it was
pub drives_none : {T : Type 0} (turns : T → Side → T → Type 0) (old : T) (sides : List Side) → length sides < 1 → Drives turns old sides old
drives_none turns old [] l = refl
drives_none turns old (side ∷ sides) l = absurd (omega (arith, l))

-- a schedule without its first side is the rest of it
tail_is : (side : Side) (sides : List Side) → take (length (side ∷ sides) - 1) (drop 1 (side ∷ sides)) ≡ sides
tail_is side sides = let n : length (side ∷ sides) - 1 ≡ length sides = omega arith in ap (λ (k : ℕ). take k sides) n ∙ take-length sides

-- a turn for the first side, and turns for the sides after it, are turns for all of them
pub drives_more : {T : Type 0} (turns : T → Side → T → Type 0) (old mid new : T) (sides : List Side) (none : Side) → 1 ≤ length sides
    → turns old (get_or sides 0 none) mid
    → Drives turns mid (take (length sides - 1) (drop 1 sides)) new → Drives turns old sides new
drives_more turns old mid new [] none l first others = absurd (omega (arith, l))
drives_more turns old mid new (side ∷ sides) none l first others =
    (mid, first, subst (λ (ks : List Side). Drives turns mid ks new) (tail_is side sides) others)
