-- The answers of a state are those of the definitions.
use Rattle.std.proofs.Common.{map, sym, ℕ, Bool, true, false, cond, IfSome, IsSome, ◌↔◌, subst}
use Rattle.std.proofs.Common.{◌≡◌, List, [], ◌∷◌, ◌++◌, Option, Some, None, refl, ap, ◌∙◌}
use Rattle.trace_core.specs.declared.history.Plan.{Plan}
use Rattle.trace_core.specs.declared.history.Event.{Event}
use Rattle.trace_core.specs.declared.history.StepFault.{StepFault}
use Rattle.trace_core.specs.declared.history.Answer.TheVariants.{Held}
use Rattle.trace_core.specs.History.{seen}
use Rattle.trace_core.specs.Legal.{IsLegal, MayFollow}
use Rattle.trace_core.specs.Faults.{first_fault}
use Rattle.trace_core.specs.Held.{held_original, IsNeeded}
use Rattle.trace_core.specs.Run.{shown_adapted, IsAnswer, AreAnswers}
use Rattle.trace_core.specs.Norm.{norm}
use Rattle.trace_core.specs.View.{answers_from, after, answer_to, after_answer, answer_by as shown_answer, after_found}
use Rattle.trace_core.specs.declared.history.Answer.{Answer}
use Rattle.trace_core.specs.declared.history.Seen.{Seen}
use Rattle.trace_core.proofs.Answered.{are_answers, no_fault, may_follow, refused}
use Rattle.trace_core.proofs.Short.{norm-shows}
use Rattle.trace_core.specs.declared.tape.Tape.{Tape}
use Rattle.need_witness.specs.Script.{IsScript}
use Rattle.need_witness.specs.Table.{script_of}
use Rattle.need_witness.specs.Needs.{is_held}
use Rattle.need_witness.proofs.Scripted.{is_script}
use Rattle.need_witness.proofs.Needed.{held_needed, needed_held, held_passes, passes_held}
use Rattle.proxy_commands.specs.declared.script.Line.{Line}
use Rattle.proxy_commands.specs.declared.script.Line.TheVariants.{Step, Need}
use Rattle.proxy_commands.specs.Answers.{answers_text, output_of, answer_text, script_text, needed_script, answer_behind}
use Rattle.proxy_commands.specs.Answers.{answer_of, accepted_by, accepted_with, output_after, output_from}

-- an event that may follow: its short form shows the same
pub taken_shows : (plan : Plan) (events : List Event) (event : Event) → IsLegal plan events → MayFollow plan events event
    → seen plan (norm (event ∷ events)) ≡ after (seen plan events) event
taken_shows plan events event legal may = (norm-shows plan (event ∷ events) (may, legal)).same

-- it is answered with what is held after it
pub taken_answer : (plan : Plan) (events : List Event) (event : Event) → IsLegal plan events → MayFollow plan events event
    → answer_to (seen plan events) event
    ≡ Held (held_original (after (seen plan events) event)) (shown_adapted (after (seen plan events) event))
taken_answer plan events event legal may = ap (shown_answer (seen plan events) event) (no_fault plan events event legal may)

-- after its answer, it is part of what is seen
pub taken_after : (plan : Plan) (events : List Event) (event : Event) → IsLegal plan events → MayFollow plan events event
    → after_answer (seen plan events) event ≡ after (seen plan events) event
taken_after plan events event legal may = ap (after_found (seen plan events) event) (no_fault plan events event legal may)

-- what is printed, by the events and by what they show

-- an event is answered alike by the events before it and by what they show, with a fault or without
answer_same : (plan : Plan) (before : List Event) (event : Event) (r : Option StepFault)
    → shown_answer (seen plan before) event r ≡ answer_behind plan before event r
answer_same plan before event None = refl
answer_same plan before event (Some fault) = refl

-- where lines print alike by both, they do after an event, be it refused or not
rest_same : (plan : Plan) (before : List Event) (event : Event) (lines : List Line)
    → ((events : List Event) → output_from (seen plan events) lines ≡ output_after plan events lines)
    → (r : Option StepFault)
    → output_from (after_found (seen plan before) event r) lines ≡ output_after plan (accepted_by before event r) lines
rest_same plan before event lines rest None = rest (event ∷ before)
rest_same plan before event lines rest (Some fault) = rest before

-- lines print alike by the events and by what they show
pub output_same : (plan : Plan) (before : List Event) (lines : List Line)
    → output_from (seen plan before) lines ≡ output_after plan before lines
output_same plan before [] = refl
output_same plan before (Step event ∷ lines) =
    let r = first_fault (seen plan before) event in
    ap (λ a. answer_text a ++ output_from (after_answer (seen plan before) event) lines) (answer_same plan before event r)
    ∙ ap (λ t. answer_text (answer_of plan before event) ++ t)
    (rest_same plan before event lines (λ events. output_same plan events lines) r)
output_same plan before (Need tape place ∷ lines) =
    ap (λ t. script_text (needed_script tape (seen plan before) place) ++ t) (output_same plan before lines)

-- the answer is that of the state machine
pub machine_answer : (plan : Plan) (before : List Event) (event : Event)
    → IsLegal plan before → IsAnswer plan before event (answer_of plan before event)
machine_answer plan before event legal = by_fault (first_fault (seen plan before) event) refl
  where
    by_fault : (r : Option StepFault) → first_fault (seen plan before) event ≡ r
        → IsAnswer plan before event (answer_behind plan before event r)
    by_fault None e = (may_follow plan before event legal e, refl, refl)
    by_fault (Some fault) e = (refused plan before event fault legal e, e)

-- the accepted events are a legal history
pub machine_legal : (plan : Plan) (before : List Event) (event : Event)
    → IsLegal plan before → IsLegal plan (accepted_with plan before event)
machine_legal plan before event legal = by_fault (first_fault (seen plan before) event) refl
  where
    by_fault : (r : Option StepFault) → first_fault (seen plan before) event ≡ r → IsLegal plan (accepted_by before event r)
    by_fault None e = (may_follow plan before event legal e, legal)
    by_fault (Some fault) e = legal

-- a question is answered by a script that may follow, exactly where the place is needed
module _ (plan : Plan) (before : List Event) (tape : Tape) (place : ℕ) (legal : IsLegal plan before) where
  -- the answer, if it is a script, is one for this place
  pub need_script : IfSome (needed_script tape (seen plan before) place) (IsScript tape place plan before)
  need_script = by_held (is_held tape (seen plan before) place) refl
    where
      by_held : (b : Bool) → is_held tape (seen plan before) place ≡ b
          → IfSome (cond b (Some (script_of tape (seen plan before) place)) None) (IsScript tape place plan before)
      by_held true e = is_script tape place plan before legal (passes_held tape (seen plan before) place e)
      by_held false e = tt

  -- where it is a script, the place is needed
  need_needed : IsSome (needed_script tape (seen plan before) place) → IsNeeded tape plan before place
  need_needed some = by_held (is_held tape (seen plan before) place) refl some
    where
      by_held : (b : Bool) → is_held tape (seen plan before) place ≡ b
          → IsSome (cond b (Some (script_of tape (seen plan before) place)) None) → IsNeeded tape plan before place
      by_held true e some = held_needed tape plan before place legal (passes_held tape (seen plan before) place e)
      by_held false e some = absurd (cc)

  -- where the place is needed, it is a script
  needed_need : IsNeeded tape plan before place → IsSome (needed_script tape (seen plan before) place)
  needed_need need =
      let held = held_passes tape (seen plan before) place (needed_held tape plan before place need) in
      let some : needed_script tape (seen plan before) place ≡ Some (script_of tape (seen plan before) place) =
      ap (λ (b : Bool). cond b (Some (script_of tape (seen plan before) place)) None) held in
      subst (λ (r : Option (List Event)). IsSome r) (sym some) refl

  -- it is a script exactly where the place is needed
  pub need_iff : IsSome (needed_script tape (seen plan before) place) ↔ IsNeeded tape plan before place
  need_iff = (need_needed, needed_need)

-- the answers to events alone, printed

-- for events alone their answers are printed, one after another
printed : (x : Seen) (events : List Event) → output_from x (map Step events) ≡ answers_text (answers_from x events)
printed x [] = refl
printed x (event ∷ events) = ap (λ t. answer_text (answer_to x event) ++ t) (printed (after_answer x event) events)

-- what is printed for events alone is the answers of a run
pub run_printed : (plan : Plan) (events : List Event)
    → (answers : List Answer) × AreAnswers plan [] events answers × (output_of plan (map Step events) ≡ answers_text answers)
run_printed plan events = (
  answers_from (seen plan []) events,
  are_answers plan [] events tt,
  sym (output_same plan [] (map Step events)) ∙ printed (seen plan []) events,
)
