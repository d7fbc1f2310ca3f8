-- An event that is taken is answered with what is held after it, and the state then shows the history with that event.
use Rattle.std.proofs.Common.{◌∙◌, sym, ap}
use Rattle.trace_core.specs.History.{shows}
use Rattle.trace_core.specs.View.{after}
use Rattle.trace_core.specs.declared.history.Answer.TheVariants.{Held}
use Rattle.trace_core.specs.Held.{held_original}
use Rattle.trace_core.specs.Run.{shown_adapted}
use Rattle.proxy_commands.proofs.Steps.{taken_shows, taken_answer, taken_after}
use Rattle.proxy_commands.proofs.trace.answer_event.Goals as goal

pub returns-in-Ok-clause-answer : goal.returns-in-Ok-clause-answer
returns-in-Ok-clause-answer c =
    let old = c.args.state.now in
    let seen_then = ap shows c.in-Ok.ensures.taken ∙ taken_shows old.plan old.events c.args.event c.trace-legal.ensures.legal
    c.in-Ok.ensures.accepted in
    let answer = taken_answer old.plan old.events c.args.event c.trace-legal.ensures.legal c.in-Ok.ensures.accepted in
    ap (λ r. Held r c.shown_adapted.result) (c.held_original.ensures.held ∙ ap held_original seen_then)
    ∙ ap (Held (held_original (after (shows old) c.args.event))) (c.shown_adapted.ensures ∙ ap shown_adapted seen_then)
    ∙ sym answer

pub returns-in-Ok-clause-after : goal.returns-in-Ok-clause-after
returns-in-Ok-clause-after c =
    let old = c.args.state.now in
    ap shows c.in-Ok.ensures.taken ∙ taken_shows old.plan old.events c.args.event c.trace-legal.ensures.legal c.in-Ok.ensures.accepted
    ∙ sym (taken_after old.plan old.events c.args.event c.trace-legal.ensures.legal c.in-Ok.ensures.accepted)
