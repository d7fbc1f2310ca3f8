-- Whether a preview is answered after events is told by what stood before and by what they bring.
use Rattle.std.proofs.Common.{Bool, not, ◌||◌, ◌&&◌, ap, ◌∙◌}
use Rattle.std.specs.List.{list_any}
use Rattle.trace_core.specs.History.{is_continue, is_preview}
use Rattle.icap_client.proofs.Marked.{answered_after}
use Rattle.icap_client.proofs.answered.is_answered.Goals as goal

pub returns : goal.returns
returns c =
    let x = c.args.seen.now in
    let replied = c.has_final-replied.result in
    c.answered_by.ensures
    ∙ (ap (λ (b : Bool). is_preview x.plan.kind && (not (x.continued || b) && ((x.no_mod || x.modified) || replied)))
    c.has_continue-continued.ensures
    ∙ (ap (λ (b : Bool). is_preview x.plan.kind && (not (x.continued || list_any is_continue c.args.events.now) &&
    ((x.no_mod || x.modified) || b))) c.has_final-replied.ensures
    ∙ answered_after x c.args.events.now))
