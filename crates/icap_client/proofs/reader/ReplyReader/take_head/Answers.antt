-- The adapted message's head is heard; after it a body begins, or the response is over.
use Rattle.std.proofs.Common.{◌≡◌, List, ℕ, ap, ◌∙◌, rules}
use Rattle.trace_core.specs.History.{shows}
use Rattle.icap_client.specs.Heard.{Reader, with_head}
use Rattle.icap_client.specs.declared.stage.Stage.TheVariants.{Body}
use Rattle.icap_client.proofs.Heads.{hears_mod, keeps_start, keeps_over}
use Rattle.icap_client.proofs.reader.ReplyReader.take_head.Goals as goal
use Rattle.icap_client.proofs.reader.ReplyReader.take_head.Goals.{then-body, else-body}

pub returns-clause-hears : goal.returns-clause-hears
returns-clause-hears c =
    let kept : c.in-Ok.head_bytes.items ≡ c.args.head.now = search rules in
    hears_mod (shows c.args.state.now) c.args.self.now _ c.args.layout c.args.head.now c.has_body-body.result c.payload_of-payload.result
    c.if-body.self
    c.payload_of-payload.ensures c.has_body-body.ensures
    (λ e. elim c.if-body.branch [ then-body w ↦ w.self-is ∙ ap Body w.new.ensures | else-body w ↦ cc (e, w.if-body.false) ])
    (λ e. elim c.if-body.branch [ then-body w ↦ cc (e, w.if-body.true) | else-body w ↦ w.self-is ])
    (ap (λ (r : Reader). with_head r c.args.layout c.in-Ok.head_bytes.items c.if-body.self) c.self.view_is
    ∙ ap (λ (h : List ℕ). with_head c.args.self.now c.args.layout h c.if-body.self) kept)
    (c.may.ensures.0 c.if-not-may.false) c.requires.stage c.requires.head c.requires.size

pub invariant_of-self : goal.invariant_of-self
invariant_of-self c = elim c.if-body.branch [
  | then-body w ↦ keeps_start c.if-body.self w.new.result w.self-is w.new.ensures
  | else-body w ↦
      keeps_over c.if-body.self w.self-is
]
