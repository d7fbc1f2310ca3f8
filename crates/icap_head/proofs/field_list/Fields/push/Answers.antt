-- Bytes added to the text leave the fields in it as they are; if its place is added too, a new field is the last.
use Rattle.std.proofs.Common.{◌++◌, map, ap, ◌∙◌, append_assoc}
use Rattle.std.proofs.lemmas.Result.{err_from_is_err_and}
use Rattle.httparse.specs.Spans.{header_bytes}
use Rattle.icap_head.proofs.Fronts.{is_added, either_inside, added_fields, longer_headers}
use Rattle.icap_head.proofs.field_list.Fields.push.Goals as goal

pub invariant_of-self-2 : goal.invariant_of-self-2
invariant_of-self-2 c =
    let before = c.args.self.now in
    let added = is_added before.text.items c.args.name.now c.args.value.now c.add.new.text.items c.add-2.new.text.items
    c.in_ok-name.name c.in_ok-value.value
    c.in_ok-name.ensures.ok c.in_ok-name.ensures.text c.in_ok-value.ensures.ok c.in_ok-value.ensures.text in
    record {
      inside = either_inside _ _ _ _ before.lines.items c.push.new.self.items _ _ added before.inside c.push.ensures.items;
    }

pub returns-in_err-value-clause-err : goal.returns-in_err-value-clause-err
returns-in_err-value-clause-err c =
    let p = err_from_is_err_and c.from_residual-in_err-value.result c.from_residual-in_err-value.ensures.1 in
    let before = c.args.self.now in
    let lines = before.lines.items in
    rw p.1 (ap (λ t. map (header_bytes t) lines) (c.in_err-value.ensures.err ∙ c.in_ok-name.ensures.text)
    ∙ longer_headers before.text.items c.args.name.now lines before.inside)

pub returns-in_err-push-clause-err : goal.returns-in_err-push-clause-err
returns-in_err-push-clause-err c =
    let p = err_from_is_err_and c.from_residual-in_err-push.result c.from_residual-in_err-push.ensures.1 in
    let before = c.args.self.now in
    let text = before.text.items in
    let lines = before.lines.items in
    let grown = c.in_ok-value.ensures.text ∙ ap (λ t. t ++ c.args.value.now) c.in_ok-name.ensures.text
    ∙ append_assoc text c.args.name.now c.args.value.now in
    rw p.1
    ((λ i. map (header_bytes (grown i)) (c.in_err-push.ensures.items i))
    ∙ longer_headers text (c.args.name.now ++ c.args.value.now) lines before.inside)

pub returns-clause-ok : goal.returns-clause-ok
returns-clause-ok c =
    let before = c.args.self.now in
    let added = is_added before.text.items c.args.name.now c.args.value.now c.add.new.text.items c.add-2.new.text.items
    c.in_ok-name.name c.in_ok-value.value
    c.in_ok-name.ensures.ok c.in_ok-name.ensures.text c.in_ok-value.ensures.ok c.in_ok-value.ensures.text in
    ap (map (header_bytes c.add-2.new.text.items)) c.in_ok-push.ensures.items
    ∙ added_fields _ _ _ _ before.lines.items _ added before.inside
