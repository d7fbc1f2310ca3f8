-- Places within a text's first bytes lie within the copy of these bytes, and hold the same fields there.
use Rattle.std.proofs.Common.{◌≡◌, ap, ◌∙◌, length, take, rules, length-take-le}
use Rattle.icap_head.proofs.Fronts.{front_headers}
use Rattle.icap_head.proofs.field_list.Fields.of_lines.Goals as goal

pub invariant_of-result : goal.invariant_of-result
invariant_of-result c =
    let text : c.in_ok-text.text.items ≡ take c.args.size c.args.text.now = search rules in
    let size : length c.in_ok-text.text.items ≡ c.args.size =
    ap length text ∙ length-take-le c.args.size c.args.text.now c.requires.front in
    record { inside = rw (size, c.in_ok-lines.ensures) c.requires.inside }

pub returns : goal.returns
returns c =
    let text : c.in_ok-text.text.items ≡ take c.args.size c.args.text.now = search rules in
    rw (text, c.in_ok-lines.ensures) (front_headers c.args.size c.args.text.now c.args.lines.now c.requires.inside)
