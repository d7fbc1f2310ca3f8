-- Where there was room for the lines of all fields, there is room for the next one.
use Rattle.std.proofs.Common.{◌≡◌, length, ap, ◌∙◌, get_or, arith}
use Rattle.std.specs.Prelude.{option_copied}
use Rattle.adapt_bytes.specs.Fields.{field_at, name_at}
use Rattle.http_side.specs.Forward.{hosted, field_line}
use Rattle.http_side.proofs.ForwardLemmas.{next_fits}
use Rattle.http_side.proofs.writing.put_fields.Goals as goal

pub put_line-requires : goal.put_line-requires
put_line-requires c =
    let fields = c.args.fields.now in
    let at = c.from-at.result in
    let change = hosted (option_copied c.args.authority) in
    let pair : change (c.name-name.result.now, c.value.result.now) ≡ change (field_at fields at)
    = ap (λ t. change (t, c.value.result.now)) c.name-name.ensures ∙ ap (λ t. change (name_at fields at, t)) c.value.ensures in
    let line : length (field_line (c.name-name.result.now, c.hosted_value.result.now)) ≡ length (field_line (change (field_at fields at))) =
    ap (λ f. length (field_line f)) (c.hosted_value.ensures ∙ pair) in
    let here : length (field_line (change (field_at fields c.from-at.result)))
    ≡ length (field_line (change (field_at fields (get_or c.args.places.now c.loop-place.place-index 0)))) =
    ap (λ k. length (field_line (change (field_at fields k)))) c.from-at.ensures in
    let next = next_fits fields (option_copied c.args.authority) c.args.places.now c.loop-place.place-index 0 (omega arith) in
    omega (arith, line, here, next, c.loop-place.invariant.left, c.requires.room)
