-- The first field of the name gives the first of the values left; a field of another name gives none.
use Rattle.std.proofs.Common.{◌≡◌, ◌+◌, ◌<◌, true, ◌∷◌, length, drop, sym, ap, ◌∙◌, arith}
use Rattle.std.specs.Str.{str_eq_ignore_ascii_case}
use Rattle.adapt_bytes.specs.Fields.{field_at, is_named, values_of}
use Rattle.icap_head.specs.Fields.{field_list}
use Rattle.icap_head.proofs.LookUps.{values_from_yes, values_from_no}
use Rattle.icap_head.proofs.field_list.Fields.next_value.Goals as goal

pub returns-then-same_ascii-clause-some : goal.returns-then-same_ascii-clause-some
returns-then-same_ascii-clause-some c =
    let name = c.args.name.now in
    let fields = field_list c.args.self.now in
    let at = c.loop-at.at in
    let inside : at < length fields = omega (arith, c.loop-at-test.true, c.len-at-end.ensures) in
    let same : is_named name (field_at fields at) ≡ true =
    ap (λ t. str_eq_ignore_ascii_case t name) (sym c.name.ensures) ∙ sym c.if-same_ascii.ensures in
    c.loop-at.invariant ∙ values_from_yes name fields at inside same ∙ ap (λ v. v ∷ values_of name (drop (at + 1) fields))
    (sym c.value.ensures)

pub loop-at-preserved : goal.loop-at-preserved
loop-at-preserved c =
    let name = c.args.name.now in
    let fields = field_list c.args.self.now in
    let at = c.loop-at.at in
    let inside : at < length fields = omega (arith, c.loop-at-test.true, c.len-at-end.ensures) in
    c.loop-at.invariant
    ∙ values_from_no name fields at inside (ap (λ t. str_eq_ignore_ascii_case t name) (sym c.name.ensures) ∙ sym c.if-same_ascii.ensures)
