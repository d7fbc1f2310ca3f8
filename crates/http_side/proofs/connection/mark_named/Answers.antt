-- Without a Connection field none is named; with one short value just the fields that its items name are marked.
use Rattle.std.proofs.Common.{◌||◌, sym, ap, ◌∙◌, arith}
use Rattle.std.specs.List.{list_any}
use Rattle.adapt_bytes.specs.Fields.{name_at}
use Rattle.adapt_bytes.specs.Text.{has_item}
use Rattle.http_side.proofs.ForwardLemmas.{or_false}
use Rattle.http_side.proofs.connection.mark_named.Goals as goal

pub returns-in-None : goal.returns-in-None
returns-in-None c i l m = c.requires i m ∙ sym (ap (list_any (has_item (name_at c.args.fields.now i))) c.in-None.ensures)

pub returns-in-One : goal.returns-in-One
returns-in-One c i l m =
    let name = name_at c.args.fields.now i in
    c.mark_items.ensures.each i l (omega arith)
    ∙ ap (λ b. b || has_item name c.in-One.value.now) (c.requires i (omega arith))
    ∙ sym (or_false (has_item name c.in-One.value.now))
    ∙ sym (ap (list_any (has_item name)) c.in-One.ensures)
