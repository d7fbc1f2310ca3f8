-- A name that is an item of one Connection field is named by Connection.
use Rattle.std.proofs.Common.{sym, ◌∙◌, arith, ap}
use Rattle.adapt_bytes.specs.Text.{has_item}
use Rattle.http_side.proofs.ForwardLemmas.{named_here}
use Rattle.http_side.proofs.connection.is_named_by.Goals as goal

pub returns-then-has_item : goal.returns-then-has_item
returns-then-has_item c = sym (named_here c.args.fields.now c.args.name.now c.loop-at.at (omega arith)
    (sym c.is_named.ensures ∙ c.if-is_named.true)
    (ap (has_item c.args.name.now) (sym c.value.ensures) ∙ sym c.has_item.ensures ∙ c.if-has_item.true))
