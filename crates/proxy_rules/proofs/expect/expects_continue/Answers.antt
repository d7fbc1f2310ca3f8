-- One Expect field with the item 100-continue is enough.
use Rattle.std.proofs.Common.{sym, ◌∙◌, arith, ap, codes}
use Rattle.adapt_bytes.specs.Text.{has_item}
use Rattle.proxy_rules.proofs.UserLemmas.{expected_here}
use Rattle.proxy_rules.proofs.expect.expects_continue.Goals as goal

pub returns-then-has_item : goal.returns-then-has_item
returns-then-has_item c = sym (expected_here c.args.fields.now c.loop-at.at (omega arith) (sym c.is_named.ensures ∙ c.if-is_named.true)
    (ap (has_item (codes "100-continue")) (sym c.value.ensures) ∙ sym c.has_item.ensures ∙ c.if-has_item.true))
