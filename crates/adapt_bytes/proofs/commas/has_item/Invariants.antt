-- The list has the word just where an item that is still to come is the word, but for case.
use Rattle.std.proofs.Common.{◌≡◌}
use Rattle.std.specs.List.{list_any}
use Rattle.std.specs.Str.{str_eq_ignore_ascii_case}
use Rattle.adapt_bytes.specs.Text.{has_item, items_left}
use Rattle.adapt_bytes.proofs.commas.has_item.Given as goal

abbrev pub invariant-loop-item : goal.invariant-loop-item
invariant-loop-item l = record {
  can : (goal.iterator-loop-item).can_next l.item-iterator;
  ends : (goal.iterator-loop-item).is_finite l.item-iterator;
  rest : has_item l.word l.fn.list ≡ list_any (λ item. str_eq_ignore_ascii_case item l.word) (items_left l.item-iterator);
}
