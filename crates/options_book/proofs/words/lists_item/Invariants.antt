-- The list has the item just if it is among the items left.
use Rattle.std.proofs.Common.{◌≡◌}
use Rattle.std.specs.Prelude.{bytes_eq}
use Rattle.std.specs.List.{list_any}
use Rattle.adapt_bytes.specs.Text.{items_left}
use Rattle.options_book.specs.Options.{lists_item}
use Rattle.options_book.proofs.words.lists_item.Given as goal

abbrev pub invariant-loop-found : goal.invariant-loop-found
invariant-loop-found l = record {
  can : (goal.iterator-loop-found).can_next l.found-iterator;
  ends : (goal.iterator-loop-found).is_finite l.found-iterator;
  rest : lists_item l.fn.list l.item ≡ list_any (λ found. bytes_eq found l.item) (items_left l.found-iterator);
}
