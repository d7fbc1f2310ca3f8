-- The copies so far, with the items left, are the copies of before with all items of the list.
use Rattle.std.proofs.Common.{◌≡◌, ◌++◌, map}
use Rattle.adapt_bytes.specs.Text.{comma_items, items_left}
use Rattle.options_book.specs.Transfer.{vec_bytes}
use Rattle.options_book.proofs.words.push_items.Given as goal

abbrev pub invariant-loop-item : goal.invariant-loop-item
invariant-loop-item l = record {
  can : (goal.iterator-loop-item).can_next l.item-iterator;
  ends : (goal.iterator-loop-item).is_finite l.item-iterator;
  rest : map vec_bytes l.copies.items ++ items_left l.item-iterator ≡ map vec_bytes l.initial.copies.items ++ comma_items l.fn.list;
}
