-- The copies so far, with the items of the values left, are the items of all values of the name.
use Rattle.std.proofs.Common.{◌≡◌, ◌++◌, map}
use Rattle.adapt_bytes.specs.Fields.{values_of}
use Rattle.icap_head.specs.Fields.{field_list, values_left}
use Rattle.options_book.specs.Transfer.{vec_bytes, items_of}
use Rattle.options_book.proofs.words.copy_items.Given as goal

abbrev pub invariant-loop-value : goal.invariant-loop-value
invariant-loop-value l = record {
  can : (goal.iterator-loop-value).can_next l.value-iterator;
  ends : (goal.iterator-loop-value).is_finite l.value-iterator;
  rest : map vec_bytes l.copies.items ++ items_of (values_left l.value-iterator) ≡ items_of (values_of l.fn.name (field_list l.fn.fields));
}
