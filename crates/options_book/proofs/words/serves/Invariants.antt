-- The fields name the point's method just if one of the Methods values left does.
use Rattle.std.proofs.Common.{◌≡◌}
use Rattle.std.specs.List.{list_any}
use Rattle.icap_head.specs.Fields.{field_list, values_left}
use Rattle.options_book.specs.Options.{serves, lists_item}
use Rattle.options_book.proofs.words.serves.Given as goal

abbrev pub invariant-loop-value : goal.invariant-loop-value
invariant-loop-value l = record {
  can : (goal.iterator-loop-value).can_next l.value-iterator;
  ends : (goal.iterator-loop-value).is_finite l.value-iterator;
  rest : serves l.fn.point (field_list l.fn.fields) ≡ list_any (λ value. lists_item value l.method) (values_left l.value-iterator);
}
