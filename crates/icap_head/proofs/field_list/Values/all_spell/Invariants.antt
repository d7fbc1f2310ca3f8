-- All values spell the number if and only if all values left do.
use Rattle.icap_head.specs.Fields.{AllSpell, values_left}
use Rattle.icap_head.proofs.field_list.Values.all_spell.Given as goal

abbrev pub invariant-loop-text : goal.invariant-loop-text
invariant-loop-text l = record {
  can : (goal.iterator-loop-text).can_next l.text-iterator;
  ends : (goal.iterator-loop-text).is_finite l.text-iterator;
  forth : AllSpell l.number (values_left l.fn.self) → AllSpell l.number (values_left l.text-iterator);
  back : AllSpell l.number (values_left l.text-iterator) → AllSpell l.number (values_left l.fn.self);
}
