-- Each part so far is an item, and the parts come to an end.
use Rattle.std.proofs.Common.{ℕ, List, map}
use Rattle.std.specs.List.{AllZip}
use Rattle.encapsulated.specs.Grammar.{IsItem}
use Rattle.encapsulated.proofs.items.are_items.Given as goal

abbrev pub invariant-loop-item : goal.invariant-loop-item
invariant-loop-item l = record {
  can : (goal.iterator-loop-item).can_next l.item-iterator;
  ends : (goal.iterator-loop-item).is_finite l.item-iterator;
  items : (items : List (List ℕ × ℕ)) × AllZip (λ part item. IsItem part item.0 item.1) (map (λ x. x.now) l.yielded) items;
}
