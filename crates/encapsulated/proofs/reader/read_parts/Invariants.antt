-- The items so far name parts, and these are what was seen, or they are out of order.
use Rattle.std.proofs.Common.{ℕ, List, map}
use Rattle.std.specs.List.{AllZip}
use Rattle.encapsulated.specs.declared.parts.Part.{Part}
use Rattle.encapsulated.specs.Grammar.{IsPart}
use Rattle.encapsulated.specs.Order.{HasSeen}
use Rattle.encapsulated.proofs.reader.read_parts.Given as goal

abbrev pub invariant-loop-item : goal.invariant-loop-item
invariant-loop-item l = record {
  can : (goal.iterator-loop-item).can_next l.item-iterator;
  ends : (goal.iterator-loop-item).is_finite l.item-iterator;
  parts : (parts : List (Part × ℕ)) × AllZip (λ item part. IsPart item part.0 part.1) (map (λ x. x.now) l.yielded) parts
      × HasSeen l.seen parts;
}
