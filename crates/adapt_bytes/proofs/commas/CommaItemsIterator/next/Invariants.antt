-- The parts passed over so far were empty, so all items are still to come; each turn takes off one part.
use Rattle.std.proofs.Common.{◌≡◌, length}
use Rattle.adapt_bytes.specs.Text.{items_left, parts_left}
use Rattle.adapt_bytes.proofs.commas.CommaItemsIterator.next.Given as goal

abbrev pub invariant-loop-part : goal.invariant-loop-part
invariant-loop-part l = items_left l.self ≡ items_left l.fn.self

abbrev pub decreases-loop-part : goal.decreases-loop-part
decreases-loop-part l = length (parts_left l.self.parts)
