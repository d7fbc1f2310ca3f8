-- The parts of a text that are still to come.
use Rattle.std.specs.Prelude.{ℕ, ◌+◌, List, Option, None, Some, length}
use Rattle.std.specs.Borrow.{Bor}
use Rattle.test_rows.specs.declared.part_iterator.Parts.{Parts}

-- no more parts than bytes, and one
abbrev pub most_of : Option (Bor (List ℕ)) → ℕ
most_of None = 0
most_of (Some rest) = 1 + length rest.now

abbrev pub most_parts : Parts → ℕ
most_parts parts = most_of parts.rest
