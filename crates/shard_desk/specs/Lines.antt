-- Whose lines are.
use Rattle.std.specs.Prelude.{◌≡◌, ◌≤◌, ◌⊎◌, ℕ, Option, Some, None}
use Rattle.slab.specs.Slab.{get}
use Rattle.shard_desk.specs.declared.lines.LineHolder.{LineHolder}
use Rattle.shard_desk.specs.declared.lines.LineHolder.TheVariants.{Exchange, Nobody, Left}
use Rattle.shard_desk.specs.declared.lines.IdleLine.{IdleLine}
use Rattle.shard_desk.specs.declared.lines.RegisteredLine.{RegisteredLine}
use Rattle.shard_desk.specs.declared.lines.RegisteredLines.{RegisteredLines}

-- the key of the exchange that has the line, if it is one's
abbrev pub held_by : LineHolder → Option ℕ
held_by (Exchange key) = Some key
held_by Nobody = None
held_by (Left before) = None

-- so, if there is such a line
abbrev pub owner_of : Option RegisteredLine → Option ℕ
owner_of None = None
owner_of (Some line) = held_by line.holder

-- so for the line of this number; where it lies idle, no exchange has it
abbrev pub owner : RegisteredLines → ℕ → Option ℕ
owner lines number = owner_of (get lines.all number)

-- no poll since the line was laid down is known to have reported all, where this is what is known of the turn of its thread's loop
abbrev pub IsNotPolled : (turn : ℕ) → IdleLine → Type 0
IsNotPolled turn idle = turn ≤ idle.laid

-- the exchange under this key has the line of this number, if there is one
abbrev pub IsOf : RegisteredLines → (number key : ℕ) → Type 0
IsOf lines number key = (owner lines number ≡ Some key) ⊎ (get lines.all number ≡ None)
