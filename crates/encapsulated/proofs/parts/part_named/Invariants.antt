-- The name is that of none of the parts before this one, ASCII case ignored.
use Rattle.std.proofs.Common.{ℕ, ◌<◌, get_or}
use Rattle.adapt_bytes.specs.Text.{SameAscii}
use Rattle.encapsulated.specs.Grammar.{name_of}
use Rattle.encapsulated.specs.declared.parts.Part.TheVariants.{ReqHdr}
use Rattle.encapsulated.proofs.parts.part_named.Given as goal

abbrev pub invariant-loop-part : goal.invariant-loop-part
invariant-loop-part l = (k : ℕ) → k < l.part-index → SameAscii l.name (name_of (get_or l.part-items k ReqHdr)) → ⊥
