-- What goes out of a text that the proxy itself says, in one write at most.
use Rattle.std.specs.Prelude.{◌≡◌, ℕ, ◌+◌, ◌<◌, ◌≤◌, ⊤, List, length, drop, Option, Some, None}
use Rattle.wire_kit.specs.declared.wire.Put.{Put}
use Rattle.wire_kit.specs.declared.wire.Put.TheVariants as put
use Rattle.wire_kit.specs.Past.{Past, Offers}
use Rattle.adapt_sides.specs.declared.saying.Said.{Said}
use Rattle.adapt_sides.specs.declared.saying.Said.TheVariants.{Whole, Part, Nothing, Broken}

-- How far the text is out, whose bytes from that place on were offered, with this answer; or of which none was left.
abbrev pub HasSaid : (text : List ℕ) → (before : ℕ) → Option Put → Said → Type 0
HasSaid text before None Whole = length text ≤ before
HasSaid text before (Some (put.Took n)) Whole = before + n ≡ length text
HasSaid text before (Some (put.Took n)) (Part out) = (out ≡ before + n) × (out < length text)
HasSaid text before (Some put.Wait) Nothing = ⊤
HasSaid text before (Some put.Fault) Broken = ⊤
HasSaid text before _ _ = ⊥

-- one write at most, of the text's bytes from that place on
abbrev pub Says : (old new : Past → Type 0) → (text : List ℕ) → (before : ℕ) → Said → Type 0
Says old new text before said = (answer : Option Put) × Offers old new (drop before text) answer × HasSaid text before answer said
