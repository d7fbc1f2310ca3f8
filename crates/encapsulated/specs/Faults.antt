-- Why a list is refused: each fault with what stands before it in the order.
use Rattle.std.specs.Prelude.{ℕ, List, Contains}
use Rattle.encapsulated.specs.declared.fault.EncFault.{EncFault}
use Rattle.encapsulated.specs.declared.fault.EncFault.TheVariants.{Syntax, Name, Order, NoBodyPart, Offset}
use Rattle.adapt_bytes.specs.declared.method.Method.{Method}
use Rattle.encapsulated.specs.declared.message.Direction.{Direction}
use Rattle.encapsulated.specs.declared.parts.BodyPart.{BodyPart}
use Rattle.encapsulated.specs.declared.parts.Part.{Part}
use Rattle.encapsulated.specs.declared.parts.Part.TheVariants.{Body}
use Rattle.encapsulated.specs.Grammar.{AreItems, AreParts}
use Rattle.encapsulated.specs.Rows.{allowed, IsFront}
use Rattle.encapsulated.specs.Layouts.{names, offsets, Rises}

-- the faults by their numbers
abbrev pub fault_number : EncFault → ℕ
fault_number Syntax = 1
fault_number Name = 2
fault_number Order = 3
fault_number NoBodyPart = 4
fault_number Offset = 5

-- the text's parts are known, and P holds of them
abbrev pub WithParts : List ℕ → (List (Part × ℕ) → Type 0) → Type 0
WithParts text P = (parts : List (Part × ℕ)) × AreParts text parts × P parts

-- exactly where each fault stands, as the first in the order
abbrev pub RefusesList : EncFault → Method → Direction → List ℕ → Type 0
RefusesList Syntax method direction text = (items : List (List ℕ × ℕ)) → ¬ (AreItems text items)
RefusesList Name method direction text =
    (items : List (List ℕ × ℕ)) × AreItems text items × ((parts : List (Part × ℕ)) → ¬ (AreParts text parts))
RefusesList Order method direction text = WithParts text (λ parts. ¬ (IsFront (allowed method direction) (names parts)))
RefusesList NoBodyPart method direction text = WithParts text (λ parts.
    IsFront (allowed method direction) (names parts) × ((body : BodyPart) → ¬ (Contains (names parts) (Body body))))
RefusesList Offset method direction text = WithParts text (λ parts.
    Contains (allowed method direction) (names parts) × ¬ (Rises (offsets parts)))
