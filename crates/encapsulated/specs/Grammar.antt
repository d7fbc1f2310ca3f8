-- The items of a list (RFC 3507, section 4.4.1).
use Rattle.std.specs.Prelude.{◌≡◌, ℕ, ◌^◌, ◌<◌, ◌++◌, List, ◌∷◌, codes}
use Rattle.std.specs.List.{AllZip}
use Rattle.adapt_bytes.specs.Numeral.{Writes}
use Rattle.adapt_bytes.specs.Text.{IsToken, SameAscii, comma_parts}
use Rattle.encapsulated.specs.declared.parts.BodyPart.TheVariants.{ReqBody, ResBody, OptBody, NullBody}
use Rattle.encapsulated.specs.declared.parts.Part.{Part}
use Rattle.encapsulated.specs.declared.parts.Part.TheVariants.{ReqHdr, ResHdr, Body}

-- a part's name
abbrev pub name_of : Part → List ℕ
name_of ReqHdr = codes "req-hdr"
name_of ResHdr = codes "res-hdr"
name_of (Body ReqBody) = codes "req-body"
name_of (Body ResBody) = codes "res-body"
name_of (Body OptBody) = codes "opt-body"
name_of (Body NullBody) = codes "null-body"

-- an item: a name, `=`, and the decimal of an offset, with nothing between them
pub record IsItem (text name : List ℕ) (offset : ℕ) : Type 0 where
  pub digits : List ℕ
  pub text_is : text ≡ name ++ 61 ∷ digits
  pub token : IsToken name
  pub number : Writes 10 digits offset
  pub fits : offset < 2 ^ 64

-- what stands between the commas are these names and offsets, one by one
abbrev pub AreItems : List ℕ → List (List ℕ × ℕ) → Type 0
AreItems text items = AllZip (λ part item. IsItem part item.0 item.1) (comma_parts text) items

-- an item that names this part, ASCII case ignored
pub record IsPart (text : List ℕ) (part : Part) (offset : ℕ) : Type 0 where
  pub name : List ℕ
  pub item : IsItem text name offset
  pub named : SameAscii name (name_of part)

-- what stands between the commas names these parts and offsets, one by one
abbrev pub AreParts : List ℕ → List (Part × ℕ) → Type 0
AreParts text parts = AllZip (λ item part. IsPart item part.0 part.1) (comma_parts text) parts
