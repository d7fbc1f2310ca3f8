-- How lists are read: the parts in the order in which every list has them.
use Rattle.std.specs.Prelude.{◌≡◌, ℕ, ◌++◌, Bool, true, false, ◌&&◌, List, [], ◌∷◌, codes, Option, Some, None, nat_lt, ◌==◌, IsTrue}
use Rattle.std.specs.List.{list_any}
use Rattle.encapsulated.specs.declared.fault.EncFault.{EncFault}
use Rattle.encapsulated.specs.declared.fault.EncFault.TheVariants.{Syntax, Name, Order, NoBodyPart, Offset}
use Rattle.encapsulated.specs.declared.parts.BodyPart.{BodyPart}
use Rattle.encapsulated.specs.declared.parts.BodyPart.TheVariants.{ReqBody, ResBody, OptBody, NullBody}
use Rattle.encapsulated.specs.declared.parts.Part.{Part}
use Rattle.encapsulated.specs.declared.parts.Part.TheVariants.{ReqHdr, ResHdr, Body}
use Rattle.encapsulated.specs.declared.seen.Row.{Row}
use Rattle.encapsulated.specs.declared.seen.Seen.{Seen}
use Rattle.encapsulated.specs.Grammar.{AreItems, AreParts}
use Rattle.encapsulated.specs.Layouts.{if_there, names, item_text}

-- heads of requests come first, and bodies last
abbrev pub rank : Part → ℕ
rank ReqHdr = 0
rank ResHdr = 1
rank (Body body) = 2

-- the ranks rise, after this part
abbrev pub rises_from : Part → List Part → Bool
rises_from last [] = true
rises_from last (part ∷ parts) = nat_lt (rank last) (rank part) && rises_from part parts

-- each part has a higher rank than the one before
abbrev pub ascends : List Part → Bool
ascends [] = true
ascends (part ∷ parts) = rises_from part parts

-- a body that was seen, as a part
abbrev pub body_part : Option (BodyPart × ℕ) → List (Part × ℕ)
body_part None = []
body_part (Some body) = (Body body.0, body.1) ∷ []

-- the parts, in order
abbrev pub seen_parts : Seen → List (Part × ℕ)
seen_parts s = if_there ReqHdr s.req_hdr ++ if_there ResHdr s.res_hdr ++ body_part s.body

-- what is seen are these parts; None where they are out of order, whatever comes after them
abbrev pub HasSeen : Option Seen → List (Part × ℕ) → Type 0
HasSeen None parts = (more : List Part) → ¬ (IsTrue (ascends (names parts ++ more)))
HasSeen (Some seen) parts = seen_parts seen ≡ parts

-- why a list can't be read as parts in order
abbrev pub Unread : EncFault → List ℕ → Type 0
Unread Syntax text = (items : List (List ℕ × ℕ)) → ¬ (AreItems text items)
Unread Name text = (items : List (List ℕ × ℕ)) × AreItems text items × ((parts : List (Part × ℕ)) → ¬ (AreParts text parts))
Unread Order text = (parts : List (Part × ℕ)) × AreParts text parts × ¬ (IsTrue (ascends (names parts)))
Unread NoBodyPart text = ⊥
Unread Offset text = ⊥

-- a number for each part
abbrev pub part_number : Part → ℕ
part_number ReqHdr = 0
part_number ResHdr = 1
part_number (Body ReqBody) = 2
part_number (Body ResBody) = 3
part_number (Body OptBody) = 4
part_number (Body NullBody) = 5

-- whether a list begins with these parts
abbrev pub is_front : List Part → List Part → Bool
is_front [] list = true
is_front (part ∷ parts) [] = false
is_front (part ∷ parts) (first ∷ list) = (part_number part == part_number first) && is_front parts list

-- whether some list begins with these parts
abbrev pub any_front : List (List Part) → List Part → Bool
any_front lists parts = list_any (λ list. is_front parts list) lists

-- whether the part is a body
abbrev pub is_body : Part → Bool
is_body ReqHdr = false
is_body ResHdr = false
is_body (Body body) = true

-- whether a body is among the parts
abbrev pub has_body : List Part → Bool
has_body parts = list_any is_body parts

-- a head that a row may have
abbrev pub head_if : Bool → Part → List Part
head_if true part = part ∷ []
head_if false part = []

-- the heads that a row may have
abbrev pub heads_of : Row → List Part
heads_of row = head_if row.req_hdr ReqHdr ++ head_if row.res_hdr ResHdr

-- whether some list has this body after these heads, whatever their offsets
abbrev pub heads_fit : BodyPart → Option ℕ → Option ℕ → Bool
heads_fit ReqBody req_hdr None = true
heads_fit ReqBody req_hdr (Some offset) = false
heads_fit OptBody None None = true
heads_fit OptBody None (Some offset) = false
heads_fit OptBody (Some offset) res_hdr = false
heads_fit ResBody req_hdr res_hdr = true
heads_fit NullBody req_hdr res_hdr = true

-- a head's item, and what separates it from the next
abbrev pub head_text : Part → Option ℕ → List ℕ
head_text part None = []
head_text part (Some offset) = item_text (part, offset) ++ codes ", "
