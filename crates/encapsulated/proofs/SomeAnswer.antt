-- A text whose parts are known is a layout, or some fault stands.
use Rattle.std.proofs.Common.{◌≡◌, ℕ, ◌<◌, ◌≤◌, ◌⊎◌, ◌≢◌, ◌&&◌, inl, inr, Bool, true, false, List, [], ◌∷◌, refl, sym, ap, ◌∙◌, subst}
use Rattle.std.proofs.Common.{arith, Option, Some, None}
use Rattle.std.proofs.lemmas.Bool.Decides.{eqb_tells}
use Rattle.std.proofs.Math.Dec.{eqb}
use Rattle.encapsulated.specs.declared.fault.EncFault.{EncFault}
use Rattle.encapsulated.specs.declared.fault.EncFault.TheVariants.{Syntax, Name, Order, NoBodyPart, Offset}
use Rattle.adapt_bytes.specs.declared.method.Method.{Method}
use Rattle.encapsulated.specs.declared.message.Direction.{Direction}
use Rattle.encapsulated.specs.declared.offsets.Layout.{Layout}
use Rattle.encapsulated.specs.declared.parts.BodyPart.{BodyPart}
use Rattle.encapsulated.specs.declared.parts.Part.{Part}
use Rattle.encapsulated.specs.declared.parts.Part.TheVariants.{ReqHdr, ResHdr, Body}
use Rattle.encapsulated.specs.Grammar.{AreItems, AreParts}
use Rattle.encapsulated.specs.Rows.{allowed}
use Rattle.encapsulated.specs.Layouts.{names, offsets, parts_of, Rises, NoneFalls, IsLayout}
use Rattle.encapsulated.specs.Faults.{RefusesList}
use Rattle.encapsulated.specs.Order.{rises_from, ascends, has_body, any_front}
use Rattle.encapsulated.proofs.Decisions.{Known, lt_known, items_known, parts_known}
use Rattle.encapsulated.proofs.RowLemmas.{any_front-sound, any_front-whole, front_ascends, no_body, may_have, whole_layout}

-- no part with an offset stands after a body where the ranks rise
no_more : (b : BodyPart) (rest : List (Part × ℕ)) → rises_from (Body b) (names rest) ≡ true → rest ≡ []
no_more b [] up = refl
no_more b ((ReqHdr, o) ∷ rest) up = absurd (cc)
no_more b ((ResHdr, o) ∷ rest) up = absurd (cc)
no_more b ((Body c, o) ∷ rest) up = absurd (cc)

-- parts in order with a body among them are a layout's
abbrev IsSomeLayout : List (Part × ℕ) → Type 0
IsSomeLayout parts = (layout : Layout) × (parts_of layout ≡ parts)

-- the layout with these offsets of its heads, and this body at this offset
layout_of : (q r : Option ℕ) (b : BodyPart) (o : ℕ) → Layout
layout_of q r b o = record { req_hdr = q; res_hdr = r; body = b; offset = o }

-- where two tests pass together the second one passes
second : (a b : Bool) → (a && b) ≡ true → b ≡ true
second true b e = e
second false b e = absurd (cc)

-- parts in order that begin with a body are a layout's
from_body : (b : BodyPart) (o : ℕ) (rest : List (Part × ℕ)) → rises_from (Body b) (names rest) ≡ true → IsSomeLayout ((Body b, o) ∷ rest)
unfolding layout_of
from_body b o rest up = (layout_of None None b o, ap (λ l. (Body b, o) ∷ l) (sym (no_more b rest up)))

-- parts in order that begin with a response's head, and have a body, are a layout's
from_res : (r : ℕ) (rest : List (Part × ℕ)) → rises_from ResHdr (names rest) ≡ true → has_body (names rest) ≡ true
    → IsSomeLayout ((ResHdr, r) ∷ rest)
unfolding layout_of
from_res r [] up body = absurd (cc)
from_res r ((ReqHdr, o) ∷ rest) up body = absurd (cc)
from_res r ((ResHdr, o) ∷ rest) up body = absurd (cc)
from_res r ((Body b, o) ∷ rest) up body = (layout_of None (Some r) b o, ap (λ l. (ResHdr, r) ∷ (Body b, o) ∷ l) (sym (no_more b rest up)))

-- parts in order that begin with both heads, and have a body, are a layout's
behind_res : (q r : ℕ) (rest : List (Part × ℕ)) → rises_from ResHdr (names rest) ≡ true → has_body (names rest) ≡ true
    → IsSomeLayout ((ReqHdr, q) ∷ (ResHdr, r) ∷ rest)
unfolding layout_of
behind_res q r [] up body = absurd (cc)
behind_res q r ((ReqHdr, o) ∷ rest) up body = absurd (cc)
behind_res q r ((ResHdr, o) ∷ rest) up body = absurd (cc)
behind_res q r ((Body b, o) ∷ rest) up body = (
  layout_of (Some q) (Some r) b o,
  ap (λ l. (ReqHdr, q) ∷ (ResHdr, r) ∷ (Body b, o) ∷ l) (sym (no_more b rest up)),
)

-- parts in order that begin with a request's head, and have a body, are a layout's
from_req : (q : ℕ) (rest : List (Part × ℕ)) → rises_from ReqHdr (names rest) ≡ true → has_body (names rest) ≡ true
    → IsSomeLayout ((ReqHdr, q) ∷ rest)
unfolding layout_of
from_req q [] up body = absurd (cc)
from_req q ((ReqHdr, o) ∷ rest) up body = absurd (cc)
from_req q ((ResHdr, r) ∷ rest) up body = behind_res q r rest up body
from_req q ((Body b, o) ∷ rest) up body = (layout_of (Some q) None b o, ap (λ l. (ReqHdr, q) ∷ (Body b, o) ∷ l) (sym (no_more b rest up)))

-- any parts in order that have a body are a layout's
in_order : (parts : List (Part × ℕ)) → ascends (names parts) ≡ true → has_body (names parts) ≡ true → IsSomeLayout parts
in_order [] up body = absurd (cc)
in_order ((ReqHdr, q) ∷ rest) up body = from_req q rest up body
in_order ((ResHdr, r) ∷ rest) up body = from_res r rest up body
in_order ((Body b, o) ∷ rest) up body = from_body b o rest up

-- it is known whether numbers fall, from this one on
none_falls_known : (from : ℕ) (numbers : List ℕ) → Known (NoneFalls from numbers)
none_falls_known from [] = inl tt
none_falls_known from (n ∷ numbers) = step (lt_known n from) (none_falls_known n numbers)
  where
    step : Known (n < from) → Known (NoneFalls n numbers) → Known ((from ≤ n) × NoneFalls n numbers)
    step (inl falls) rest = inr (λ h. let up = h.0 in absurd (omega arith))
    step (inr up) (inl rest) = inl (omega (arith, up), rest)
    step (inr up) (inr fall) = inr (λ h. fall h.1)

-- it is known whether numbers begin at 0 and don't fall
rises_known : (numbers : List ℕ) → Known (Rises numbers)
rises_known [] = inl tt
rises_known (first ∷ numbers) = step (eqb_tells first 0) (none_falls_known first numbers)
  where
    step : ((eqb first 0 ≡ true) × (first ≡ 0)) ⊎ ((eqb first 0 ≡ false) × (first ≢ 0)) → Known (NoneFalls first numbers)
        → Known ((first ≡ 0) × NoneFalls first numbers)
    step (inl zero) (inl rest) = inl (zero.1, rest)
    step (inl zero) (inr fall) = inr (λ h. fall h.1)
    step (inr above) rest = inr (λ h. above.1 h.0)

-- a layout of the text, or a fault that stands
abbrev pub Answer : Method → Direction → List ℕ → Type 0
Answer method direction text = ((layout : Layout) × IsLayout method direction text layout)
    ⊎ ((fault : EncFault) × RefusesList fault method direction text)

-- a text with an allowed layout's parts has an answer, whether their offsets rise or not
by_offsets : (m : Method) (d : Direction) (text : List ℕ) (l : Layout) → AreParts text (parts_of l)
    → any_front (allowed m d) (names (parts_of l)) ≡ true
    → Known (Rises (offsets (parts_of l))) → Answer m d text
by_offsets m d text l parts front (inl rises) = inl (l, record { parts = parts; may = may_have m d l front rises })
by_offsets m d text l parts front (inr falls) = inr (
  Offset,
  (parts_of l, parts, (whole_layout m d l (any_front-sound (allowed m d) (names (parts_of l)) front), falls)),
)

-- a text whose parts begin an allowed list has an answer, whether a body is among them or not
by_body : (m : Method) (d : Direction) (text : List ℕ) (parts : List (Part × ℕ)) → AreParts text parts
    → any_front (allowed m d) (names parts) ≡ true
    → (t : Bool) → has_body (names parts) ≡ t → Answer m d text
by_body m d text parts are front true body =
    let some = in_order parts (front_ascends m d (names parts) (any_front-sound (allowed m d) (names parts) front)) body in
    by_offsets m d text some.0 (subst (AreParts text) (sym some.1) are) (ap (λ p. any_front (allowed m d) (names p)) some.1 ∙ front)
    (rises_known (offsets (parts_of some.0)))
by_body m d text parts are front false body =
    inr (NoBodyPart, (parts, are, (any_front-sound (allowed m d) (names parts) front, no_body (names parts) body)))

-- a text that names parts has an answer, whether they begin an allowed list or not
by_front : (m : Method) (d : Direction) (text : List ℕ) (parts : List (Part × ℕ)) → AreParts text parts → (t : Bool)
    → any_front (allowed m d) (names parts) ≡ t → Answer m d text
by_front m d text parts are true front = by_body m d text parts are front (has_body (names parts)) refl
by_front m d text parts are false other =
    inr (
      Order,
      (
        parts,
        are,
        λ h. let front = any_front-whole (allowed m d) (names parts) h in
            let wrong : true ≡ false = sym front ∙ other in absurd (cc),
      ),
    )

-- a text that has items has an answer, whether they name parts or not
by_parts : (m : Method) (d : Direction) (text : List ℕ) → ((items : List (List ℕ × ℕ)) × AreItems text items)
    → Known ((parts : List (Part × ℕ)) × AreParts text parts) → Answer m d text
by_parts m d text items (inl parts) = by_front m d text parts.0 parts.1 (any_front (allowed m d) (names parts.0)) refl
by_parts m d text items (inr none) = inr (Name, (items.0, items.1, λ parts are. none (parts, are)))

-- a text of which it is known whether it has items has an answer
by_items : (m : Method) (d : Direction) (text : List ℕ) → Known ((items : List (List ℕ × ℕ)) × AreItems text items) → Answer m d text
by_items m d text (inl items) = by_parts m d text items (parts_known text)
by_items m d text (inr none) = inr (Syntax, λ items are. none (items, are))

-- each text is a layout, or some fault stands
pub some_answer : (m : Method) (d : Direction) (text : List ℕ) → Answer m d text
some_answer m d text = by_items m d text (items_known text)
