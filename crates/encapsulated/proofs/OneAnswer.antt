-- At most one answer fits a list.
use Rattle.std.proofs.Common.{◌≡◌, ℕ, ◌↔◌, Bool, true, false, cond, List, [], ◌∷◌, ◌++◌, refl, sym, ap, ap₂, ◌∙◌, subst, Option, Some, None}
use Rattle.std.proofs.Common.{Result, Ok, Err, IfOk, IfErr, Contains, append-nil, map, codes, bytes_eq}
use Rattle.std.specs.List.{AllZip}
use Rattle.std.specs.Char.{to_ascii_lowercase}
use Rattle.adapt_bytes.specs.Text.{comma_parts}
use Rattle.adapt_bytes.specs.declared.method.Method.{Method}
use Rattle.encapsulated.specs.declared.message.Direction.{Direction}
use Rattle.encapsulated.specs.declared.parts.BodyPart.{BodyPart}
use Rattle.encapsulated.specs.declared.parts.BodyPart.TheVariants.{ReqBody, ResBody, OptBody, NullBody}
use Rattle.encapsulated.specs.declared.parts.Part.{Part}
use Rattle.encapsulated.specs.declared.parts.Part.TheVariants.{ReqHdr, ResHdr, Body}
use Rattle.encapsulated.specs.declared.offsets.Layout.{Layout}
use Rattle.encapsulated.specs.declared.fault.EncFault.{EncFault}
use Rattle.encapsulated.specs.declared.fault.EncFault.TheVariants.{Syntax, Name, Order, NoBodyPart, Offset}
use Rattle.encapsulated.specs.Rows.{allowed, IsFront}
use Rattle.encapsulated.specs.Grammar.{name_of, IsItem, IsPart, AreItems, AreParts}
use Rattle.encapsulated.specs.Layouts.{Rises, names, offsets, parts_of, if_there, IsLayout}
use Rattle.encapsulated.specs.Faults.{RefusesList}
use Rattle.encapsulated.proofs.ItemLemmas.{item_unique}
use Rattle.encapsulated.proofs.RowLemmas.{whole_body}
use Rattle.encapsulated.proofs.ZipLemmas.{AllZip-unique}

-- the part of this name
pub part_of_name : List ℕ → Part
part_of_name name =
    cond (bytes_eq name (codes "req-hdr")) ReqHdr (cond (bytes_eq name (codes "res-hdr")) ResHdr
    (cond (bytes_eq name (codes "req-body")) (Body ReqBody) (cond (bytes_eq name (codes "res-body")) (Body ResBody)
    (cond (bytes_eq name (codes "opt-body")) (Body OptBody) (Body NullBody)))))

-- the part of a part's name, in lower case, is that part
pub named_so : (part : Part) → part_of_name (map to_ascii_lowercase (name_of part)) ≡ part
unfolding part_of_name
named_so ReqHdr = refl
named_so ResHdr = refl
named_so (Body ReqBody) = refl
named_so (Body ResBody) = refl
named_so (Body OptBody) = refl
named_so (Body NullBody) = refl

-- a text names one part and one offset at most
part_unique : (text : List ℕ) (x y : Part × ℕ) → IsPart text x.0 x.1 → IsPart text y.0 y.1 → x ≡ y
part_unique text x y h g =
    let same = item_unique text h.name g.name x.1 y.1 h.item g.item in
    let names_same : map to_ascii_lowercase (name_of x.0) ≡ map to_ascii_lowercase (name_of y.0) =
    sym h.named ∙ ap (map to_ascii_lowercase) same.0 ∙ g.named in
    let part_same : x.0 ≡ y.0 = sym (named_so x.0) ∙ ap part_of_name names_same ∙ named_so y.0 in
    ap₂ (λ p o. (p, o)) part_same same.1

-- a text has one list of parts at most
pub parts_unique : (text : List ℕ) (xs ys : List (Part × ℕ)) → AreParts text xs → AreParts text ys → xs ≡ ys
parts_unique text xs ys h g = AllZip-unique (λ item part. IsPart item part.0 part.1) part_unique (comma_parts text) xs ys h g

-- a text has one list of items at most
pub items_unique : (text : List ℕ) (xs ys : List (List ℕ × ℕ)) → AreItems text xs → AreItems text ys → xs ≡ ys
items_unique text xs ys h g = AllZip-unique (λ part item. IsItem part item.0 item.1) item_same (comma_parts text) xs ys h g
  where
    item_same : (part : List ℕ) (x y : List ℕ × ℕ) → IsItem part x.0 x.1 → IsItem part y.0 y.1 → x ≡ y
    item_same part x y h g = let same = item_unique part x.0 y.0 x.1 y.1 h g in ap₂ (λ n o. (n, o)) same.0 same.1

-- texts that name parts are items
pub items_of : (texts : List (List ℕ)) (parts : List (Part × ℕ)) → AllZip (λ item part. IsPart item part.0 part.1) texts parts
    → (items : List (List ℕ × ℕ)) × AllZip (λ part item. IsItem part item.0 item.1) texts items
items_of [] [] h = ([], tt)
items_of [] (p ∷ parts) h = absurd h
items_of (t ∷ texts) [] h = absurd h
items_of (t ∷ texts) (p ∷ parts) h = let rest = items_of texts parts h.1 in ((h.0.name, p.1) ∷ rest.0, (h.0.item, rest.1))

-- a layout from its parts
is_req : Part → Bool
is_req ReqHdr = true
is_req ResHdr = false
is_req (Body b) = false

-- whether a part is a response's head
is_res : Part → Bool
is_res ReqHdr = false
is_res ResHdr = true
is_res (Body b) = false

-- the offset of the first part that passes a test, or none
offset_at : (Part → Bool) → List (Part × ℕ) → Option ℕ
offset_at test [] = None
offset_at test (p ∷ parts) = cond (test p.0) (Some p.1) (offset_at test parts)

-- a part's body, or this one where the part is a head
body_or : Part → BodyPart → BodyPart
body_or ReqHdr later = later
body_or ResHdr later = later
body_or (Body b) later = b

-- the first body among the parts, or null-body where there is none
body_in : List (Part × ℕ) → BodyPart
body_in [] = NullBody
body_in (p ∷ parts) = body_or p.0 (body_in parts)

-- the offset of the last part, or this one where there are no parts
last_offset : ℕ → List (Part × ℕ) → ℕ
last_offset o [] = o
last_offset o (p ∷ parts) = last_offset p.1 parts

-- a layout from its parts: the first offset of each head, the first body and the last offset
layout_from : List (Part × ℕ) → Layout
layout_from parts = record {
  req_hdr = offset_at is_req parts;
  res_hdr = offset_at is_res parts;
  body = body_in parts;
  offset = last_offset 0 parts;
}

-- the layout from a layout's own parts is that layout
back : (q r : Option ℕ) (b : BodyPart) (o : ℕ) → layout_from (if_there ReqHdr q ++ if_there ResHdr r ++ (Body b, o) ∷ [])
    ≡ record { req_hdr = q; res_hdr = r; body = b; offset = o }
unfolding layout_from offset_at is_req is_res body_or body_in last_offset
back None None b o = refl
back None (Some r) b o = refl
back (Some q) None b o = refl
back (Some q) (Some r) b o = refl

-- two layouts with the same parts are one
pub layout_unique : (l k : Layout) → parts_of l ≡ parts_of k → l ≡ k
layout_unique l k e = sym (back l.req_hdr l.res_hdr l.body l.offset) ∙ ap layout_from e ∙ back k.req_hdr k.res_hdr k.body k.offset

-- parts that are one of the lists are also a prefix of one
pub front_of_whole : (lists : List (List Part)) (parts : List Part) → Contains lists parts → IsFront lists parts
front_of_whole lists parts h = ([], subst (Contains lists) (sym (append-nil parts)) h)

-- where a text's parts are an allowed list, any parts of the text have a body
whole_body_at : (m : Method) (d : Direction) (text : List ℕ) (parts others : List (Part × ℕ)) → AreParts text parts → AreParts text others
    → Contains (allowed m d) (names parts) → (body : BodyPart) × Contains (names others) (Body body)
whole_body_at m d text parts others h g whole =
    let has = whole_body m d (names parts) whole in
    (has.0, subst (λ l. Contains (names l) (Body has.0)) (parts_unique text parts others h g) has.1)

-- where the text is a layout no fault stands
pub no_fault : (m : Method) (d : Direction) (text : List ℕ) (l : Layout) (e : EncFault) → IsLayout m d text l → RefusesList e m d text → ⊥
no_fault m d text l Syntax h s = let items = items_of (comma_parts text) (parts_of l) h.parts in s items.0 items.1
no_fault m d text l Name h s = s.2 (parts_of l) h.parts
no_fault m d text l Order h s = s.2 (subst (λ parts. IsFront (allowed m d) (names parts)) (parts_unique text (parts_of l) s.0 h.parts s.1)
    (front_of_whole (allowed m d) (names (parts_of l)) h.may.whole))
no_fault m d text l NoBodyPart h s = let has = whole_body_at m d text (parts_of l) s.0 h.parts s.1 h.may.whole in s.2.1 has.0 has.1
no_fault m d text l Offset h s = s.2.1 (subst (λ parts. Rises (offsets parts)) (parts_unique text (parts_of l) s.0 h.parts s.1) h.may.rises)

-- a text that names parts isn't one without items
parts_excl : (text : List ℕ) (parts : List (Part × ℕ)) → AreParts text parts → ((items : List (List ℕ × ℕ)) → ¬ (AreItems text items)) → ⊥
parts_excl text parts h s = let items = items_of (comma_parts text) parts h in s items.0 items.1

-- of a text one fault stands at most
pub one_fault : (m : Method) (d : Direction) (text : List ℕ) (e f : EncFault) → RefusesList e m d text → RefusesList f m d text → e ≡ f
one_fault m d text Syntax Syntax x y = refl
one_fault m d text Syntax Name x y = absurd (x y.0 y.1)
one_fault m d text Syntax Order x y = absurd (parts_excl text y.0 y.1 x)
one_fault m d text Syntax NoBodyPart x y = absurd (parts_excl text y.0 y.1 x)
one_fault m d text Syntax Offset x y = absurd (parts_excl text y.0 y.1 x)
one_fault m d text Name Syntax x y = absurd (y x.0 x.1)
one_fault m d text Name Name x y = refl
one_fault m d text Name Order x y = absurd (x.2 y.0 y.1)
one_fault m d text Name NoBodyPart x y = absurd (x.2 y.0 y.1)
one_fault m d text Name Offset x y = absurd (x.2 y.0 y.1)
one_fault m d text Order Syntax x y = absurd (parts_excl text x.0 x.1 y)
one_fault m d text Order Name x y = absurd (y.2 x.0 x.1)
one_fault m d text Order Order x y = refl
one_fault m d text Order NoBodyPart x y = absurd (x.2 (subst (λ p. IsFront (allowed m d) (names p)) (parts_unique text y.0 x.0 y.1 x.1)
    y.2.0))
one_fault m d text Order Offset x y = absurd (x.2 (subst (λ p. IsFront (allowed m d) (names p)) (parts_unique text y.0 x.0 y.1 x.1)
    (front_of_whole (allowed m d) (names y.0) y.2.0)))
one_fault m d text NoBodyPart Syntax x y = absurd (parts_excl text x.0 x.1 y)
one_fault m d text NoBodyPart Name x y = absurd (y.2 x.0 x.1)
one_fault m d text NoBodyPart Order x y = absurd (y.2 (subst (λ p. IsFront (allowed m d) (names p)) (parts_unique text x.0 y.0 x.1 y.1)
    x.2.0))
one_fault m d text NoBodyPart NoBodyPart x y = refl
one_fault m d text NoBodyPart Offset x y = let has = whole_body_at m d text y.0 x.0 y.1 x.1 y.2.0 in absurd (x.2.1 has.0 has.1)
one_fault m d text Offset Syntax x y = absurd (parts_excl text x.0 x.1 y)
one_fault m d text Offset Name x y = absurd (y.2 x.0 x.1)
one_fault m d text Offset Order x y = absurd (y.2 (subst (λ p. IsFront (allowed m d) (names p)) (parts_unique text x.0 y.0 x.1 y.1)
    (front_of_whole (allowed m d) (names x.0) x.2.0)))
one_fault m d text Offset NoBodyPart x y = let has = whole_body_at m d text x.0 y.0 x.1 y.1 x.2.0 in absurd (y.2.1 has.0 has.1)
one_fault m d text Offset Offset x y = refl

-- an answer that fits is the only one
pub only_layout : (m : Method) (d : Direction) (text : List ℕ) (r : Result Layout EncFault) → IfOk r (IsLayout m d text)
    → IfErr r (λ e. RefusesList e m d text)
    → (l : Layout) → (r ≡ Ok l) ↔ IsLayout m d text l
only_layout m d text (Ok k) ok err l = (
  λ e. let same : k ≡ l = cc in subst (IsLayout m d text) same ok,
  λ h. ap Ok (layout_unique k l (parts_unique text (parts_of k) (parts_of l) ok.parts h.parts)),
)
only_layout m d text (Err f) ok err l = (λ e. absurd (cc), λ h. absurd (no_fault m d text l f h err))

-- an answer that fits is this fault exactly where it stands
pub only_fault : (m : Method) (d : Direction) (text : List ℕ) (r : Result Layout EncFault) → IfOk r (IsLayout m d text)
    → IfErr r (λ e. RefusesList e m d text)
    → (f : EncFault) → (r ≡ Err f) ↔ RefusesList f m d text
only_fault m d text (Ok k) ok err f = (λ e. absurd (cc), λ s. absurd (no_fault m d text k f ok s))
only_fault m d text (Err g) ok err f =
    (λ e. let same : g ≡ f = cc in subst (λ x. RefusesList x m d text) same err, λ s. ap Err (one_fault m d text g f err s))
