-- What is written is read again.
use Rattle.std.proofs.Common.{◌≡◌, ℕ, ◌^◌, ◌<◌, true, List, [], ◌∷◌, ◌++◌, length, refl, sym, ap, ◌∙◌, subst, Option, Some, None}
use Rattle.std.proofs.Common.{append_assoc, append-nil, codes, lit<, lit≤, IfSome}
use Rattle.std.specs.List.{AllZip, list_all, join_by}
use Rattle.std.proofs.lemmas.List.Sums.{AllPass-from_list_all}
use Rattle.adapt_bytes.specs.Numeral.{numeral}
use Rattle.adapt_bytes.specs.Text.{IsToken, comma_parts, is_token_byte}
use Rattle.adapt_bytes.proofs.Written.{Writes-numeral}
use Rattle.adapt_bytes.proofs.Plain.{is_plain, plain-append, digits_plain, comma_parts_space, comma_parts_plain, comma_parts_last}
use Rattle.encapsulated.specs.declared.parts.BodyPart.TheVariants.{ReqBody, ResBody, OptBody, NullBody}
use Rattle.encapsulated.specs.declared.parts.Part.{Part}
use Rattle.encapsulated.specs.declared.parts.Part.TheVariants.{ReqHdr, ResHdr, Body}
use Rattle.encapsulated.specs.declared.offsets.Layout.{Layout}
use Rattle.encapsulated.specs.Grammar.{name_of, IsPart, AreParts}
use Rattle.encapsulated.specs.Layouts.{parts_of, if_there, item_text, written}
use Rattle.encapsulated.specs.Order.{head_text}

-- a part's name has neither a comma nor a blank
name_plain : (part : Part) → list_all is_plain (name_of part) ≡ true
name_plain ReqHdr = refl
name_plain ResHdr = refl
name_plain (Body ReqBody) = refl
name_plain (Body ResBody) = refl
name_plain (Body OptBody) = refl
name_plain (Body NullBody) = refl

-- all bytes of a part's name may stand in a token
name_passes : (part : Part) → list_all is_token_byte (name_of part) ≡ true
unfolding is_token_byte
name_passes ReqHdr = refl
name_passes ResHdr = refl
name_passes (Body ReqBody) = refl
name_passes (Body ResBody) = refl
name_passes (Body OptBody) = refl
name_passes (Body NullBody) = refl

-- a part's name isn't empty
name_some : (part : Part) → 0 < length (name_of part)
name_some ReqHdr = lit< tt
name_some ResHdr = lit< tt
name_some (Body ReqBody) = lit< tt
name_some (Body ResBody) = lit< tt
name_some (Body OptBody) = lit< tt
name_some (Body NullBody) = lit< tt

-- a part's name is a token
name_token : (part : Part) → IsToken (name_of part)
name_token part = (name_some part, AllPass-from_list_all is_token_byte (name_of part) (name_passes part))

-- an item that is written has neither a comma nor a blank
item_plain : (part : Part) (offset : ℕ) → list_all is_plain (item_text (part, offset)) ≡ true
item_plain part offset =
    let digits = (Writes-numeral 10 offset (lit≤ tt) (lit≤ tt)).digits.1 in
    plain-append (name_of part) (61 ∷ numeral 10 offset) (name_plain part) (digits_plain (numeral 10 offset) digits)

-- an item that is written names its part and its offset, where that is below 2^64
reads_item : (part : Part) (offset : ℕ) → offset < 2 ^ 64 → IsPart (item_text (part, offset)) part offset
reads_item part offset fits = record {
  name = name_of part;
  item = record {
    digits = numeral 10 offset;
    text_is = refl;
    token = name_token part;
    number = Writes-numeral 10 offset (lit≤ tt) (lit≤ tt);
    fits = fits;
  };
  named = refl;
}

-- an item before other parts
item_first : (part : Part) (offset : ℕ) (rest : List ℕ) (parts : List (Part × ℕ)) → offset < 2 ^ 64 → AreParts rest parts
    → AreParts ((item_text (part, offset) ++ codes ", ") ++ rest) ((part, offset) ∷ parts)
item_first part offset rest parts fits are =
    let text = item_text (part, offset) in
    let cut : comma_parts ((text ++ 44 ∷ 32 ∷ []) ++ rest) ≡ text ∷ comma_parts rest =
    ap comma_parts (append_assoc text (44 ∷ 32 ∷ []) rest) ∙ comma_parts_plain text (32 ∷ rest) (item_plain part offset)
    ∙ ap (λ l. text ∷ l) (comma_parts_space rest) in
    subst (λ l. AllZip {B = Part × ℕ} (λ item p. IsPart item p.0 p.1) l ((part, offset) ∷ parts)) (sym cut)
    (reads_item part offset fits, are)

-- an item alone names just its part
item_last : (part : Part) (offset : ℕ) → offset < 2 ^ 64 → AreParts (item_text (part, offset)) ((part, offset) ∷ [])
item_last part offset fits =
    subst (λ l. AllZip {B = Part × ℕ} (λ item p. IsPart item p.0 p.1) l ((part, offset) ∷ []))
    (sym (comma_parts_last (item_text (part, offset)) (item_plain part offset))) (reads_item part offset fits, tt)

abbrev pub Below : Option ℕ → Type 0
Below offset = IfSome offset (λ n. n < 2 ^ 64)

-- a head's item, if it is there, before a text that names parts names that head and then those parts
head_first : (part : Part) (offset : Option ℕ) (rest : List ℕ) (parts : List (Part × ℕ)) → Below offset → AreParts rest parts
    → AreParts (head_text part offset ++ rest) (if_there part offset ++ parts)
head_first part None rest parts fits are = are
head_first part (Some offset) rest parts fits are = item_first part offset rest parts fits are

-- two texts with a separator between them make one and the same text, however they are joined
two_joined : (a b sep : List ℕ) → a ++ ((sep ++ b) ++ []) ≡ (a ++ sep) ++ b
two_joined a b sep = simp (append-nil, append_assoc) refl

-- three texts with a separator between each two make one and the same text, however they are joined
three_joined : (a b c sep : List ℕ) → a ++ ((sep ++ b) ++ ((sep ++ c) ++ [])) ≡ ((a ++ sep) ++ (b ++ sep)) ++ c
three_joined a b c sep = simp (append-nil, append_assoc) refl

-- the text, item by item
joined : (q r : Option ℕ) (b : Part) (o : ℕ) → join_by item_text (codes ", ") (if_there ReqHdr q ++ if_there ResHdr r ++ (b, o) ∷ [])
    ≡ head_text ReqHdr q ++ head_text ResHdr r ++ item_text (b, o)
joined None None b o = append-nil (item_text (b, o))
joined None (Some r) b o = two_joined (item_text (ResHdr, r)) (item_text (b, o)) (codes ", ")
joined (Some q) None b o = two_joined (item_text (ReqHdr, q)) (item_text (b, o)) (codes ", ")
    ∙ ap (λ t. t ++ item_text (b, o)) (sym (append-nil (item_text (ReqHdr, q) ++ codes ", ")))
joined (Some q) (Some r) b o = three_joined (item_text (ReqHdr, q)) (item_text (ResHdr, r)) (item_text (b, o)) (codes ", ")

-- a layout is written as the items of its heads, if they are there, and then that of its body
pub written_is : (l : Layout) → written l ≡ head_text ReqHdr l.req_hdr ++ head_text ResHdr l.res_hdr ++ item_text (Body l.body, l.offset)
unfolding written
written_is l = joined l.req_hdr l.res_hdr (Body l.body) l.offset

-- the text that is written of a layout with offsets below 2^64 names just its parts
pub reads_back : (l : Layout) → Below l.req_hdr → Below l.res_hdr → l.offset < 2 ^ 64 → AreParts (written l) (parts_of l)
reads_back l req res offset =
    let last = item_last (Body l.body) l.offset offset in
    let two = head_first ResHdr l.res_hdr (item_text (Body l.body, l.offset)) ((Body l.body, l.offset) ∷ []) res last in
    let all = head_first ReqHdr l.req_hdr _ _ req two in
    let text = sym (append_assoc (head_text ReqHdr l.req_hdr) (head_text ResHdr l.res_hdr) (item_text (Body l.body, l.offset))) in
    let parts = sym (append_assoc (if_there ReqHdr l.req_hdr) (if_there ResHdr l.res_hdr) ((Body l.body, l.offset) ∷ [])) in
    subst (λ t. AreParts t (parts_of l)) (text ∙ sym (written_is l)) (subst
    (AreParts (head_text ReqHdr l.req_hdr ++ (head_text ResHdr l.res_hdr ++ item_text (Body l.body, l.offset)))) parts all)
