-- What holds of every allowed list.
use Rattle.std.proofs.Common.{◌≡◌, ℕ, zero, suc, ◌<◌, Bool, true, false, ◌&&◌, cond, IsTrue, List, [], ◌∷◌, ◌++◌, length, get_or, refl, sym}
use Rattle.std.proofs.Common.{ap, ap₂, ◌∙◌, subst, arith, Contains, nat_eq, nat_lt, append-nil, eqb-true}
use Rattle.std.specs.List.{list_any, list_all}
use Rattle.std.proofs.lemmas.List.{map-append}
use Rattle.adapt_bytes.specs.declared.method.Method.{Method}
use Rattle.adapt_bytes.specs.declared.method.Method.TheVariants.{Reqmod, Respmod, Options}
use Rattle.encapsulated.specs.declared.message.Direction.{Direction}
use Rattle.encapsulated.specs.declared.message.Direction.TheVariants.{Request, Response}
use Rattle.encapsulated.specs.declared.parts.BodyPart.{BodyPart}
use Rattle.encapsulated.specs.declared.parts.BodyPart.TheVariants.{ReqBody, ResBody, OptBody, NullBody}
use Rattle.encapsulated.specs.declared.parts.Part.{Part}
use Rattle.encapsulated.specs.declared.parts.Part.TheVariants.{ReqHdr, ResHdr, Body}
use Rattle.encapsulated.specs.Rows.{allowed, IsFront}
use Rattle.encapsulated.specs.declared.offsets.Layout.{Layout}
use Rattle.encapsulated.specs.Layouts.{names, offsets, parts_of, if_there, Rises, MayHave}
use Rattle.encapsulated.specs.Order.{rank, rises_from, ascends, part_number, is_front, any_front, is_body, has_body}

-- the part with this number
part_at : ℕ → Part
part_at n = cond (nat_eq n 0) ReqHdr (cond (nat_eq n 1) ResHdr (cond (nat_eq n 2) (Body ReqBody)
    (cond (nat_eq n 3) (Body ResBody) (cond (nat_eq n 4) (Body OptBody) (Body NullBody)))))

-- the part with a part's number is that part
numbered : (part : Part) → part_at (part_number part) ≡ part
unfolding part_at
numbered ReqHdr = refl
numbered ResHdr = refl
numbered (Body ReqBody) = refl
numbered (Body ResBody) = refl
numbered (Body OptBody) = refl
numbered (Body NullBody) = refl

-- parts with the same number are the same
same_number : (a b : Part) → nat_eq (part_number a) (part_number b) ≡ true → a ≡ b
same_number a b e = sym (numbered a) ∙ ap part_at (eqb-true (part_number a) (part_number b) e) ∙ numbered b

-- a part's number passes as its own
own_number : (a : Part) → nat_eq (part_number a) (part_number a) ≡ true
own_number ReqHdr = refl
own_number ResHdr = refl
own_number (Body ReqBody) = refl
own_number (Body ResBody) = refl
own_number (Body OptBody) = refl
own_number (Body NullBody) = refl

-- where two tests pass together each of them passes
both : (a b : Bool) → (a && b) ≡ true → (a ≡ true) × (b ≡ true)
both true b e = (refl, e)
both false b e = absurd (cc)

-- a list that passes as one that begins with these parts is these parts and more
is_front-sound : (parts list : List Part) → is_front parts list ≡ true → (more : List Part) × (list ≡ parts ++ more)
is_front-sound [] list e = (list, refl)
is_front-sound (p ∷ parts) [] e = absurd (cc)
is_front-sound (p ∷ parts) (q ∷ list) e =
    let h = both _ _ e in
    let rest = is_front-sound parts list h.1 in
    (rest.0, ap₂ (λ x l. x ∷ l) (sym (same_number p q h.0)) rest.1)

-- these parts and more pass as a list that begins with them
is_front-whole : (parts more : List Part) → is_front parts (parts ++ more) ≡ true
is_front-whole [] more = refl
is_front-whole (p ∷ parts) more = ap (λ b. b && is_front parts (parts ++ more)) (own_number p) ∙ is_front-whole parts more

-- where a first or a later element passes a test, one that is in the list passes it, if that holds of the later ones
some_step : {X : Type 0} (p : X → Bool) (l : X) (lists : List X)
    → (list_any p lists ≡ true → (list : X) × Contains lists list × (p list ≡ true))
    → list_any p (l ∷ lists) ≡ true → (t : Bool) → p l ≡ t → (list : X) × Contains (l ∷ lists) list × (p list ≡ true)
some_step p l lists later e true here = (l, (0, omega arith, refl), here)
some_step p l lists later e false other =
    let rest : list_any p lists ≡ true = rw other at e in
    let h = later rest in
    (h.0, (suc h.1.0, omega arith, h.1.2), h.2)

-- where some element passes a test, one that is in the list passes it
some_list : {X : Type 0} (p : X → Bool) (lists : List X) → list_any p lists ≡ true → (list : X) × Contains lists list × (p list ≡ true)
some_list p [] e = absurd (cc)
some_list p (l ∷ lists) e = some_step p l lists (some_list p lists) e (p l) refl

-- where some element of a list passes a test, some element does also with one more before them
there_step : {X : Type 0} (p : X → Bool) (l : X) (lists : List X) → list_any p lists ≡ true → (t : Bool) → p l ≡ t
    → list_any p (l ∷ lists) ≡ true
there_step p l lists later true here = rw here refl
there_step p l lists later false other = rw other later

-- a list with an element that passes a test, at any place of it, passes as one with such an element
list_there : {X : Type 0} (p : X → Bool) (lists : List X) (list : X) (k : ℕ) → k < length lists → get_or lists k list ≡ list → p list ≡ true
    → list_any p lists ≡ true
list_there p [] list k inside is pass = absurd (omega arith)
list_there p (l ∷ lists) list zero inside is pass = there_here p l lists (ap p is ∙ pass)
  where
    there_here : {X : Type 0} (p : X → Bool) (l : X) (lists : List X) → p l ≡ true → list_any p (l ∷ lists) ≡ true
    there_here p l lists here = rw here refl
list_there p (l ∷ lists) list (suc k) inside is pass = there_step p l lists (list_there p lists list k (omega arith) is pass) (p l) refl

-- parts that pass as a prefix of some list are a prefix of one
pub any_front-sound : (lists : List (List Part)) (parts : List Part) → any_front lists parts ≡ true → IsFront lists parts
any_front-sound lists parts e =
    let h = some_list (is_front parts) lists e in
    let front = is_front-sound parts h.0 h.2 in
    (front.0, subst (Contains lists) front.1 h.1)

-- parts that are a prefix of some list pass as a prefix of one
pub any_front-whole : (lists : List (List Part)) (parts : List Part) → IsFront lists parts → any_front lists parts ≡ true
any_front-whole lists parts h = list_there (is_front parts) lists (parts ++ h.0) h.1.0 h.1.1 h.1.2 (is_front-whole parts h.0)

-- what holds of every list holds of one of them
each_list : (p : List Part → Bool) (lists : List (List Part)) (list : List Part) (k : ℕ) → k < length lists → get_or lists k list ≡ list
    → list_all p lists ≡ true → p list ≡ true
each_list p [] list k inside is all = absurd (omega arith)
each_list p (l ∷ lists) list zero inside is all = ap p (sym is) ∙ (both _ _ all).0
each_list p (l ∷ lists) list (suc k) inside is all = each_list p lists list k (omega arith) is (both _ _ all).1

-- each allowed list passes as one in order
allowed-ascends : (m : Method) (d : Direction) → list_all ascends (allowed m d) ≡ true
allowed-ascends Reqmod Request = refl
allowed-ascends Reqmod Response = refl
allowed-ascends Respmod Request = refl
allowed-ascends Respmod Response = refl
allowed-ascends Options Request = refl
allowed-ascends Options Response = refl

-- each allowed list passes as one with a body
allowed-has_body : (m : Method) (d : Direction) → list_all has_body (allowed m d) ≡ true
allowed-has_body Reqmod Request = refl
allowed-has_body Reqmod Response = refl
allowed-has_body Respmod Request = refl
allowed-has_body Respmod Response = refl
allowed-has_body Options Request = refl
allowed-has_body Options Response = refl

-- where the ranks of parts rise after a part, those of a prefix of them rise after it too
rises_from-front : (last : Part) (parts more : List Part) → rises_from last (parts ++ more) ≡ true → rises_from last parts ≡ true
rises_from-front last [] more e = refl
rises_from-front last (p ∷ parts) more e =
    let h = both (nat_lt (rank last) (rank p)) (rises_from p (parts ++ more)) e in
    ap (λ b. b && rises_from p parts) h.0 ∙ rises_from-front p parts more h.1

-- a prefix of parts in order is in order
ascends-front : (parts more : List Part) → ascends (parts ++ more) ≡ true → ascends parts ≡ true
ascends-front [] more e = refl
ascends-front (p ∷ parts) more e = rises_from-front p parts more e

-- the first parts of an allowed list are in order
pub front_ascends : (m : Method) (d : Direction) (parts : List Part) → IsFront (allowed m d) parts → ascends parts ≡ true
front_ascends m d parts h = ascends-front parts h.0 (each_list ascends (allowed m d) (parts ++ h.0) h.1.0 h.1.1 h.1.2 (allowed-ascends m d))

-- parts out of order begin no allowed list
pub no_front : (m : Method) (d : Direction) (parts : List Part) → ¬ (IsTrue (ascends parts)) → ¬ (IsFront (allowed m d) parts)
no_front m d parts out h = out (front_ascends m d parts h)

-- after a body no part stands where the ranks rise
nothing_higher : (body : BodyPart) (more : List Part) → rises_from (Body body) more ≡ true → more ≡ []
nothing_higher body [] e = refl
nothing_higher body (ReqHdr ∷ more) e = absurd (cc)
nothing_higher body (ResHdr ∷ more) e = absurd (cc)
nothing_higher body (Body b ∷ more) e = absurd (cc)

-- where the ranks of parts rise after a given part, none of them stands after a body
last_body : (p : Part) (parts : List Part) (body : BodyPart) (more : List Part) → rises_from p ((parts ++ Body body ∷ []) ++ more) ≡ true
    → more ≡ []
last_body p [] body more e = nothing_higher body more (both _ _ e).1
last_body p (q ∷ parts) body more e = last_body q parts body more (both _ _ e).1

-- of parts in order none stands after a body
ascends-last : (parts : List Part) (body : BodyPart) (more : List Part) → ascends ((parts ++ Body body ∷ []) ++ more) ≡ true → more ≡ []
ascends-last [] body more e = nothing_higher body more e
ascends-last (p ∷ parts) body more e = last_body p parts body more e

-- an allowed list that begins with parts up to a body has no more
pub whole_with_body : (m : Method) (d : Direction) (parts : List Part) (body : BodyPart) → IsFront (allowed m d) (parts ++ Body body ∷ [])
    → Contains (allowed m d) (parts ++ Body body ∷ [])
whole_with_body m d parts body h =
    let up = each_list ascends (allowed m d) ((parts ++ Body body ∷ []) ++ h.0) h.1.0 h.1.1 h.1.2 (allowed-ascends m d) in
    let none = ascends-last parts body h.0 up in
    subst (Contains (allowed m d)) (ap (λ more. (parts ++ Body body ∷ []) ++ more) none ∙ append-nil (parts ++ Body body ∷ [])) h.1

-- a part that passes as a body is one
body_of : (part : Part) → is_body part ≡ true → (body : BodyPart) × (part ≡ Body body)
body_of ReqHdr e = absurd (cc)
body_of ResHdr e = absurd (cc)
body_of (Body body) e = (body, refl)

-- an allowed list has a body
pub whole_body : (m : Method) (d : Direction) (parts : List Part) → Contains (allowed m d) parts
    → (body : BodyPart) × Contains parts (Body body)
whole_body m d parts h =
    let some = each_list has_body (allowed m d) parts h.0 h.1 h.2 (allowed-has_body m d) in
    let there = some_list is_body parts some in
    let is = body_of there.0 there.2 in
    (is.0, subst (Contains parts) is.1 there.1)

-- parts without a body name none
pub no_body : (parts : List Part) → has_body parts ≡ false → (body : BodyPart) → ¬ (Contains parts (Body body))
no_body parts none body h =
    let some = list_there is_body parts (Body body) h.0 h.1 h.2 refl in
    let wrong : true ≡ false = sym some ∙ none in absurd (cc)

-- a prefix of an allowed list that is a layout's parts is whole
pub whole_layout : (m : Method) (d : Direction) (l : Layout) → IsFront (allowed m d) (names (parts_of l))
    → Contains (allowed m d) (names (parts_of l))
whole_layout m d l h =
    let heads = if_there ReqHdr l.req_hdr ++ if_there ResHdr l.res_hdr in
    let e : names (parts_of l) ≡ names heads ++ Body l.body ∷ [] =
    map-append (λ (p : Part × ℕ). p.0) heads ((Body l.body, l.offset) ∷ []) in
    subst (Contains (allowed m d)) (sym e) (whole_with_body m d (names heads) l.body (subst (IsFront (allowed m d)) e h))

-- a layout whose parts are known may be written: the first premise computes, as `refl`
pub may_have : (m : Method) (d : Direction) (l : Layout) → any_front (allowed m d) (names (parts_of l)) ≡ true
    → Rises (offsets (parts_of l)) → MayHave m d l
may_have m d l front rises = record { whole = whole_layout m d l (any_front-sound _ _ front); rises = rises }
