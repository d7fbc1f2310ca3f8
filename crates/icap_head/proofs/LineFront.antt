-- A head of which only the last line has grown isn't whole yet, and nothing in it is wrong, if that line may still become one.
use Rattle.std.proofs.Common.{◌≡◌, ℕ, zero, suc, ◌+◌, ◌-◌, ◌<◌, ◌≤◌, List, [], ◌∷◌, ◌++◌, length, take, drop, get_or, slice_index, refl}
use Rattle.std.proofs.Common.{sym, ap, ◌∙◌, subst, arith, append_assoc, append-nil, length-append, length-take-le, take_all, All, Bool}
use Rattle.std.proofs.Common.{true, false, eqb, Option, Some, None, IfSome, is_some, IsTrue, inl, inr}
use Rattle.std.specs.List.{flat_map, list_any}
use Rattle.std.proofs.lemmas.Bool.{cases_lt, ne_eqb, eq-eqb, both_ways, or_parts}
use Rattle.std.proofs.lemmas.Grind.{flat_map-append}
use Rattle.std.proofs.lemmas.List.{drop_at, get_or-append-add, get_or_at}
use Rattle.std.proofs.lemmas.List.Elements.{All-cons, All-append}
use Rattle.adapt_bytes.specs.Text.{Lacks}
use Rattle.httparse.specs.Grammar.{LineEnd, crlf, lf, print_end, Field as Line, print_field, IsField, print_section, ReadsSection}
use Rattle.httparse.specs.Grammar.{HasNoSection}
use Rattle.httparse.proofs.GrammarLemmas.{section_unique, ReadsSection-append}
use Rattle.icap_head.specs.declared.reading.HeadFault.TheVariants.{More}
use Rattle.icap_head.specs.FieldLines.{HasTooMany, IsOpen, line_count}
use Rattle.icap_head.specs.Heads.{RefusesIcapHead}
use Rattle.icap_head.specs.StartLines.{IsFirstLine, without_cr}
use Rattle.icap_head.proofs.Follows.{unended_short}
use Rattle.icap_head.proofs.Lacking.{lacks_cut}
use Rattle.icap_head.proofs.Readings.{first-append}
use Rattle.icap_head.proofs.Sections.{all_take, count_at, field_line, line_count-append, lines_count, open_lines, too_many_count}
use Rattle.icap_head.proofs.Totals.{first_feed}
use Rattle.adapt_bytes.specs.Text.{is_token_byte, IsToken}
use Rattle.httparse.specs.Grammar.{is_value_byte}
use Rattle.icap_head.proofs.Trimmed.{token_name}
use Rattle.icap_head.specs.declared.line_front.LinePart.{LinePart}
use Rattle.icap_head.specs.declared.line_front.LinePart.TheVariants.{Start, Name, Value, Return}
use Rattle.icap_head.specs.LineFront.{IsAt, IsInValue, IsLineFront, IsLastLine}

-- ---- whole lines, and a prefix of one more

-- a text that some bytes more complete has no section yet
not_yet : (text more : List ℕ) (fields : List Line) (last : LineEnd) → ReadsSection (text ++ more) fields last [] → 0 < length more
    → HasNoSection text
not_yet text more fields last reads some gs end rest r =
    let longer = ReadsSection-append text gs end rest more r in
    let same = section_unique (text ++ more) fields gs last end [] (rest ++ more) reads longer in
    let n = ap length same.2 in
    absurd (omega (arith, n, some, length-append rest more))

-- a text that some bytes more make a whole section is open
opened : (text more : List ℕ) (fields : List Line) (last : LineEnd) → ReadsSection (text ++ more) fields last [] → 0 < length more
    → IsOpen text
opened text more fields last reads some = (not_yet text more fields last reads some, (more, fields, last, reads))

-- whole field lines and, without its LF, a prefix of one more or of the empty line are open
line_open : (fields : List Line) (line : List ℕ) → All IsField fields → IsLineFront line → IsOpen (flat_map print_field fields ++ line)
line_open fields line all (inl (inl e)) =
    let lines = flat_map print_field fields in
    opened (lines ++ line) (10 ∷ []) fields lf
    (all, ap (λ t. (lines ++ t) ++ 10 ∷ []) e ∙ ap (λ t. t ++ 10 ∷ []) (append-nil lines) ∙ sym (append-nil (lines ++ 10 ∷ [])))
    (omega arith)
line_open fields line all (inl (inr e)) =
    let lines = flat_map print_field fields in
    opened (lines ++ line) (10 ∷ []) fields crlf
    (all, ap (λ t. (lines ++ t) ++ 10 ∷ []) e ∙ append_assoc lines (13 ∷ []) (10 ∷ []) ∙ sym (append-nil (lines ++ 13 ∷ 10 ∷ [])))
    (omega arith)
line_open fields line all (inr (f, left, is, e, some)) =
    let lines = flat_map print_field fields in
    let more = left ++ 10 ∷ [] in
    let one : flat_map print_field (fields ++ f ∷ []) ≡ lines ++ print_field f =
    flat_map-append print_field fields (f ∷ []) ∙ ap (λ t. lines ++ t) (append-nil (print_field f)) in
    let whole : (lines ++ line) ++ more ≡ print_section (fields ++ f ∷ []) lf ++ [] =
    sym (append_assoc (lines ++ line) left (10 ∷ [])) ∙ ap (λ t. t ++ 10 ∷ [])
    (append_assoc lines line left ∙ ap (λ t. lines ++ t) (sym e) ∙ sym one)
    ∙ sym (append-nil (flat_map print_field (fields ++ f ∷ []) ++ 10 ∷ [])) in
    opened (lines ++ line) more (fields ++ f ∷ []) lf (
      All-append IsField fields (f ∷ []) all
          (All-cons IsField f [] is (λ k d inside. absurd (omega arith))),
      whole,
    ) (omega (arith, length-append left (10 ∷ [])))

-- ---- the last line of an unfinished section

pub record Parts (text : List ℕ) : Type 0 where
  pub fields : List Line
  pub part : List ℕ
  pub all : All IsField fields
  pub text_is : text ≡ flat_map print_field fields ++ part
  pub no_feed : line_count part ≡ 0

-- an open text is whole field lines and a last part that has no LF
parts : (text : List ℕ) → IsOpen text → Parts text
parts text unfinished =
    let may = unfinished.1 in
    let n = line_count text in
    let found = open_lines n may.1 may.2 text may.0 may.3.0 (may.3.1 ∙ append-nil (print_section may.1 may.2)) (omega arith) unfinished.0 in
    let lines = take n may.1 in
    let all = all_take n may.1 may.3.0 in
    let part = found.1.0 in
    let sum = ap line_count found.1.1 ∙ line_count-append (flat_map print_field lines) part in
    let count = lines_count lines all in
    let few = length-take-le n may.1 found.0 in
    record { fields = lines; part = part; all = all; text_is = found.1.1; no_feed = omega (arith, sum, count, few) }

-- a part in which no line ends has no LF
lacks_feed : (part : List ℕ) → line_count part ≡ 0 → Lacks 10 part
lacks_feed part none k inside is = let n = count_at part k inside is in omega (arith, n, none)

-- no line ends in a text without LF
count_none : (text : List ℕ) → Lacks 10 text → line_count text ≡ 0
count_none [] lacks = refl
count_none (b ∷ text) lacks =
    let off : eqb b 10 ≡ false = ne_eqb b 10 (lacks 0 (omega arith)) in
    let rest = count_none text (λ k inside is. lacks (suc k) (omega arith) is) in
    rw off (omega (arith, rest))

-- a text that ends in LF still does with more whole lines
ends_so : (front : List ℕ) → ((init : List ℕ) × (front ≡ init ++ 10 ∷ [])) → (fields : List Line) → All IsField fields
    → (init : List ℕ) × (front ++ flat_map print_field fields ≡ init ++ 10 ∷ [])
ends_so front ends [] all = (ends.0, append-nil front ∙ ends.1)
ends_so front ends (f ∷ fields) all =
    let one = field_line f (all 0 f (omega arith)) in
    let longer : front ++ print_field f ≡ (front ++ one.0) ++ 10 ∷ [] =
    ap (λ t. front ++ t) one.2 ∙ sym (append_assoc front one.0 (10 ∷ [])) in
    let found = ends_so (front ++ print_field f) (front ++ one.0, longer) fields (λ k d inside. all (suc k) d (omega arith)) in
    (found.0, sym (append_assoc front (print_field f) (flat_map print_field fields)) ∙ found.1)

-- what stands after the last LF is the last line
last_is : (text init line : List ℕ) (start : ℕ) → text ≡ (init ++ 10 ∷ []) ++ line → Lacks 10 line → IsLastLine text start
    → drop start text ≡ line
last_is text init line start cut lacks last =
    let front = init ++ 10 ∷ [] in
    let len = ap length cut in
    let sum = length-append front line in
    let one = length-append init (10 ∷ []) in
    let inside = last.inside in
    elim (cases_lt start (length front)) [
      | inl before ↦
          let at : slice_index text (length init) ≡ 10 =
          ap (λ t. get_or t (length init) 0) (cut ∙ append_assoc init (10 ∷ []) line) ∙ get_or_at init 10 line 0 (length init) refl in
          absurd (last.no_feed (length init) (omega (arith, before, one)) (omega (arith, len, sum, one)) at)
      | inr not_before ↦ elim (cases_lt (length front) start) [
        | inl behind ↦
            let k = start - 1 - length front in
            let place : length front + k ≡ start - 1 = omega (arith, behind) in
            let at : get_or line k 0 ≡ 10 = sym (get_or-append-add front line k 0) ∙ ap (λ t. get_or t (length front + k) 0) (sym cut)
            ∙ ap (λ j. get_or text j 0) place ∙ last.feed (omega (arith, behind)) in
            absurd (lacks k (omega (arith, behind, len, sum, inside)) at)
        | inr not_behind ↦
            let same : start ≡ length front = omega (arith, not_before, not_behind) in
            ap (λ j. drop j text) same ∙ ap (drop (length front)) cut ∙ drop_at front line (length front) refl
      ]
    ]

-- ---- a head

-- a text that doesn't begin with more than 100 field lines has at most 100 of them before its last part
few_fields : (text : List ℕ) (p : Parts text) → (HasTooMany text → ⊥) → length p.fields ≤ 100
few_fields text p few = elim (cases_lt 100 (length p.fields)) [
  | inr fits ↦ fits
  | inl many ↦ absurd (few (
    flat_map print_field p.fields,
    p.part,
    p.text_is,
    p.fields,
    (p.all, sym (append-nil (flat_map print_field p.fields ++ print_end lf))),
    many,
  ))
]

-- the fields of a longer text, of which only the last line has grown
more_fields : (behind new : List ℕ) → IsOpen behind → (HasTooMany behind → ⊥) → (p : Parts behind) → Lacks 10 (p.part ++ new)
    → IsLineFront (p.part ++ new)
    → IsOpen (behind ++ new) × (HasTooMany (behind ++ new) → ⊥)
more_fields behind new unfinished few p lacks line =
    let lines = flat_map print_field p.fields in
    let text_is : behind ++ new ≡ lines ++ (p.part ++ new) = ap (λ t. t ++ new) p.text_is ∙ append_assoc lines p.part new in
    let fits = few_fields behind p few in
    let P : List ℕ → Type 0 = IsOpen in (
      subst P (sym text_is) (line_open p.fields (p.part ++ new) p.all line),
      λ many.
          let n = too_many_count (behind ++ new) many in
          let sum = ap line_count text_is ∙ line_count-append lines (p.part ++ new) in
          let count = lines_count p.fields p.all in
          let none = count_none (p.part ++ new) lacks in
          omega (arith, n, sum, count, none, fits),
    )

-- the judged bytes of a text below 16,384 bytes are all of it
short_take : (text : List ℕ) → length text < 16384 → take 16384 text ≡ text
short_take text short = take_all 16384 text (omega (arith, short))

-- two texts without LF have none together
lacks_both : (a b : List ℕ) → Lacks 10 a → Lacks 10 b → Lacks 10 (a ++ b)
lacks_both a b x y k inside is = elim (cases_lt k (length a)) [
  | inl first ↦ x k first (sym (get_or-append-le a b k first) ∙ is)
  | inr second ↦
      let j = k - length a in
      let at : length a + j ≡ k = omega (arith, second) in
      y j (omega (arith, second, inside, length-append a b)) (sym (get_or-append-add a b j 0) ∙ ap (λ n. get_or (a ++ b) n 0) at ∙ is)
]
  where
    get_or-append-le : (a b : List ℕ) (k : ℕ) → k < length a → get_or (a ++ b) k 0 ≡ get_or a k 0
    get_or-append-le [] b k l = absurd (omega arith)
    get_or-append-le (x ∷ a) b zero l = refl
    get_or-append-le (x ∷ a) b (suc k) l = get_or-append-le a b k (omega (arith, l))

-- a first line and its LF, the lines after it and the last part are the same text however they are grouped
regroup : (raw lines part : List ℕ) → raw ++ 10 ∷ (lines ++ part) ≡ ((raw ++ 10 ∷ []) ++ lines) ++ part
regroup raw lines part = simp append_assoc

-- what is told of a head is told with more at the end of its last line
pub still_more : (Form : List ℕ → List ℕ → Type 0) (head new : List ℕ) (start : ℕ) → length (head ++ new) < 16384 → Lacks 10 new
    → IsLastLine head start → (0 < start → IsLineFront (drop start head ++ new)) → RefusesIcapHead Form More head
    → RefusesIcapHead Form More (head ++ new)
still_more Form head new start short new_lacks last line stands = elim (cases_lt 0 start) [
  | inr first ↦ inl (
    sym (unended_short (length (head ++ new)) short),
    λ l rest h.
        lacks_cut 10 (head ++ new) h.raw rest (lacks_both head new (λ k within. last.no_feed k (omega (arith, first)) within) new_lacks)
        (sym (short_take (head ++ new) short) ∙ h.cut),
  )
  | inl some ↦ with some stands
]
  where
    head_short : take 16384 head ≡ head
    head_short = short_take head (omega (arith, short, length-append head new))

    with : 0 < start → RefusesIcapHead Form More head → RefusesIcapHead Form More (head ++ new)
    with some (inl (e, no_line)) = elim (first_feed head) [
      | inl found ↦ absurd (no_line (without_cr found.0) found.1 (subst (λ t. IsFirstLine t (without_cr found.0) found.1) (sym head_short)
          (record { raw = found.0; cut = found.2; no_feed = found.3; line_is = refl })))
      | inr lacks ↦ absurd (lacks (start - 1) (let inside = last.inside in omega (arith, some, inside)) (last.feed some))
    ]
    with some (inr (l, behind, first, inl (inl (e, bad)))) = absurd (cc)
    with some (inr (l, behind, first, inl (inr (e, bad)))) = absurd (cc)
    with some (inr (l, behind, first, inr (form, inl (e, never, few)))) = absurd (cc)
    with some (inr (l, behind, first, inr (form, inr (inl (e, bad))))) = absurd (cc)
    with some (inr (l, behind, first, inr (form, inr (inr (e, unfinished, few))))) =
        let p = parts behind unfinished in
        let first_here : IsFirstLine head l behind = subst (λ t. IsFirstLine t l behind) head_short first in
        let part_lacks = lacks_feed p.part p.no_feed in
        let raw = first_here.raw in
        let ends = ends_so (raw ++ 10 ∷ []) (raw, refl) p.fields p.all in
        let cut = first_here.cut ∙ ap (λ t. raw ++ 10 ∷ t) p.text_is ∙ regroup raw (flat_map print_field p.fields) p.part
        ∙ ap (λ t. t ++ p.part) ends.1 in
        let is = last_is head ends.0 p.part start cut part_lacks last in
        let more = more_fields behind new unfinished few p (lacks_both p.part new part_lacks new_lacks)
        (subst (λ t. IsLineFront (t ++ new)) is (line some)) in
        let first_now : IsFirstLine (take 16384 (head ++ new)) l (behind ++ new) =
        subst (λ t. IsFirstLine t l (behind ++ new)) (sym (short_take (head ++ new) short)) (first-append head new l behind first_here) in
        inr (l, behind ++ new, first_now, inr (form, inr (inr (sym (unended_short (length (head ++ new)) short), more.0, more.1))))

-- ---- a line, byte by byte

abbrev with_value : List ℕ → List ℕ → LineEnd → Line
with_value name raw end = record { name = name; raw = raw; end = end }

-- a line that has come to any of its places is, without an LF, a prefix of a field line or of the empty line
pub line_front : (place : LinePart) (line : List ℕ) → IsAt place line → IsLineFront line
line_front Start line e = inl (inl e)
line_front Name line token = inr (
  with_value line [] lf,
  58 ∷ 10 ∷ [],
  record { name = token_name line token; raw = λ k d inside. absurd (omega arith) },
  append_assoc line (58 ∷ []) (10 ∷ []),
  omega arith,
)
line_front Value line (name, raw, token, all, e) =
    inr (with_value name raw lf, 10 ∷ [], record { name = token_name name token; raw = all }, ap (λ t. t ++ 10 ∷ []) (sym e), omega arith)
line_front Return line (inl e) = inl (inr e)
line_front Return line (inr (front, (name, raw, token, all, e), line_is)) =
    inr (
      with_value name raw crlf,
      10 ∷ [],
      record { name = token_name name token; raw = all },
      sym (append_assoc (name ++ 58 ∷ raw) (13 ∷ []) (10 ∷ [])) ∙ ap (λ t. (t ++ 13 ∷ []) ++ 10 ∷ []) (sym e)
          ∙ ap (λ t. t ++ 10 ∷ []) (sym line_is),
      omega arith,
    )

-- a token goes on with a byte of a token
pub more_name : (line : List ℕ) (byte : ℕ) → IsToken line → IsToken (byte ∷ []) → IsToken (line ++ byte ∷ [])
more_name line byte token one = (
  omega (arith, length-append line (byte ∷ []), token.0),
  All-append (λ b. IsTrue (is_token_byte b)) line (byte ∷ []) token.1 one.1,
)

-- a name with a colon after it is a line that has come to its value
pub begin_value : (line : List ℕ) → IsToken line → IsInValue (line ++ 58 ∷ [])
begin_value line token = (line, [], token, λ k d inside. absurd (omega arith), refl)

-- a line that has come to its value goes on in it with a value byte
pub more_value : (line : List ℕ) (byte : ℕ) → IsInValue line → is_value_byte byte ≡ true → IsInValue (line ++ byte ∷ [])
more_value line byte (name, raw, token, all, e) good = (
  name,
  raw ++ byte ∷ [],
  token,
  All-append (λ b. is_value_byte b ≡ true) raw (byte ∷ []) all
      (All-cons (λ b. is_value_byte b ≡ true) byte [] good (λ k d inside. absurd (omega arith))),
  ap (λ t. t ++ byte ∷ []) e ∙ append_assoc name (58 ∷ raw) (byte ∷ []),
)

-- ---- a piece after a prefix of a head

-- the piece ends no line, and the last line goes on with it
pub goes_on : (Form : List ℕ → List ℕ → Type 0) (head piece rest : List ℕ) (start : ℕ) (place next : LinePart)
    → length piece < 16384 - length head → Lacks 10 piece → IsLastLine head start → rest ≡ drop start head
    → ((line : List ℕ) → IsAt Start line → IsAt place (line ++ rest)) → ((line : List ℕ) → IsAt place line → IsAt next (line ++ piece))
    → RefusesIcapHead Form More head → RefusesIcapHead Form More (head ++ piece)
goes_on Form head piece rest start place next short lacks last e first second stands =
    still_more Form head piece start (omega (arith, short, length-append head piece)) lacks last
    (λ some. let P : List ℕ → Type 0 = λ t. IsLineFront (t ++ piece) in
    subst P e (line_front next (rest ++ piece) (second rest (first [] refl)))) stands

-- the piece goes on with the first line
pub first_goes_on : (Form : List ℕ → List ℕ → Type 0) (head piece : List ℕ) (start : ℕ) → length piece < 16384 - length head
    → Lacks 10 piece → IsLastLine head start → start ≡ 0
    → RefusesIcapHead Form More head → RefusesIcapHead Form More (head ++ piece)
first_goes_on Form head piece start short lacks last none stands =
    still_more Form head piece start (omega (arith, short, length-append head piece)) lacks last
    (λ some. absurd (omega (arith, some, none))) stands

-- a piece has no LF where a search for one finds none
pub lacks_of : (piece : List ℕ) → list_any (λ b. eqb b 10) piece ≡ false → Lacks 10 piece
lacks_of [] e k inside is = absurd (omega arith)
lacks_of (b ∷ piece) e zero inside is = both_ways (eqb b 10) (or_parts (eqb b 10) (list_any (λ c. eqb c 10) piece) e).0 (eq-eqb b 10 is)
lacks_of (b ∷ piece) e (suc k) inside is = lacks_of piece (or_parts (eqb b 10) (list_any (λ c. eqb c 10) piece) e).1 k
    (omega (arith, inside)) is

-- what is told to be there is there, with what holds of it
pub some_of : {X : Type 0} {P : X → Type 0} (o : Option X) (t : Bool) → IfSome o P → t ≡ is_some o → t ≡ true → (x : X) × P x
some_of None t h e told = absurd (both_ways t e told)
some_of (Some x) t h e told = (x, h)
