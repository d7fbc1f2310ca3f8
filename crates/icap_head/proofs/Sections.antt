-- Field lines are counted by their line feeds.
use Rattle.std.proofs.Common.{◌≡◌, ◌≢◌, ℕ, zero, suc, ◌+◌, ◌-◌, ◌<◌, ◌≤◌, inl, inr, true, false, cond, eqb, List, [], ◌∷◌, ◌++◌, length}
use Rattle.std.proofs.Common.{get_or, take, drop, refl, sym, ap, ◌∙◌, subst, arith, All, length-append, append_assoc, append-nil}
use Rattle.std.proofs.Common.{length-take-le, take-append-drop}
use Rattle.std.specs.List.{flat_map}
use Rattle.std.proofs.lemmas.Bool.{ne_eqb, eq-eqb, cases_lt}
use Rattle.std.proofs.lemmas.List.{take_at, get_or_at, get_or-append-add, take-append-le}
use Rattle.std.proofs.lemmas.List.Sums.{sum_by-append}
use Rattle.std.proofs.lemmas.List.Elements.{All-cons}
use Rattle.adapt_bytes.specs.Text.{Lacks}
use Rattle.httparse.specs.Grammar.{LineEnd, crlf, lf, print_end, Field as Line, print_field, IsField, print_section, ReadsSection}
use Rattle.httparse.specs.Grammar.{HasNoSection, NeverHasSection, is_token_byte, is_value_byte, IsToken, AllPass}
use Rattle.httparse.proofs.GrammarLemmas.{section_unique}
use Rattle.icap_head.specs.FieldLines.{line_count, HasTooMany, IsOpen}
use Rattle.icap_head.proofs.Lacking.{false_true, lacks_append, lacks_cons, lacks_nil, lacks_from, tested}

-- ---- counting

-- as many lines end in two texts together as in the one and in the other
pub line_count-append : (xs ys : List ℕ) → line_count (xs ++ ys) ≡ line_count xs + line_count ys
line_count-append xs ys = sum_by-append (λ b. cond (eqb b 10) 1 0) xs ys

-- a first byte that is no LF ends no line
line_count-other : (b : ℕ) (text : List ℕ) → b ≢ 10 → line_count (b ∷ text) ≡ line_count text
line_count-other b text other = let off : eqb b 10 ≡ false = ne_eqb b 10 other in rw off (omega arith)

-- a first byte that is an LF ends one line more
line_count-feed : (b : ℕ) (text : List ℕ) → b ≡ 10 → line_count (b ∷ text) ≡ 1 + line_count text
line_count-feed b text is =
    let on : eqb b 10 ≡ true = eq-eqb b 10 is in
    let one : line_count (b ∷ []) ≡ 1 = rw on refl in
    let e = line_count-append (b ∷ []) text in
    omega (arith, one, e)

-- no line ends in a text without LF
no_feeds : (text : List ℕ) → Lacks 10 text → line_count text ≡ 0
no_feeds [] lacks = refl
no_feeds (b ∷ text) lacks = line_count-other b text (lacks 0 (omega arith)) ∙ no_feeds text (λ k inside is. lacks (suc k) (omega arith) is)

-- a text that has an LF has a line
pub count_at : (text : List ℕ) (k : ℕ) → k < length text → get_or text k 0 ≡ 10 → 0 < line_count text
count_at [] k inside is = absurd (omega arith)
count_at (b ∷ text) zero inside is = let e = line_count-feed b text is in omega (arith, e)
count_at (b ∷ text) (suc k) inside is =
    let e : line_count (b ∷ text) ≡ line_count (b ∷ []) + line_count text = line_count-append (b ∷ []) text in
    let rest = count_at text k (omega arith) is in
    omega (arith, e, rest)

-- what is left after a proper prefix of a text that ends in LF has a line
count_behind : (front w init : List ℕ) → front ++ w ≡ init ++ 10 ∷ [] → 0 < length w → 0 < line_count w
count_behind front w init e pos =
    let n = ap length e in
    let last : length front + (length w - 1) ≡ length init = omega (arith, n, length-append front w, length-append init (10 ∷ [])) in
    let is : get_or w (length w - 1) 0 ≡ 10 = sym (get_or-append-add front w (length w - 1) 0) ∙ ap (λ k. get_or (front ++ w) k 0) last
    ∙ ap (λ t. get_or t (length init) 0) e ∙ get_or_at init 10 [] 0 (length init) refl in
    count_at w (length w - 1) (omega arith) is

-- ---- lines

-- the text is one line: it ends in LF and has no other
abbrev pub OneLine : List ℕ → Type 0
OneLine text = (init : List ℕ) × Lacks 10 init × (text ≡ init ++ 10 ∷ [])

-- a line end is one line
end_line : (e : LineEnd) → OneLine (print_end e)
end_line crlf = (13 ∷ [], lacks_from 10 (13 ∷ []) refl, refl)
end_line lf = ([], lacks_nil 10, refl)

-- one line with bytes before it that have no LF is one line
with_front : (front text : List ℕ) → Lacks 10 front → OneLine text → OneLine (front ++ text)
with_front front text lacks line = (
  front ++ line.0,
  lacks_append 10 front line.0 lacks line.1,
  ap (λ t. front ++ t) line.2 ∙ sym (append_assoc front line.0 (10 ∷ [])),
)

-- an LF is no byte of a field's name
feed_no_name : is_token_byte 10 ≡ false
unfolding is_token_byte
feed_no_name = refl

-- a field's name has no LF
name_lacks : (name : List ℕ) → IsToken name → Lacks 10 name
name_lacks name token k inside is = false_true (sym feed_no_name ∙ ap is_token_byte (sym is) ∙ token.1 k 0 inside)

-- a text of value bytes has no LF
value_lacks : (value : List ℕ) → AllPass is_value_byte value → Lacks 10 value
value_lacks value pass k inside is = false_true (ap is_value_byte (sym is) ∙ pass k 0 inside)

-- a valid field line is one line
pub field_line : (f : Line) → IsField f → OneLine (print_field f)
field_line f h =
    with_front (f.name ++ 58 ∷ f.raw) (print_end f.end)
    (lacks_append 10 f.name (58 ∷ f.raw) (name_lacks f.name h.name) (lacks_cons 10 58 f.raw (tested 10 58 refl) (value_lacks f.raw h.raw)))
    (end_line f.end)

-- in a text that is one line, one line ends
one_count : (text : List ℕ) → OneLine text → line_count text ≡ 1
one_count text line =
    let n = line_count-append line.0 (10 ∷ []) in
    let none = no_feeds line.0 line.1 in
    let one : line_count (10 ∷ []) ≡ 1 = refl in
    ap line_count line.2 ∙ omega (arith, n, none, one)

-- a section with one field more before it is that field's line and then the section
section_cons : (f : Line) (fields : List Line) (last : LineEnd)
    → print_section (f ∷ fields) last ≡ print_field f ++ print_section fields last
section_cons f fields last = append_assoc (print_field f) (flat_map print_field fields) (print_end last)

-- the first of valid field lines is valid
all_head : (f : Line) (fields : List Line) → All IsField (f ∷ fields) → IsField f
all_head f fields all = all 0 f (omega arith)

-- the lines after the first of valid field lines are valid
all_tail : (f : Line) (fields : List Line) → All IsField (f ∷ fields) → All IsField fields
all_tail f fields all k d inside = all (suc k) d (omega arith)

-- the first few of valid field lines are valid
pub all_take : (n : ℕ) (fields : List Line) → All IsField fields → All IsField (take n fields)
all_take zero fields all k d inside = absurd (omega arith)
all_take (suc n) [] all k d inside = all k d inside
all_take (suc n) (f ∷ fields) all k d inside = All-cons IsField f (take n fields) (all_head f fields all)
    (all_take n fields (all_tail f fields all)) k d inside

-- in valid field lines, as many lines end as there are fields
pub lines_count : (fields : List Line) → All IsField fields → line_count (flat_map print_field fields) ≡ length fields
lines_count [] all = refl
lines_count (f ∷ fields) all =
    let n = line_count-append (print_field f) (flat_map print_field fields) in
    let one = one_count (print_field f) (field_line f (all_head f fields all)) in
    let more = lines_count fields (all_tail f fields all) in
    omega (arith, n, one, more)

-- ---- a text that has a line of another has it whole

-- a text in which a line ends has the first LF of any longer text, and all bytes before that LF
whole_line : (init text more tail : List ℕ) → Lacks 10 init → text ++ more ≡ init ++ 10 ∷ tail → 0 < line_count text
    → (rest : List ℕ) × (text ≡ init ++ 10 ∷ rest) × (rest ++ more ≡ tail)
whole_line init [] more tail lacks e pos = absurd (omega arith)
whole_line [] (b ∷ text) more tail lacks e pos =
    let heads : b ≡ 10 = cc in
    let tails : text ++ more ≡ tail = cc in
    (text, ap (λ x. x ∷ text) heads, tails)
whole_line (a ∷ init) (b ∷ text) more tail lacks e pos =
    let heads : b ≡ a = cc in
    let tails : text ++ more ≡ init ++ 10 ∷ tail = cc in
    let other : b ≢ 10 = λ is. lacks 0 (omega arith) (sym heads ∙ is) in
    let n = line_count-other b text other in
    let found = whole_line init text more tail (λ k inside is. lacks (suc k) (omega arith) is) tails (omega (arith, n)) in
    (found.0, (λ i. heads i ∷ found.1 i), found.2)

-- a text in which a line ends, and that more bytes make one line and a tail, begins with that line
cut_line : (line text more tail : List ℕ) → OneLine line → text ++ more ≡ line ++ tail → 0 < line_count text
    → (rest : List ℕ) × (text ≡ line ++ rest) × (rest ++ more ≡ tail)
cut_line line text more tail one e pos =
    let init = one.0 in
    let found = whole_line init text more tail one.1 (e ∙ ap (λ l. l ++ tail) one.2 ∙ append_assoc init (10 ∷ []) tail) pos in
    (found.0, found.1 ∙ sym (append_assoc init (10 ∷ []) found.0) ∙ ap (λ l. l ++ found.0) (sym one.2), found.2)

-- a valid field line before a section is a section with one field more
reads_cons : (f : Line) (fields : List Line) (last : LineEnd) (text behind rest : List ℕ) → IsField f → text ≡ print_field f ++ behind
    → ReadsSection behind fields last rest → ReadsSection text (f ∷ fields) last rest
reads_cons f fields last text behind rest h e r = (
  All-cons IsField f fields h r.0,
  e ∙ ap (λ t. print_field f ++ t) r.1
      ∙ sym (append_assoc (print_field f) (print_section fields last) rest) ∙ ap (λ t. t ++ rest) (sym (section_cons f fields last)),
)

-- the lines of an unfinished section are whole field lines
pub open_lines : (k : ℕ) (fields : List Line) (last : LineEnd) (text more : List ℕ) → All IsField fields
    → text ++ more ≡ print_section fields last
    → k ≤ line_count text → HasNoSection text
    → (k ≤ length fields) × ((rest : List ℕ) × (text ≡ flat_map print_field (take k fields) ++ rest))
open_lines zero fields last text more all e enough none = (omega arith, (text, refl))
open_lines (suc k) [] last text more all e enough none =
    let line = cut_line (print_end last) text more [] (end_line last) (e ∙ sym (append-nil (print_end last))) (omega arith) in
    absurd (none [] last line.0 (all, line.1))
open_lines (suc k) (f ∷ fields) last text more all e enough none =
    let h = all_head f fields all in
    let one = field_line f h in
    let line = cut_line (print_field f) text more (print_section fields last) one (e ∙ section_cons f fields last) (omega arith) in
    let n = ap line_count line.1 in
    let sum = line_count-append (print_field f) line.0 in
    let count = one_count (print_field f) one in
    let found = open_lines k fields last line.0 more (all_tail f fields all) line.2 (omega (arith, n, sum, count))
    (λ gs end rest r. none (f ∷ gs) end rest (reads_cons f gs end text line.0 rest h line.1 r)) in
    let few = found.0 in (
      omega (arith, few),
      (
        found.1.0,
        line.1 ∙ ap (λ t. print_field f ++ t) found.1.1 ∙ sym
            (append_assoc (print_field f) (flat_map print_field (take k fields)) found.1.0),
      ),
    )

-- ---- too many

-- an open text in which 101 lines end begins with more than 100 field lines
pub open_too_many : (text : List ℕ) → IsOpen text → 101 ≤ line_count text → HasTooMany text
open_too_many text unfinished enough =
    let more = unfinished.1 in
    let whole = more.3.1 ∙ append-nil (print_section more.1 more.2) in
    let found = open_lines 101 more.1 more.2 text more.0 more.3.0 whole enough unfinished.0 in
    let lines = take 101 more.1 in
    let n = length-take-le 101 more.1 found.0 in (
      flat_map print_field lines,
      found.1.0,
      found.1.1,
      lines,
      (all_take 101 more.1 more.3.0, sym (append-nil (print_section lines lf))),
      omega (arith, n),
    )

-- a prefix that an empty line makes a section has a line for each of its fields
front_count : (front : List ℕ) (fields : List Line) → ReadsSection (front ++ print_end lf) fields lf [] → line_count front ≡ length fields
front_count front fields r =
    let e = ap line_count (r.1 ∙ append-nil (print_section fields lf)) in
    let a = line_count-append front (print_end lf) in
    let b = line_count-append (flat_map print_field fields) (print_end lf) in
    let n = lines_count fields r.0 in
    omega (arith, e, a, b, n)

-- in a text that begins with more than 100 field lines, 101 lines end at least
pub too_many_count : (text : List ℕ) → HasTooMany text → 101 ≤ line_count text
too_many_count text many =
    let front = many.0 in
    let n = front_count front many.3 many.4 in
    let a = ap line_count many.2 in
    let b = line_count-append front many.1 in
    let more = many.5 in
    omega (arith, n, a, b, more)

-- a text with too many field lines has too many with more bytes after it
pub too_many-append : (text more : List ℕ) → HasTooMany text → HasTooMany (text ++ more)
too_many-append text more many =
    (many.0, many.1 ++ more, ap (λ t. t ++ more) many.2 ∙ append_assoc many.0 many.1 more, many.3, many.4, many.5)

-- of two prefixes of a text, the longer begins with the shorter
pub longer_front : (a x b y : List ℕ) → a ++ x ≡ b ++ y → length b ≤ length a → (c : List ℕ) × (a ≡ b ++ c)
longer_front a x b y e le = (
  drop (length b) a,
  sym (take-append-drop (length b) a) ∙ ap (λ t. t ++ drop (length b) a)
      (sym (take-append-le (length b) a x le) ∙ ap (take (length b)) e ∙ take_at b y (length b) refl),
)

-- a text that begins with another still does with an LF after it
ends_after : (front more : List ℕ) (c : List ℕ) → front ≡ more ++ c → front ++ 10 ∷ [] ≡ more ++ (c ++ 10 ∷ [])
ends_after front more c e = ap (λ t. t ++ 10 ∷ []) e ∙ append_assoc more c (10 ∷ [])

-- no continuation of a text that can't become a section has too many lines, if it hasn't so itself
pub never_too_many : (text more : List ℕ) → NeverHasSection text → ¬ (HasTooMany text) → ¬ (HasTooMany (text ++ more))
never_too_many text more never few many =
    elim (cases_lt (length many.0) (length text)) [
      | inl less ↦
          let c = longer_front text more many.0 many.1 many.2 (omega arith) in
          few (many.0, c.0, c.1, many.3, many.4, many.5)
      | inr most ↦
          let c = longer_front many.0 many.1 text more (sym many.2) most in
          never (c.0 ++ 10 ∷ []) many.3 lf [] (subst (λ t. ReadsSection t many.3 lf []) (ends_after many.0 text c.0 c.1) many.4)
    ]

-- a text of no bytes is empty
empty : (text : List ℕ) → length text ≤ 0 → text ≡ []
empty [] none = refl
empty (b ∷ text) none = absurd (omega arith)

-- a text that ends in LF, of 101 lines, hasn't too many if it can't become a section: such a section would be all of it
pub ends_too_many : (text init : List ℕ) → text ≡ init ++ 10 ∷ [] → line_count text ≡ 101 → NeverHasSection text → ¬ (HasTooMany text)
ends_too_many text init ends count never many =
    let front = many.0 in
    let n = front_count front many.3 many.4 in
    let sum = line_count-append front many.1 in
    let whole = ap line_count many.2 in
    let more = many.5 in
    elim (cases_lt 0 (length many.1)) [
      | inl pos ↦ let left = count_behind front many.1 init (sym many.2 ∙ ends) pos in absurd (omega (arith, left, n, sum, whole, more))
      | inr none ↦
          let same : text ≡ front = many.2 ∙ ap (λ w. front ++ w) (empty many.1 none) ∙ append-nil front in
          never (10 ∷ []) many.3 lf [] (subst (λ t. ReadsSection (t ++ 10 ∷ []) many.3 lf []) (sym same) many.4)
    ]

-- a text with a section of at most 100 fields hasn't too many
pub section_few : (text : List ℕ) (fields : List Line) (last : LineEnd) (rest : List ℕ) → ReadsSection text fields last rest
    → length fields ≤ 100 → HasTooMany text → ⊥
section_few text fields last rest r few many =
    let front = many.0 in
    let printed = print_section fields last in
    elim (cases_lt (length front) (length printed)) [
      | inl less ↦
          let c = longer_front printed rest front many.1 (sym r.1 ∙ many.2) (omega arith) in
          let end = end_line last in
          let ends : front ++ c.0 ≡ (flat_map print_field fields ++ end.0) ++ 10 ∷ [] =
          sym c.1 ∙ ap (λ t. flat_map print_field fields ++ t) end.2 ∙ sym (append_assoc (flat_map print_field fields) end.0 (10 ∷ [])) in
          let total = ap length c.1 in
          let left = count_behind front c.0 (flat_map print_field fields ++ end.0) ends (omega (arith, total, length-append front c.0)) in
          let n = front_count front many.3 many.4 in
          let whole = ap line_count c.1 in
          let sum = line_count-append front c.0 in
          let parts = line_count-append (flat_map print_field fields) (print_end last) in
          let lines = lines_count fields r.0 in
          let one = one_count (print_end last) end in
          let more = many.5 in
          absurd (omega (arith, left, n, whole, sum, parts, lines, one, more, few))
      | inr most ↦
          let c = longer_front front many.1 printed rest (sym many.2 ∙ r.1) most in
          let same = section_unique (front ++ 10 ∷ []) fields many.3 last lf (c.0 ++ 10 ∷ []) [] (r.0, ends_after front printed c.0 c.1)
          many.4 in
          let n = ap length same.0 in
          let more = many.5 in
          absurd (omega (arith, n, more, few))
    ]
