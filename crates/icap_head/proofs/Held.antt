-- What a head holds can be written again.
use Rattle.std.proofs.Common.{◌≡◌, ℕ, suc, ◌+◌, ◌-◌, ◌<◌, ◌≤◌, ◌⊎◌, inl, inr, true, false, IsTrue, List, [], ◌∷◌, ◌++◌, length, get_or}
use Rattle.std.proofs.Common.{take, map, reverse, refl, sym, ap, ◌∙◌, subst, arith, rules, All, length-append, get_or-take, codes, eqb}
use Rattle.std.specs.Char.{is_ascii_digit, digit_value}
use Rattle.std.specs.List.{AllByRecursion}
use Rattle.std.specs.Str.Parse.{digits_value}
use Rattle.std.proofs.lemmas.Bool.{cases_Bool}
use Rattle.std.proofs.lemmas.List.{reverse-append, reverse-reverse, get_or-append-add, get_or_append_left, length-take}
use Rattle.std.proofs.lemmas.Str.{digit_value_digit}
use Rattle.adapt_bytes.specs.Text.{Lacks}
use Rattle.httparse.specs.Grammar.{Field as Line, IsField, is_ows, is_value_byte, skip_ows, trim_ows}
use Rattle.httparse.specs.Spans.{name_and_value}
use Rattle.httparse.proofs.TrimLemmas.{AllPass-trim_ows}
use Rattle.adapt_bytes.specs.Fields.{FieldList}
use Rattle.icap_head.specs.FieldLines.{ReadsFields}
use Rattle.icap_head.specs.Heads.{Request, Response, IsRequestHead, IsResponseHead}
use Rattle.icap_head.specs.StartLines.{without_cr, IsFirstLine}
use Rattle.icap_head.specs.Written.{IsFieldPair, IsRequest, IsResponse}

-- ---- trimmed values

-- a blank before a text is skipped
pub skip_yes : (b : ℕ) (xs : List ℕ) → is_ows b ≡ true → skip_ows (b ∷ xs) ≡ skip_ows xs
skip_yes b xs is = rw is refl

-- nothing is skipped of a text that begins with no blank
pub skip_off : (b : ℕ) (xs : List ℕ) → is_ows b ≡ false → skip_ows (b ∷ xs) ≡ b ∷ xs
skip_off b xs is = rw is refl

-- a text whose first blanks are skipped stays the same where blanks are skipped once more
skip_twice : (xs : List ℕ) → skip_ows (skip_ows xs) ≡ skip_ows xs
skip_twice [] = refl
skip_twice (b ∷ xs) = elim (cases_Bool (is_ows b)) [
  | inl is ↦ ap skip_ows (skip_yes b xs is) ∙ skip_twice xs ∙ sym (skip_yes b xs is)
  | inr is ↦ ap skip_ows (skip_off b xs is)
]

-- a text without the blanks before it is no longer than it was
skip_short : (xs : List ℕ) → length (skip_ows xs) ≤ length xs
skip_short [] = omega arith
skip_short (b ∷ xs) = elim (cases_Bool (is_ows b)) [
  | inl is ↦ let e = ap length (skip_yes b xs is) in let ih = skip_short xs in omega (arith, e, ih)
  | inr is ↦ let e = ap length (skip_off b xs is) in omega (arith, e)
]

-- a text is some bytes and then what is left once its first blanks are skipped
skip_front : (xs : List ℕ) → (blanks : List ℕ) × (xs ≡ blanks ++ skip_ows xs)
skip_front [] = ([], refl)
skip_front (b ∷ xs) = elim (cases_Bool (is_ows b)) [
  | inl is ↦ let ih = skip_front xs in (b ∷ ih.0, ap (λ t. b ∷ t) ih.1 ∙ ap (λ t. b ∷ ih.0 ++ t) (sym (skip_yes b xs is)))
  | inr is ↦ ([], sym (skip_off b xs is))
]

-- where a text begins with no blank, a prefix of it doesn't either
front_trimmed : (xs ys : List ℕ) → skip_ows (xs ++ ys) ≡ xs ++ ys → skip_ows xs ≡ xs
front_trimmed [] ys e = refl
front_trimmed (b ∷ xs) ys e = elim (cases_Bool (is_ows b)) [
  | inl is ↦ let n = ap length (sym (skip_yes b (xs ++ ys) is) ∙ e) in let short = skip_short (xs ++ ys) in absurd (omega (arith, n, short))
  | inr is ↦ skip_off b xs is
]

-- a trimmed value has no blank at its beginning
pub trimmed_front : (raw : List ℕ) → skip_ows (trim_ows raw) ≡ trim_ows raw
unfolding trim_ows
trimmed_front raw =
    let w = skip_ows raw in
    let cut = skip_front (reverse w) in
    let v = reverse (skip_ows (reverse w)) in
    let whole : w ≡ v ++ reverse cut.0 = sym (reverse-reverse w) ∙ ap reverse cut.1 ∙ reverse-append cut.0 (skip_ows (reverse w)) in
    front_trimmed v (reverse cut.0) (ap skip_ows (sym whole) ∙ skip_twice raw ∙ whole)

-- a trimmed value has no blank at its back
pub trimmed_back : (raw : List ℕ) → skip_ows (reverse (trim_ows raw)) ≡ reverse (trim_ows raw)
unfolding trim_ows
trimmed_back raw =
    let u = skip_ows (reverse (skip_ows raw)) in
    ap skip_ows (reverse-reverse u) ∙ skip_twice (reverse (skip_ows raw)) ∙ sym (reverse-reverse u)

-- the names and values of valid field lines are fields that lines can hold
pairs_held : (lines : List Line) → All IsField lines → AllByRecursion IsFieldPair (map name_and_value lines)
pairs_held [] all = tt
pairs_held (f ∷ lines) all =
    let h : IsField f = all 0 f (omega arith) in (
      record { name = h.name; value = AllPass-trim_ows is_value_byte f.raw h.raw; front = trimmed_front f.raw; back = trimmed_back f.raw },
      pairs_held lines (λ k d inside. all (suc k) d (omega arith)),
    )

-- fields that a text is read as are fields that lines can hold
fields_held : (text : List ℕ) (fields : FieldList) (rest : List ℕ) → ReadsFields text fields rest → AllByRecursion IsFieldPair fields
fields_held text fields rest r = subst (AllByRecursion IsFieldPair) r.3 (pairs_held r.0 r.2.0)

-- ---- start lines

-- where two texts together lack a byte, the first of them does
lacks_left : (c : ℕ) (xs ys : List ℕ) → Lacks c (xs ++ ys) → Lacks c xs
lacks_left c xs ys lacks k inside is = lacks k (omega (arith, inside, length-append xs ys)) (get_or_append_left xs ys 0 k inside ∙ is)

-- where two texts together lack a byte, the second of them does
lacks_right : (c : ℕ) (xs ys : List ℕ) → Lacks c (xs ++ ys) → Lacks c ys
lacks_right c xs ys lacks k inside is = lacks (length xs + k) (omega (arith, inside, length-append xs ys))
    (get_or-append-add xs ys k 0 ∙ is)

-- a text that lacks a byte lacks it after its first byte too
lacks_tail : (c b : ℕ) (ys : List ℕ) → Lacks c (b ∷ ys) → Lacks c ys
lacks_tail c b ys lacks k inside is = lacks (suc k) (omega (arith, inside)) is

-- a prefix of a text that lacks a byte lacks it
lacks_take : (c n : ℕ) (xs : List ℕ) → Lacks c xs → Lacks c (take n xs)
lacks_take c n xs lacks k inside is =
    let len = length-take n xs in
    lacks k (omega (arith, inside, len)) (sym (get_or-take n xs k 0 (omega (arith, inside, len))) ∙ is)

-- a line without LF has none without its CR either
cr_lacks : (raw : List ℕ) → Lacks 10 raw → Lacks 10 (without_cr raw)
cr_lacks raw lacks = elim (cases_Bool (eqb (get_or raw (length raw - 1) 0) 13)) [
  | inl is ↦ let e : without_cr raw ≡ take (length raw - 1) raw = rw is refl in
      subst (Lacks 10) (sym e) (lacks_take 10 (length raw - 1) raw lacks)
  | inr off ↦ let e : without_cr raw ≡ raw = rw off refl in subst (Lacks 10) (sym e) lacks
]

-- the first line of a text has no LF
line_lacks : (text line rest : List ℕ) → IsFirstLine text line rest → Lacks 10 line
line_lacks text line rest h = subst (Lacks 10) (sym h.line_is) (cr_lacks h.raw h.no_feed)

-- a request that a text is the head of is one that a head can hold
pub request_held : (text : List ℕ) (value : Request) → IsRequestHead text value → IsRequest value
request_held text value h =
    let line = subst (Lacks 10) h.start.line_is (line_lacks text h.line h.behind h.first) in
    record {
      method = h.start.method_is;
      uri = h.start.uri_is;
      one_word = h.start.one_word;
      one_line = lacks_tail 10 32 value.uri (lacks_right 10 value.method (32 ∷ value.uri)
          (lacks_left 10 (value.method ++ 32 ∷ value.uri) (32 ∷ codes "ICAP/1.0") line));
      fields = fields_held h.behind value.fields [] h.section;
    }

-- the value of an ASCII digit is below 10
digit_small : (d : ℕ) → IsTrue (is_ascii_digit d) → digit_value d < 10
digit_small d is =
    let low : 48 ≤ d = search rules in
    let high : d ≤ 57 = search rules in
    let v = digit_value_digit d (low, high) in
    omega (arith, v, high)

-- three digits have a value below 1,000
three_small : (digits : List ℕ) (n : ℕ) → length digits ≡ 3 → All (λ b. IsTrue (is_ascii_digit b)) digits → digits_value 10 digits ≡ n
    → n < 1000
three_small (a ∷ b ∷ c ∷ []) n three all value =
    let x = digit_small a (all 0 0 (omega arith)) in
    let y = digit_small b (all 1 0 (omega arith)) in
    let z = digit_small c (all 2 0 (omega arith)) in
    omega (arith, x, y, z, value)
three_small digits n three all value = absurd (omega (arith, three))

-- a phrase has no LF where what stands after the status has none
phrase_lacks : (behind phrase : List ℕ) → ((behind ≡ []) × (phrase ≡ [])) ⊎ (behind ≡ 32 ∷ phrase) → Lacks 10 behind → Lacks 10 phrase
phrase_lacks behind phrase (inl e) lacks = subst (Lacks 10) (e.0 ∙ sym e.1) lacks
phrase_lacks behind phrase (inr e) lacks = lacks_tail 10 32 phrase (subst (Lacks 10) e lacks)

-- a response that a text is the head of is one that a head can hold
pub response_held : (text : List ℕ) (value : Response) → IsResponseHead text value → IsResponse value
response_held text value h =
    let line = subst (Lacks 10) h.start.line_is (line_lacks text h.line h.behind h.first) in
    let s = h.start.status_is in
    let status = subst (Lacks 10) s.text_is (lacks_tail 10 32 h.start.text (lacks_right 10 (codes "ICAP/1.0") (32 ∷ h.start.text) line)) in
    record {
      status = three_small s.digits value.status s.three s.all_digits s.value;
      one_line = phrase_lacks s.behind value.phrase s.phrase_is (lacks_right 10 s.digits s.behind status);
      fields = fields_held h.behind value.fields [] h.section;
    }
