-- A text has one reading as a head, and where it has one no fault stands.
use Rattle.std.proofs.Common.{take_all, ◌≡◌, ℕ, ◌≤◌, List, [], ◌∷◌, ◌++◌, length, take, drop, map, refl, sym, ap, ◌∙◌, subst, arith}
use Rattle.std.proofs.Common.{append-nil, append_assoc, take-append-drop, length-append, length-drop, length-take, codes, ◌⊎◌, inl, inr}
use Rattle.std.proofs.lemmas.List.{append_cancel_right, take-take, drop_at, length-map, take-append-le}
use Rattle.httparse.specs.Grammar.{ReadsSection, NeverHasSection, print_section}
use Rattle.httparse.specs.Spans.{name_and_value}
use Rattle.httparse.proofs.GrammarLemmas.{section_unique}
use Rattle.icap_head.specs.declared.reading.HeadFault.{HeadFault}
use Rattle.adapt_bytes.specs.Fields.{FieldList}
use Rattle.icap_head.specs.FieldLines.{ReadsFields, RefusesFields, IsOpen}
use Rattle.icap_head.specs.Heads.{ReadsHead, HasHead, RefusesIcapHead}
use Rattle.icap_head.specs.StartLines.{IsFirstLine, RefusesStartLine}
use Rattle.icap_head.proofs.FieldFaults.{fields-append}
use Rattle.icap_head.proofs.Sections.{section_few}
use Rattle.icap_head.proofs.Words.{first_unique}

-- a text is read as one list of fields only, with one rest after them
pub fields_unique : (text : List ℕ) (p q : FieldList) (a b : List ℕ) → ReadsFields text p a → ReadsFields text q b → (p ≡ q) × (a ≡ b)
fields_unique text p q a b x y =
    let same = section_unique text x.0 y.0 x.1 y.1 a b x.2 y.2 in
    (sym x.3 ∙ ap (map name_and_value) same.0 ∙ y.3, same.2)

-- ---- a head at the beginning, and in longer texts

-- the first line of a text is that of a longer one, and what is added comes after the rest
pub first-append : (text more line rest : List ℕ) → IsFirstLine text line rest → IsFirstLine (text ++ more) line (rest ++ more)
first-append text more line rest h = record {
  raw = h.raw;
  cut = ap (λ t. t ++ more) h.cut ∙ append_assoc h.raw (10 ∷ rest) more;
  no_feed = h.no_feed;
  line_is = h.line_is;
}

-- a head that a text begins with is one of a longer text too, and what is added comes after the rest
pub head-append : (S : List ℕ → Type 0) (text more : List ℕ) (fields : FieldList) (rest : List ℕ) → ReadsHead S text fields rest
    → ReadsHead S (text ++ more) fields (rest ++ more)
head-append S text more fields rest h = record {
  line = h.line;
  behind = h.behind ++ more;
  first = first-append text more h.line h.behind h.first;
  start = h.start;
  section = fields-append h.behind more fields rest h.section;
}

-- the prefix that a head takes is a head with nothing after it
head_front : (S : List ℕ → Type 0) (text : List ℕ) (fields : FieldList) (n : ℕ) → ReadsHead S text fields (drop n text)
    → ReadsHead S (take n text) fields []
head_front S text fields n h =
    let printed = print_section h.section.0 h.section.1 in
    let raw = h.first.raw in
    let whole : take n text ++ drop n text ≡ (raw ++ 10 ∷ printed) ++ drop n text =
    take-append-drop n text ∙ h.first.cut ∙ ap (λ t. raw ++ 10 ∷ t) h.section.2.1 ∙ sym (append_assoc raw (10 ∷ printed) (drop n text)) in
    record {
      line = h.line;
      behind = printed;
      first = record {
        raw = raw;
        cut = append_cancel_right (take n text) (raw ++ 10 ∷ printed) (drop n text) whole;
        no_feed = h.first.no_feed;
        line_is = h.first.line_is;
      };
      start = h.start;
      section = (h.section.0, h.section.1, (h.section.2.0, sym (append-nil printed)), h.section.3);
    }

-- a head within the judged bytes is a head of the text
pub has_head : (S : List ℕ → Type 0) (text line behind : List ℕ) (fields : FieldList) (n : ℕ) → n ≤ length (take 16384 text)
    → IsFirstLine (take 16384 text) line behind → S line → ReadsFields behind fields (drop n (take 16384 text)) → length fields ≤ 100
    → HasHead S text fields n
has_head S text line behind fields n inside first good section few =
    let len = length-take 16384 text in
    let within : n ≤ 16384 = omega (arith, len) in
    record {
      inside = omega (arith, len);
      within = within;
      few = few;
      head = subst (λ t. ReadsHead S t fields []) (take-take n 16384 text within)
          (head_front S (take 16384 text) fields n (record {
            line = line;
            behind = behind;
            first = first;
            start = good;
            section = section;
          }));
    }

-- the same with the length that is left
pub has_some_head : (S : List ℕ → Type 0) (text line behind : List ℕ) (fields : FieldList) (rest : List ℕ)
    → IsFirstLine (take 16384 text) line behind → S line → ReadsFields behind fields rest → length fields ≤ 100
    → (n : ℕ) × HasHead S text fields n
has_some_head S text line behind fields rest first good section few =
    let judged = take 16384 text in
    let front = first.raw ++ 10 ∷ print_section section.0 section.1 in
    let whole : judged ≡ front ++ rest = first.cut ∙ ap (λ t. first.raw ++ 10 ∷ t) section.2.1
    ∙ sym (append_assoc first.raw (10 ∷ print_section section.0 section.1) rest) in
    let n = length front in
    let len = ap length whole in
    let behind_is : rest ≡ drop n judged = sym (ap (drop n) whole ∙ drop_at front rest n refl) in (
      n,
      has_head S text line behind fields n (omega (arith, len, length-append front rest)) first good
          (subst (ReadsFields behind fields) behind_is section) few,
    )

-- and the other way round
pub head_reads : (S : List ℕ → Type 0) (text : List ℕ) (fields : FieldList) (n : ℕ) → HasHead S text fields n
    → ReadsHead S (take 16384 text) fields (drop n (take 16384 text))
head_reads S text fields n h =
    let judged = take 16384 text in
    subst (λ t. ReadsHead S t fields (drop n judged)) (ap (λ t. t ++ drop n judged) (sym (take-take n 16384 text h.within))
    ∙ take-append-drop n judged)
    (head-append S (take n text) (drop n judged) fields [] h.head)

-- the length is known by what is left
same_length : (text : List ℕ) (n m : ℕ) → n ≤ length text → m ≤ length text → drop n text ≡ drop m text → n ≡ m
same_length text n m a b e = let l = ap length e in omega (arith, l, length-drop n text, length-drop m text)

-- an end within a text and within the limit lies within the judged bytes
judged_length : (text : List ℕ) (n : ℕ) → n ≤ length text → n ≤ 16384 → n ≤ length (take 16384 text)
judged_length text n a b = let len = length-take 16384 text in omega (arith, len)

-- two heads at the beginning of a text are of one line, one list of fields and one length
pub head_unique : (S T : List ℕ → Type 0) (text : List ℕ) (p q : FieldList) (n m : ℕ) → HasHead S text p n → HasHead T text q m
    → ((line : List ℕ) × S line × T line) × (p ≡ q) × (n ≡ m)
head_unique S T text p q n m h g =
    let x = head_reads S text p n h in
    let y = head_reads T text q m g in
    let judged = take 16384 text in
    let first = first_unique judged x.line x.behind y.line y.behind x.first y.first in
    let fields = fields_unique y.behind p q (drop n judged) (drop m judged) (subst (λ t. ReadsFields t p (drop n judged)) first.1 x.section)
    y.section in (
      (y.line, subst S first.0 x.start, y.start),
      fields.0,
      same_length judged n m (judged_length text n h.inside h.within) (judged_length text m g.inside g.within) fields.1,
    )

-- ---- faults exclude heads and one another

-- at most 100 fields that are read have no fault
pub no_fields_fault : (fault : HeadFault) (len : ℕ) (behind rest : List ℕ) (fields : FieldList) → ReadsFields behind fields rest
    → length fields ≤ 100 → RefusesFields fault len behind → ⊥
no_fields_fault fault len behind rest fields h few (inl s) =
    s.1 [] h.0 h.1 rest (subst (λ t. ReadsSection t h.0 h.1 rest) (sym (append-nil behind)) h.2)
no_fields_fault fault len behind rest fields h few (inr (inl s)) =
    let n = ap length h.3 in
    section_few behind h.0 h.1 rest h.2 (omega (arith, n, length-map h.0 name_and_value)) s.1
no_fields_fault fault len behind rest fields h few (inr (inr s)) = s.1.0 h.0 h.1 rest h.2

-- a line has a form for one version
abbrev pub OneVersion : (List ℕ → List ℕ → Type 0) → Type 0
OneVersion Form = (line v w : List ℕ) → Form v line → Form w line → v ≡ w

-- a line with the form for ICAP/1.0, and for one version only, isn't refused as a start line
no_line_fault : (Form : List ℕ → List ℕ → Type 0) → OneVersion Form → (fault : HeadFault) (line : List ℕ) → Form (codes "ICAP/1.0") line
    → RefusesStartLine Form fault line → ⊥
no_line_fault Form one fault line form (inl s) = s.1 (codes "ICAP/1.0") form
no_line_fault Form one fault line form (inr s) = s.1.2 (one line s.1.0 (codes "ICAP/1.0") s.1.1 form)

-- a text that begins with a head of the form has no fault, where a line has the form for one version
pub no_fault : (Form : List ℕ → List ℕ → Type 0) → OneVersion Form → (S : List ℕ → Type 0)
    → ((line : List ℕ) → S line → Form (codes "ICAP/1.0") line)
    → (fault : HeadFault) (text : List ℕ) (fields : FieldList) (n : ℕ) → HasHead S text fields n → RefusesIcapHead Form fault text → ⊥
no_fault Form one S forms fault text fields n h (inl s) = let x = head_reads S text fields n h in s.1 x.line x.behind x.first
no_fault Form one S forms fault text fields n h (inr (line, behind, first, s)) =
    let x = head_reads S text fields n h in
    let same = first_unique (take 16384 text) line behind x.line x.behind first x.first in
    elim s [
      | inl bad ↦ no_line_fault Form one fault x.line (forms x.line x.start) (subst (RefusesStartLine Form fault) same.0 bad)
      | inr bad ↦ no_fields_fault fault (length text) x.behind (drop n (take 16384 text)) fields x.section h.few
          (subst (RefusesFields fault (length text)) same.1 bad.1)
    ]

-- a start line is refused for one fault only
one_line_fault : (Form : List ℕ → List ℕ → Type 0) (f g : HeadFault) (line : List ℕ) → RefusesStartLine Form f line
    → RefusesStartLine Form g line → f ≡ g
one_line_fault Form f g line (inl a) (inl b) = a.0 ∙ sym b.0
one_line_fault Form f g line (inl a) (inr b) = absurd (a.1 b.1.0 b.1.1)
one_line_fault Form f g line (inr a) (inl b) = absurd (b.1 a.1.0 a.1.1)
one_line_fault Form f g line (inr a) (inr b) = a.0 ∙ sym b.0

-- a text that nothing makes a section isn't open
open_or_never : (text : List ℕ) → NeverHasSection text → IsOpen text → ⊥
open_or_never text never unfinished = never unfinished.1.0 unfinished.1.1 unfinished.1.2 [] unfinished.1.3

-- the fields of a text are refused for one fault only
pub one_fields_fault : (f g : HeadFault) (len : ℕ) (text : List ℕ) → RefusesFields f len text → RefusesFields g len text → f ≡ g
one_fields_fault f g len text (inl a) (inl b) = a.0 ∙ sym b.0
one_fields_fault f g len text (inl a) (inr (inl b)) = absurd (a.2 b.1)
one_fields_fault f g len text (inl a) (inr (inr b)) = absurd (open_or_never text a.1 b.1)
one_fields_fault f g len text (inr (inl a)) (inl b) = absurd (b.2 a.1)
one_fields_fault f g len text (inr (inl a)) (inr (inl b)) = a.0 ∙ sym b.0
one_fields_fault f g len text (inr (inl a)) (inr (inr b)) = absurd (b.2 a.1)
one_fields_fault f g len text (inr (inr a)) (inl b) = absurd (open_or_never text b.1 a.1)
one_fields_fault f g len text (inr (inr a)) (inr (inl b)) = absurd (a.2 b.1)
one_fields_fault f g len text (inr (inr a)) (inr (inr b)) = a.0 ∙ sym b.0

-- a text is refused as a head for one fault only, where a line has the form for one version
pub one_fault : (Form : List ℕ → List ℕ → Type 0) → OneVersion Form → (f g : HeadFault) (text : List ℕ) → RefusesIcapHead Form f text
    → RefusesIcapHead Form g text → f ≡ g
one_fault Form one f g text (inl a) (inl b) = a.0 ∙ sym b.0
one_fault Form one f g text (inl a) (inr (line, behind, first, s)) = absurd (a.1 line behind first)
one_fault Form one f g text (inr (line, behind, first, s)) (inl b) = absurd (b.1 line behind first)
one_fault Form one f g text (inr (line, behind, first, s)) (inr (line₂, behind₂, first₂, s₂)) =
    let same = first_unique (take 16384 text) line behind line₂ behind₂ first first₂ in
    both s s₂ same.0 same.1
  where
    both : RefusesStartLine Form f line ⊎ (Form (codes "ICAP/1.0") line × RefusesFields f (length text) behind)
        → RefusesStartLine Form g line₂ ⊎ (Form (codes "ICAP/1.0") line₂ × RefusesFields g (length text) behind₂) → line ≡ line₂
        → behind ≡ behind₂ → f ≡ g
    both (inl x) (inl y) l r = one_line_fault Form f g line₂ (subst (RefusesStartLine Form f) l x) y
    both (inl x) (inr y) l r = absurd (no_line_fault Form one f line₂ y.0 (subst (RefusesStartLine Form f) l x))
    both (inr x) (inl y) l r = absurd (no_line_fault Form one g line₂ (subst (Form (codes "ICAP/1.0")) l x.0) y)
    both (inr x) (inr y) l r = one_fields_fault f g (length text) behind₂ (subst (RefusesFields f (length text)) r x.1) y.1

-- ---- what follows changes nothing

-- a text that begins with a head does so, with the same length, with more bytes after it
pub has_head-append : (S : List ℕ → Type 0) (text more : List ℕ) (fields : FieldList) (n : ℕ) → HasHead S text fields n
    → HasHead S (text ++ more) fields n
has_head-append S text more fields n h = record {
  inside = let l = h.inside in omega (arith, l, length-append text more);
  within = h.within;
  few = h.few;
  head = subst (λ t. ReadsHead S t fields []) (sym (take-append-le n text more h.inside)) h.head;
}

-- a text that is a head within the limits is found, whatever follows
pub has_all : (S : List ℕ → Type 0) (text more : List ℕ) (fields : FieldList) → length fields ≤ 100 → length text ≤ 16384
    → ReadsHead S text fields []
    → HasHead S (text ++ more) fields (length text)
has_all S text more fields few short head = has_head-append S text more fields (length text) (record {
  inside = omega arith;
  within = short;
  few = few;
  head = subst (λ t. ReadsHead S t fields []) (sym (take_all (length text) text (omega arith))) head;
})
