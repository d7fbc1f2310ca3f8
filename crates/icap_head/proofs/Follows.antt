-- What follows a head or a fault changes nothing, and each cut of a head is its beginning.
use Rattle.std.proofs.Common.{◌≡◌, ◌≢◌, ℕ, ◌<◌, ◌≤◌, ◌⊎◌, inl, inr, List, [], ◌∷◌, ◌++◌, length, take, drop, refl, sym, ap, ◌∙◌, subst}
use Rattle.std.proofs.Common.{arith, rules, append_assoc, take-append-drop, length-append, length-drop, length-take, length-take-le, codes}
use Rattle.std.proofs.Common.{nat_lt, true, false}
use Rattle.std.proofs.lemmas.Bool.{cases_lt}
use Rattle.std.proofs.lemmas.List.{take_all, take-append-le, take-take, length-map, get_or_append_left, append_cancel_left}
use Rattle.adapt_bytes.specs.Text.{Lacks}
use Rattle.httparse.specs.Spans.{name_and_value}
use Rattle.httparse.proofs.GrammarLemmas.{section_unique, ReadsSection-append}
use Rattle.icap_head.specs.declared.reading.HeadFault.{HeadFault}
use Rattle.icap_head.specs.declared.reading.HeadFault.TheVariants.{More, TooLong}
use Rattle.adapt_bytes.specs.Fields.{FieldList}
use Rattle.icap_head.specs.FieldLines.{ReadsFields, RefusesFields, HasTooMany, IsOpen, unended}
use Rattle.icap_head.specs.Heads.{HasHead, RefusesIcapHead}
use Rattle.icap_head.specs.StartLines.{IsFirstLine, HasNoLine, RefusesStartLine}
use Rattle.icap_head.proofs.FieldFaults.{never-append}
use Rattle.icap_head.proofs.Lacking.{lacks_cut}
use Rattle.icap_head.proofs.Readings.{first-append}
use Rattle.icap_head.proofs.Sections.{section_few, too_many-append, never_too_many, longer_front}

-- a head without its end in fewer than 16,384 bytes wants more
pub unended_short : (len : ℕ) → len < 16384 → unended len ≡ More
unended_short len less = let is : nat_lt len 16384 ≡ true = search rules in rw is refl

-- a head without its end in 16,384 bytes or more is too long
pub unended_long : (len : ℕ) → 16384 ≤ len → unended len ≡ TooLong
unended_long len most = let is : nat_lt len 16384 ≡ false = search rules in rw is refl

-- ---- faults

-- a fault of the fields in a short text, but for More, stands with whatever bytes after them
fields_fault_stays : (fault : HeadFault) (len len₂ : ℕ) (behind extra : List ℕ) → len < 16384 → fault ≢ More
    → RefusesFields fault len behind → RefusesFields fault len₂ (behind ++ extra)
fields_fault_stays fault len len₂ behind extra short other (inl s) =
    inl (s.0, never-append behind extra s.1, never_too_many behind extra s.1 s.2)
fields_fault_stays fault len len₂ behind extra short other (inr (inl s)) = inr (inl (s.0, too_many-append behind extra s.1))
fields_fault_stays fault len len₂ behind extra short other (inr (inr s)) = absurd (other (s.0 ∙ unended_short len short))

-- a fault but More of a text below 16,384 bytes stands whatever bytes follow
short_stays : (Form : List ℕ → List ℕ → Type 0) (fault : HeadFault) (text more extra : List ℕ) → length text < 16384
    → take 16384 (text ++ more) ≡ take 16384 text ++ extra
    → fault ≢ More → RefusesIcapHead Form fault text → RefusesIcapHead Form fault (text ++ more)
short_stays Form fault text more extra short e other (inl s) = absurd (other (s.0 ∙ unended_short (length text) short))
short_stays Form fault text more extra short e other (inr (line, behind, first, s)) =
    inr (
      line,
      behind ++ extra,
      subst (λ t. IsFirstLine t line (behind ++ extra)) (sym e)
          (first-append (take 16384 text) extra line behind first),
      with s,
    )
  where
    with : RefusesStartLine Form fault line ⊎ (Form (codes "ICAP/1.0") line × RefusesFields fault (length text) behind)
        → RefusesStartLine Form fault line ⊎ (Form (codes "ICAP/1.0") line × RefusesFields fault (length (text ++ more)) (behind ++ extra))
    with (inl bad) = inl bad
    with (inr bad) = inr (bad.0, fields_fault_stays fault (length text) (length (text ++ more)) behind extra short other bad.1)

-- a fault of a text of 16,384 bytes or more stands whatever bytes follow
long_stays : (Form : List ℕ → List ℕ → Type 0) (fault : HeadFault) (text more : List ℕ) → 16384 ≤ length text
    → RefusesIcapHead Form fault text → RefusesIcapHead Form fault (text ++ more)
long_stays Form fault text more long s =
    let judged : take 16384 text ≡ take 16384 (text ++ more) = sym (take-append-le 16384 text more long) in
    let len = length-append text more in
    let same : unended (length text) ≡ unended (length (text ++ more)) =
    unended_long (length text) long ∙ sym (unended_long (length (text ++ more)) (omega (arith, len))) in
    at judged same s
  where
    at : take 16384 text ≡ take 16384 (text ++ more) → unended (length text) ≡ unended (length (text ++ more))
        → RefusesIcapHead Form fault text → RefusesIcapHead Form fault (text ++ more)
    at judged same (inl t) = inl (t.0 ∙ same, subst HasNoLine judged t.1)
    at judged same (inr (line, behind, first, inl bad)) = inr (line, behind, subst (λ t. IsFirstLine t line behind) judged first, inl bad)
    at judged same (inr (line, behind, first, inr (form, inl bad))) =
        inr (line, behind, subst (λ t. IsFirstLine t line behind) judged first, inr (form, inl bad))
    at judged same (inr (line, behind, first, inr (form, inr (inl bad)))) =
        inr (line, behind, subst (λ t. IsFirstLine t line behind) judged first, inr (form, inr (inl bad)))
    at judged same (inr (line, behind, first, inr (form, inr (inr bad)))) =
        inr (line, behind, subst (λ t. IsFirstLine t line behind) judged first, inr (form, inr (inr (bad.0 ∙ same, bad.1, bad.2))))

-- a fault but More stands whatever follows
pub fault_stays : (Form : List ℕ → List ℕ → Type 0) (fault : HeadFault) (text more : List ℕ) → fault ≢ More
    → RefusesIcapHead Form fault text → RefusesIcapHead Form fault (text ++ more)
fault_stays Form fault text more other s =
    elim (cases_lt (length text) 16384) [
      | inl short ↦
          let whole = take 16384 (text ++ more) in
          let len = length-append text more in
          let cut = length-take 16384 (text ++ more) in
          let fits : length text ≤ length whole = omega (arith, len, cut, short) in
          let front = longer_front whole (drop 16384 (text ++ more)) text more (take-append-drop 16384 (text ++ more)) fits in
          short_stays Form fault text more front.0 short (front.1 ∙ ap (λ t. t ++ front.0)
          (sym (take_all 16384 text (omega (arith, short))))) other s
      | inr long ↦ long_stays Form fault text more long s
    ]

-- ---- the beginnings of a head

-- a prefix of a text that lacks a byte lacks it
lacks_front : (c : ℕ) (front text : List ℕ) → Lacks c (front ++ text) → Lacks c front
lacks_front c front text lacks k inside is = lacks k (omega (arith, inside, length-append front text))
    (get_or_append_left front text 0 k inside ∙ is)

-- of a head's lines, a proper prefix is unfinished
front_of_fields : (behind tail : List ℕ) (fields : FieldList) → ReadsFields (behind ++ tail) fields [] → length fields ≤ 100
    → 0 < length tail → IsOpen behind × ¬ (HasTooMany behind)
front_of_fields behind tail fields r few pos = (
  (
    λ lines last rest s.
        let both = section_unique (behind ++ tail) lines r.0 last r.1 (rest ++ tail) [] (ReadsSection-append behind lines last rest tail s)
        r.2 in
        let len = ap length both.2 in
        let sum = length-append rest tail in
        omega (arith, len, sum, pos),
    (tail, r.0, r.1, r.2),
  ),
  λ many.
      let n = ap length r.3 in
      section_few (behind ++ tail) r.0 r.1 [] r.2 (omega (arith, n, few, length-map r.0 name_and_value)) (too_many-append behind tail many),
)

-- the first n bytes of a head, n being less than its length, are its beginning
pub front_is_more : (Form : List ℕ → List ℕ → Type 0) (S : List ℕ → Type 0) → ((line : List ℕ) → S line → Form (codes "ICAP/1.0") line)
    → (text : List ℕ) (fields : FieldList) (size n : ℕ) → HasHead S text fields size → n < size → RefusesIcapHead Form More (take n text)
front_is_more Form S forms text fields size n h less =
    let inside = h.inside in
    let within = h.within in
    let part = take n text in
    let whole = take size text in
    let len : length part ≡ n = length-take-le n text (omega (arith, inside, less)) in
    let size_is : length whole ≡ size = length-take-le size text inside in
    let judged : part ≡ take 16384 part = sym (take_all 16384 part (omega (arith, len, less, within))) in
    let fault : More ≡ unended (length part) = sym (unended_short (length part) (omega (arith, len, less, within))) in
    let tail = drop n whole in
    let tail_size = length-drop n whole in
    let cut : part ++ tail ≡ whole = ap (λ t. t ++ tail) (sym (take-take n size text (omega (arith, less)))) ∙ take-append-drop n whole in
    let raw = h.head.first.raw in
    elim (cases_lt (length raw) n) [
      | inl past ↦
          let first = longer_front part tail (raw ++ 10 ∷ []) h.head.behind
          (cut ∙ h.head.first.cut ∙ sym (append_assoc raw (10 ∷ []) h.head.behind))
          (omega (arith, past, len, length-append raw (10 ∷ []))) in
          let part_is : part ≡ raw ++ 10 ∷ first.0 = first.1 ∙ append_assoc raw (10 ∷ []) first.0 in
          let behind : h.head.behind ≡ first.0 ++ tail =
          append_cancel_left (raw ++ 10 ∷ []) h.head.behind (first.0 ++ tail)
          (append_assoc raw (10 ∷ []) h.head.behind ∙ sym h.head.first.cut ∙ sym cut ∙ ap (λ t. t ++ tail) first.1
          ∙ append_assoc (raw ++ 10 ∷ []) first.0 tail) in
          let unfinished = front_of_fields first.0 tail fields (subst (λ t. ReadsFields t fields []) behind h.head.section) h.few
          (omega (arith, tail_size, size_is, less)) in
          inr (
            h.head.line,
            first.0,
            subst (λ t. IsFirstLine t h.head.line first.0) judged (record
                { raw = raw; cut = part_is; no_feed = h.head.first.no_feed; line_is = h.head.first.line_is }),
            inr (forms h.head.line h.head.start, inr (inr (fault, unfinished.0, unfinished.1))),
          )
      | inr before ↦
          let front = longer_front raw (10 ∷ h.head.behind) part tail (sym h.head.first.cut ∙ sym cut) (omega (arith, before, len)) in
          let lacks : Lacks 10 part = lacks_front 10 part front.0 (subst (Lacks 10) front.1 h.head.first.no_feed) in
          inl (fault, subst HasNoLine judged (λ line rest f. lacks_cut 10 part f.raw rest lacks f.cut))
    ]
