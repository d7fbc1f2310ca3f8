-- No text is without a head and without a fault.
use Rattle.std.proofs.Common.{◌≡◌, ℕ, ◌<◌, ◌≤◌, ◌⊎◌, List, [], ◌∷◌, ◌++◌, length, take, map, refl, sym, ap, ◌∙◌, subst, arith, append-nil}
use Rattle.std.proofs.Common.{append_assoc, codes, inl, inr}
use Rattle.std.specs.List.{flat_map}
use Rattle.std.proofs.lemmas.Bool.{cases_eq, cases_lt}
use Rattle.std.proofs.lemmas.List.{length-map}
use Rattle.adapt_bytes.specs.Text.{Lacks}
use Rattle.httparse.specs.Grammar.{LineEnd, lf, print_end, Field as Line, print_field, print_section, ReadsSection, HasNoSection}
use Rattle.httparse.specs.Grammar.{NeverHasSection, MayBecomeSection}
use Rattle.httparse.specs.Spans.{name_and_value}
use Rattle.icap_head.specs.declared.reading.HeadFault.{HeadFault}
use Rattle.icap_head.specs.declared.reading.HeadFault.TheVariants.{StartLine, Version, Field, TooMany}
use Rattle.adapt_bytes.specs.Fields.{FieldList}
use Rattle.icap_head.specs.FieldLines.{ReadsFields, RefusesFields, HasTooMany, unended}
use Rattle.icap_head.specs.Heads.{Request, Response, HasHead, HasRequest, HasPlainResponse, StartsRequest, StartsResponse, RefusesIcapHead}
use Rattle.icap_head.specs.StartLines.{IsFirstLine, HasNoLine, RequestForm, StatusForm, without_cr}
use Rattle.icap_head.proofs.Lacking.{lacks_cons, lacks_cut, lacks_nil}
use Rattle.icap_head.proofs.Readings.{has_some_head}

-- ---- what can't fail to be so

-- it can't fail to be so
abbrev pub NotNot : Type 0 → Type 0
NotNot P = (P → ⊥) → ⊥

-- what is so can't fail to be so
pub surely : {P : Type 0} → P → NotNot P
surely p k = k p

-- what can't fail to follow from something that can't fail can't fail either
pub and_so : {P Q : Type 0} → NotNot P → (P → NotNot Q) → NotNot Q
and_so p f k = p (λ x. f x k)

-- it can't fail that something is so or isn't
pub decided : (P : Type 0) → NotNot (P ⊎ (P → ⊥))
decided P k = k (inr (λ p. k (inl p)))

-- ---- the first line

-- a text is cut at its first LF, or has none
pub first_feed : (text : List ℕ) → ((raw : List ℕ) × (rest : List ℕ) × (text ≡ raw ++ 10 ∷ rest) × Lacks 10 raw) ⊎ Lacks 10 text
first_feed [] = inr (lacks_nil 10)
first_feed (b ∷ text) = elim (cases_eq b 10) [
  | inl is ↦ inl ([], text, ap (λ c. c ∷ text) is, lacks_nil 10)
  | inr other ↦ elim (first_feed text) [
    | inl found ↦ inl (b ∷ found.0, found.1, ap (λ t. b ∷ t) found.2, lacks_cons 10 b found.0 other found.3)
    | inr none ↦ inr (lacks_cons 10 b text other none)
  ]
]

-- a text has a first line, or no line ends in it
pub first_line : (text : List ℕ) → ((line : List ℕ) × (rest : List ℕ) × IsFirstLine text line rest) ⊎ HasNoLine text
first_line text = elim (first_feed text) [
  | inl found ↦ inl (without_cr found.0, found.1, record { raw = found.0; cut = found.2; no_feed = found.3; line_is = refl })
  | inr none ↦ inr (λ line rest first. lacks_cut 10 text first.raw rest none first.cut)
]

-- ---- field lines

-- of two prefixes of a text, one is a prefix of the other
front_of : (a b x y : List ℕ) → a ++ x ≡ b ++ y → ((more : List ℕ) × (b ≡ a ++ more)) ⊎ ((more : List ℕ) × (a ≡ b ++ more))
front_of [] b x y e = inl (b, refl)
front_of (c ∷ a) [] x y e = inr (c ∷ a, refl)
front_of (c ∷ a) (d ∷ b) x y e =
    let heads : c ≡ d = cc in
    let tails : a ++ x ≡ b ++ y = cc in
    elim (front_of a b x y tails) [
      | inl longer ↦ inl (longer.0, ap (λ h. h ∷ b) (sym heads) ∙ ap (λ t. c ∷ t) longer.1)
      | inr shorter ↦ inr (shorter.0, ap (λ h. h ∷ a) heads ∙ ap (λ t. d ∷ t) shorter.1)
    ]

-- a text without a section that no bytes can complete never has one
never_section : (text : List ℕ) → HasNoSection text → (MayBecomeSection text → ⊥) → NeverHasSection text
never_section text none unable more fields last rest reads =
    let printed = print_section fields last in
    elim (front_of text printed more rest reads.1) [
      | inl longer ↦ unable (longer.0, fields, last, (reads.0, sym longer.1 ∙ sym (append-nil printed)))
      | inr shorter ↦ none fields last shorter.0 (reads.0, shorter.1)
    ]

-- more than 100 lines with an empty one after them are too many
many_lines : (text : List ℕ) (fields : List Line) (last : LineEnd) (rest : List ℕ) → ReadsSection text fields last rest
    → 100 < length fields → HasTooMany text
many_lines text fields last rest reads many =
    let front = flat_map print_field fields in (
      front,
      print_end last ++ rest,
      reads.1 ∙ append_assoc front (print_end last) rest,
      fields,
      (reads.0, sym (append-nil (front ++ print_end lf))),
      many,
    )

-- fields and an empty line, or why there are none
some_fields : (len : ℕ) (text : List ℕ)
    → NotNot (((fields : FieldList) × (rest : List ℕ) × ReadsFields text fields rest × (length fields ≤ 100))
    ⊎ ((fault : HeadFault) × RefusesFields fault len text))
some_fields len text =
    and_so (decided (HasTooMany text)) (λ many. elim many [
      | inl over ↦ surely (inr (TooMany, inr (inl (refl, over))))
      | inr few ↦ and_so (decided ((fields : List Line) × (last : LineEnd) × (rest : List ℕ) × ReadsSection text fields last rest))
          (λ found. elim found [
            | inl section ↦ surely (inl (whole few section.0 section.1 section.2 section.3))
            | inr none ↦ and_so (decided (MayBecomeSection text)) (λ open_end. elim open_end [
              | inl may ↦ surely (inr (
                unended len,
                inr (inr (refl, (λ fields last rest reads. none (fields, last, rest, reads), may), few)),
              ))
              | inr unable ↦ surely (inr (
                Field,
                inl (
                  refl,
                  never_section text (λ fields last rest reads. none (fields, last, rest, reads)) unable,
                  few,
                ),
              ))
            ])
          ])
    ])
  where
    whole : (HasTooMany text → ⊥) → (fields : List Line) (last : LineEnd) (rest : List ℕ) → ReadsSection text fields last rest
        → (parts : FieldList) × (left : List ℕ) × ReadsFields text parts left × (length parts ≤ 100)
    whole few fields last rest reads =
        let n = length-map fields name_and_value in
        elim (cases_lt 100 (length fields)) [
          | inl many ↦ absurd (few (many_lines text fields last rest reads many))
          | inr fits ↦ (map name_and_value fields, rest, (fields, last, reads, refl), omega (arith, n))
        ]

-- ---- heads

-- a head with a line of the form, or why there is none
pub some_head : (Form : List ℕ → List ℕ → Type 0) (text : List ℕ)
    → NotNot (((line : List ℕ) × (fields : FieldList) × (size : ℕ) × Form (codes "ICAP/1.0") line
    × HasHead (λ l. l ≡ line) text fields size)
    ⊎ ((fault : HeadFault) × RefusesIcapHead Form fault text))
some_head Form text = elim (first_line (take 16384 text)) [
  | inr none ↦ surely (inr (unended (length text), inl (refl, none)))
  | inl found ↦ with found.0 found.1 found.2
]
  where
    with : (line behind : List ℕ) → IsFirstLine (take 16384 text) line behind
        → NotNot (((line : List ℕ) × (fields : FieldList) × (size : ℕ) × Form (codes "ICAP/1.0") line
        × HasHead (λ l. l ≡ line) text fields size)
        ⊎ ((fault : HeadFault) × RefusesIcapHead Form fault text))
    with line behind first = and_so (decided (Form (codes "ICAP/1.0") line)) (λ formed. elim formed [
      | inl form ↦ and_so (some_fields (length text) behind) (λ fields. elim fields [
        | inl h ↦ let n = has_some_head (λ l. l ≡ line) text line behind h.0 h.1 first refl h.2 h.3 in
            surely (inl (line, h.0, n.0, form, n.1))
        | inr s ↦ surely (inr (s.0, inr (line, behind, first, inr (form, s.1))))
      ])
      | inr other ↦ and_so (decided ((version : List ℕ) × Form version line)) (λ some. elim some [
        | inl v ↦ surely (inr (
          Version,
          inr (
            line,
            behind,
            first,
            inl (inr (refl, (v.0, v.1, λ same. other (subst (λ w. Form w line) same v.1)))),
          ),
        ))
        | inr none ↦ surely (inr (StartLine, inr (line, behind, first, inl (inl (refl, λ version form. none (version, form))))))
      ])
    ])

-- a head stands with another test of its start line that passes wherever the first one does
started : (S T : List ℕ → Type 0) (text : List ℕ) (fields : FieldList) (size : ℕ) → ((line : List ℕ) → S line → T line)
    → HasHead S text fields size → HasHead T text fields size
started S T text fields size all h = record {
  inside = h.inside;
  within = h.within;
  few = h.few;
  head = record {
    line = h.head.line;
    behind = h.head.behind;
    first = h.head.first;
    start = all h.head.line h.head.start;
    section = h.head.section;
  };
}

-- a request's head, or why there is none
pub some_request : (text : List ℕ) → NotNot (((value : Request) × (size : ℕ) × HasRequest text value size)
    ⊎ ((fault : HeadFault) × RefusesIcapHead RequestForm fault text))
some_request text = and_so (some_head RequestForm text) (λ found. elim found [
  | inl (line, fields, size, (method, uri, is), has) ↦
      let value : Request = record { method = method; uri = uri; fields = fields } in
      surely (inl (
        value,
        size,
        started (λ l. l ≡ line) (StartsRequest value) text fields size
            (λ l e. subst (StartsRequest value) (sym e) is) has,
      ))
  | inr stands ↦ surely (inr stands)
])

-- a response's head, or why there is none
pub some_response : (text : List ℕ) → NotNot (((value : Response) × (size : ℕ) × HasPlainResponse text value size)
    ⊎ ((fault : HeadFault) × RefusesIcapHead StatusForm fault text))
some_response text = and_so (some_head StatusForm text) (λ found. elim found [
  | inl (line, fields, size, (status, phrase, is), has) ↦
      let value : Response = record { status = status; phrase = phrase; fields = fields } in
      surely (inl (
        value,
        size,
        started (λ l. l ≡ line) (StartsResponse value) text fields size
            (λ l e. subst (StartsResponse value) (sym e) is) has,
      ))
  | inr stands ↦ surely (inr stands)
])
