-- From the lines that `httparse` is shown to the whole text after the start line.
use Rattle.std.proofs.Common.{◌≡◌, ℕ, zero, suc, get_or, length-drop, length-append, ◌-◌, ◌+◌, ◌<◌, ◌≤◌, inl, inr, List, [], ◌∷◌, ◌++◌}
use Rattle.std.proofs.Common.{length, take, drop, refl, sym, ap, ◌∙◌, subst, arith, append_assoc, take-append-drop, length-take-le, Result}
use Rattle.std.proofs.Common.{Ok, Err, IfOk, IfErr, map, length-take}
use Rattle.std.proofs.lemmas.List.{drop-append-le, take_more, length-map}
use Rattle.httparse.specs.Grammar.{ReadsSection, NeverHasSection}
use Rattle.httparse.specs.Spans.{IsSectionOf, name_and_value, header_bytes}
use Rattle.httparse.specs.declared.spans.HeaderSpan.{HeaderSpan}
use Rattle.httparse.proofs.GrammarLemmas.{ReadsSection-append}
use Rattle.icap_head.specs.declared.reading.HeadFault.{HeadFault}
use Rattle.icap_head.specs.declared.reading.HeadFault.TheVariants.{TooMany}
use Rattle.adapt_bytes.specs.Fields.{FieldList}
use Rattle.icap_head.specs.FieldLines.{ReadsFields, HasFields, HasTooMany, RefusesFieldLines, RefusesFields, unended, line_count}
use Rattle.icap_head.proofs.Sections.{open_too_many, too_many_count, too_many-append, never_too_many, ends_too_many}

-- what follows from what holds of a result's fault holds of that fault too
pub err_map : {A E : Type 0} {P Q : E → Type 0} (r : Result A E) → ((e : E) → P e → Q e) → IfErr r P → IfErr r Q
err_map (Ok a) f h = h
err_map (Err e) f h = f e h

-- what follows from what holds of a result's value holds of that value too
pub ok_map : {A E : Type 0} {P Q : A → Type 0} (r : Result A E) → ((a : A) → P a → Q a) → IfOk r P → IfOk r Q
ok_map (Ok a) f h = f a h
ok_map (Err e) f h = h

-- the fields of a text are read in a longer one too, and what is added comes after the rest
pub fields-append : (text more : List ℕ) (fields : FieldList) (rest : List ℕ) → ReadsFields text fields rest
    → ReadsFields (text ++ more) fields (rest ++ more)
fields-append text more fields rest r = (r.0, r.1, ReadsSection-append text r.0 r.1 rest more r.2, r.3)

-- where nothing makes a text a section, nothing makes it one with more bytes after it either
pub never-append : (text more : List ℕ) → NeverHasSection text → NeverHasSection (text ++ more)
never-append text more never again fields last rest r =
    never (more ++ again) fields last rest (subst (λ t. ReadsSection t fields last rest) (append_assoc text more again) r)

-- a text that begins with at most 100 fields does so with more bytes after it
pub has_fields-append : (text more : List ℕ) → HasFields text → HasFields (text ++ more)
has_fields-append text more h = (h.0, h.1 ++ more, fields-append text more h.0 h.1 h.2, h.3)

-- a text that nothing makes a section has no fields
pub no_fields : (text : List ℕ) → NeverHasSection text → ¬ (HasFields text)
no_fields text never has = never [] has.2.0 has.2.1 (has.1 ++ []) (ReadsSection-append text has.2.0 has.2.1 has.1 [] has.2.2)

-- fields that were read into at most 100 places
pub counted_fields : (seen : List ℕ) (start : ℕ) (places : List HeaderSpan) (len count : ℕ) → length places ≤ 100
    → IsSectionOf seen start places (len, count) → HasFields (drop start seen)
counted_fields seen start places len count few of =
    let e = ap length of.2.fields_are in (
      map name_and_value of.0,
      drop len seen,
      (of.0, of.1, of.2.reads, refl),
      omega (arith, e, few, length-map (take count places) (header_bytes seen), length-take count places),
    )

-- the faults of a text whose 101st line is its last, in a longer text
pub cut_fault : (fault : HeadFault) (len : ℕ) (text more init : List ℕ) → text ≡ init ++ 10 ∷ [] → line_count text ≡ 101
    → RefusesFieldLines fault TooMany text → RefusesFields fault len (text ++ more)
cut_fault fault len text more init ends count (inl h) =
    inl (h.0, never-append text more h.1, never_too_many text more h.1 (ends_too_many text init ends count h.1))
cut_fault fault len text more init ends count (inr (inl h)) = inr (inl (h.0, too_many-append text more h.1))
cut_fault fault len text more init ends count (inr (inr h)) =
    inr (inl (h.0, too_many-append text more (open_too_many text h.1 (omega (arith, count)))))

-- the text after an offset is cut at a later one
split : (seen : List ℕ) (start end : ℕ) → end ≤ length (drop start seen) → start ≤ length seen
    → drop start seen ≡ drop start (take (start + end) seen) ++ drop (start + end) seen
split seen start end fits in_seen =
    let n = length-take-le (start + end) seen (omega (arith, length-drop start seen)) in
    ap (drop start) (sym (take-append-drop (start + end) seen)) ∙ drop-append-le start (take (start + end) seen) (drop (start + end) seen)
    (omega (arith, n))

-- a prefix of an empty text is empty
take_nothing : (n : ℕ) (text : List ℕ) → text ≡ [] → [] ≡ take n text
take_nothing zero text e = refl
take_nothing (suc n) text e = rw e refl

-- the bytes from an offset to an end are the same whether those before or those after are cut off first
drop_take : (seen : List ℕ) (start end : ℕ) → drop start (take (start + end) seen) ≡ take end (drop start seen)
drop_take seen zero end = let e : 0 + end ≡ end = omega arith in ap (λ k. take k seen) e
drop_take [] (suc start) end = let e : suc start + end ≡ suc (start + end) = omega arith in
    ap (λ k. drop (suc start) (take k [])) e ∙ take_nothing end [] refl
drop_take (b ∷ seen) (suc start) end = let e : suc start + end ≡ suc (start + end) = omega arith in
    ap (λ k. drop (suc start) (take k (b ∷ seen))) e ∙ drop_take seen start end

-- a fault of 101 lines that end in LF is one of the whole text after the offset
pub cut_stands : (fault : HeadFault) (len : ℕ) (seen : List ℕ) (start end : ℕ) → start ≤ length seen → 0 < end
    → end ≤ length (drop start seen)
    → line_count (take end (drop start seen)) ≡ 101 → get_or (drop start seen) (end - 1) 0 ≡ 10
    → RefusesFieldLines fault TooMany (drop start (take (start + end) seen)) → RefusesFields fault len (drop start seen)
cut_stands fault len seen start end in_seen pos fits count is h =
    let text = take end (drop start seen) in
    let init = take (end - 1) (drop start seen) in
    let back : end - 1 + 1 ≡ end = omega arith in
    let ends : text ≡ init ++ 10 ∷ [] = ap (λ k. take k (drop start seen)) (sym back)
    ∙ take_more (drop start seen) (end - 1) 0 (omega arith) ∙ ap (λ b. init ++ b ∷ []) is in
    subst (RefusesFields fault len) (sym (split seen start end fits in_seen
    ∙ ap (λ t. t ++ drop (start + end) seen) (drop_take seen start end)))
    (cut_fault fault len text (drop (start + end) seen) init ends count
    (subst (RefusesFieldLines fault TooMany) (drop_take seen start end) h))

-- fields that are read in a cut text are those of the whole one, and their end lies in it
pub cut_found : (seen : List ℕ) (start end n : ℕ) (fields : FieldList) → start ≤ length seen → end ≤ length (drop start seen)
    → n ≤ length (take (start + end) seen)
    → ReadsFields (drop start (take (start + end) seen)) fields (drop n (take (start + end) seen))
    → (n ≤ length seen) × ReadsFields (drop start seen) fields (drop n seen)
cut_found seen start end n fields in_seen fits inside h =
    let lines = take (start + end) seen in
    let rest = drop (start + end) seen in
    let whole = take-append-drop (start + end) seen in
    let len = ap length whole in (
      omega (arith, len, length-append lines rest),
      subst (λ t. ReadsFields t fields (drop n seen)) (sym (split seen start end fits in_seen))
          (subst (ReadsFields (drop start lines ++ rest) fields) (sym (drop-append-le n lines rest inside) ∙ ap (drop n) whole)
          (fields-append (drop start lines) rest fields (drop n lines) h)),
    )

-- a text has at most 100 fields at its beginning where a cut of it has
pub cut_has : (seen : List ℕ) (start end : ℕ) → start ≤ length seen → end ≤ length (drop start seen)
    → HasFields (drop start (take (start + end) seen)) → HasFields (drop start seen)
cut_has seen start end in_seen fits h = subst HasFields (sym (split seen start end fits in_seen))
    (has_fields-append (drop start (take (start + end) seen)) (drop (start + end) seen) h)

-- the faults of a text of fewer lines
pub whole_fault : (fault : HeadFault) (len : ℕ) (text : List ℕ) → line_count text < 101 → RefusesFieldLines fault (unended len) text
    → RefusesFields fault len text
whole_fault fault len text count h =
    let few : HasTooMany text → ⊥ = λ many. let n = too_many_count text many in omega (arith, n, count) in
    with few h
  where
    with : (HasTooMany text → ⊥) → RefusesFieldLines fault (unended len) text → RefusesFields fault len text
    with few (inl h) = inl (h.0, h.1, few)
    with few (inr (inl h)) = absurd (few h.1)
    with few (inr (inr h)) = inr (inr (h.0, h.1, few))
