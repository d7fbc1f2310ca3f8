-- A length as it is read, and the lengths of a head's fields.
use Rattle.std.proofs.Common.{◌≡◌, ℕ, ◌+◌, ◌<◌, ◌^◌, Bool, true, false, List, [], ◌∷◌, length, take, drop, Some, None, Ok, Err, refl, sym}
use Rattle.std.proofs.Common.{ap, ◌∙◌, arith, lt-ltb, ltb-true}
use Rattle.std.specs.Prelude.{fold, nat_lt, ◌&&◌, codes}
use Rattle.std.specs.List.{list_all}
use Rattle.std.proofs.lemmas.List.Sums.{fold-append}
use Rattle.std.specs.Char.{digit_value}
use Rattle.std.specs.Str.Parse.{AllDigits, digits_value}
use Rattle.std.specs.Str.{str_eq_ignore_ascii_case}
use Rattle.adapt_bytes.specs.Numeral.{Writes}
use Rattle.adapt_bytes.specs.declared.limits.TheConstants.{COUNT_LIMIT}
use Rattle.adapt_bytes.specs.Fields.{name_at, value_at, values_of}
use Rattle.http_side.specs.declared.fault.HttpFault.{HttpFault}
use Rattle.http_side.specs.Lengths.{is_digit, is_numeral, length_value, agreed, content_length}
use Rattle.http_side.proofs.FieldLemmas.{values-more, values-front}

-- decimal digits all pass the test for a digit
pub digits_all : (bs : List ℕ) → AllDigits 10 bs → list_all is_digit bs ≡ true
digits_all [] h = refl
digits_all (b ∷ bs) h = rw (lt-ltb (digit_value b) 10 h.0, digits_all bs h.1) refl

-- bytes that all pass the test for a digit are decimal digits
pub all_digits : (bs : List ℕ) → list_all is_digit bs ≡ true → AllDigits 10 bs
all_digits [] h = tt
all_digits (b ∷ bs) h = let s = by_test (is_digit b) refl h in (s.0, all_digits bs s.1)
  where
    by_test : (t : Bool) → is_digit b ≡ t → (t && list_all is_digit bs) ≡ true → (digit_value b < 10) × (list_all is_digit bs ≡ true)
    by_test true e h = (ltb-true (digit_value b) 10 e, h)
    by_test false e h = absurd (let f : false ≡ true = h in cc)

-- a value that writes a decimal number is a numeral
numeral_is : (value : List ℕ) (n : ℕ) → Writes 10 value n → is_numeral value ≡ true
numeral_is value n w = rw (lt-ltb 0 (length value) w.digits.0, digits_all value w.digits.1) refl

-- a value that writes a number below the limit of counts is that length
pub length_some : (value : List ℕ) (n : ℕ) → Writes 10 value n → n < COUNT_LIMIT → Some n ≡ length_value value
length_some value n w l =
    let small : digits_value 10 value < COUNT_LIMIT = omega (arith, w.value) in
    rw (numeral_is value n w, lt-ltb (digits_value 10 value) COUNT_LIMIT small) (ap Some (sym w.value))

-- a value that writes no number below 2^64 is no length
pub length_none : (value : List ℕ) → ((n : ℕ) → n < 2 ^ 64 → Writes 10 value n → ⊥) → None ≡ length_value value
length_none value none = by_test (is_numeral value && nat_lt (digits_value 10 value) COUNT_LIMIT) refl
  where
    parts : (s t : Bool) → (s && t) ≡ true → (s ≡ true) × (t ≡ true)
    parts true true e = (refl, refl)
    parts true false e = absurd (let f : false ≡ true = e in cc)
    parts false t e = absurd (let f : false ≡ true = e in cc)

    writes : (is_numeral value && nat_lt (digits_value 10 value) COUNT_LIMIT) ≡ true → ⊥
    writes e =
        let both = parts (is_numeral value) (nat_lt (digits_value 10 value) COUNT_LIMIT) e in
        let digits = parts (nat_lt 0 (length value)) (list_all is_digit value) both.0 in
        let small = ltb-true (digits_value 10 value) COUNT_LIMIT both.1 in
        none (digits_value 10 value) (omega arith) (record {
          digits = (ltb-true 0 (length value) digits.0, all_digits value digits.1);
          value = refl;
        })

    by_test : (t : Bool) → (is_numeral value && nat_lt (digits_value 10 value) COUNT_LIMIT) ≡ t → None ≡ length_value value
    by_test true e = absurd (writes e)
    by_test false e = rw e refl

-- one more Content-Length field is agreed with the length of the fields before it
pub length-more : (fields : List (List ℕ × List ℕ)) (i : ℕ) → i < length fields
    → str_eq_ignore_ascii_case (name_at fields i) (codes "content-length") ≡ true
    → content_length (take (i + 1) fields) ≡ agreed (content_length (take i fields)) (value_at fields i)
length-more fields i l e = ap (fold agreed (Ok None)) (values-more (codes "content-length") fields i l e)
    ∙ fold-append agreed (Ok None) (values_of (codes "content-length") (take i fields)) (value_at fields i ∷ [])

-- lengths that were refused stay refused, whatever values follow
fold_refused : (fault : HttpFault) (values : List (List ℕ)) → fold agreed (Err fault) values ≡ Err fault
fold_refused fault [] = refl
fold_refused fault (value ∷ values) = fold_refused fault values

-- a fault of a prefix of the fields is one of all of them
pub length_refused : (fields : List (List ℕ × List ℕ)) (i : ℕ) (fault : HttpFault) → content_length (take i fields) ≡ Err fault
    → content_length fields ≡ Err fault
length_refused fields i fault e =
    ap (fold agreed (Ok None)) (values-front (codes "content-length") fields i)
    ∙ fold-append agreed (Ok None) (values_of (codes "content-length") (take i fields))
    (values_of (codes "content-length") (drop i fields))
    ∙ ap (λ r. fold agreed r (values_of (codes "content-length") (drop i fields))) e
    ∙ fold_refused fault (values_of (codes "content-length") (drop i fields))
