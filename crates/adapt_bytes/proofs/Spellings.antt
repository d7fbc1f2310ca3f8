-- A number has one spelling in lower case and without a leading zero.
use Rattle.std.proofs.Common.{◌≡◌, ◌≢◌, ℕ, zero, suc, ◌+◌, ◌*◌, ◌%◌, ◌<◌, ◌≤◌, inl, inr, List, [], ◌∷◌, ◌++◌, map, get_or, refl, sym, ap}
use Rattle.std.proofs.Common.{◌∙◌, arith, append_assoc, zero-mul}
use Rattle.std.proofs.lemmas.Bool.Decides.{nat_tests}
use Rattle.std.proofs.lemmas.List.{append-nil}
use Rattle.std.proofs.lemmas.Nat.{div-mul-add, mod-mul-add}
use Rattle.std.proofs.Math.Nat.{le-mul_of_pos_right}
use Rattle.std.specs.Char.{digit_value, digit_char, to_ascii_lowercase}
use Rattle.std.specs.Str.Parse.{AllDigits, digits_value}
use Rattle.std.specs.Int.Digits.{digits_of, number_from_digits, number_from_digits_after, AllBelowBase}
use Rattle.std.proofs.lemmas.Int.Digits.{digits_value_is, all_below_base_digits_of, digits_of_step, first_digits_of, number_after_ge}
use Rattle.adapt_bytes.specs.Numeral.{Writes, numeral, HasNoLeadingZero, IsLowerCase}
use Rattle.adapt_bytes.proofs.Written.{numeral_zero, numeral_more, zero_value}

-- a text writes at most one number in a base
pub spells_one : (base m n : ℕ) (text : List ℕ) → Writes base text m → Writes base text n → m ≡ n
spells_one base m n text v w = sym v.value ∙ w.value

-- one digit after a number
one_behind : (base n d : ℕ) → 2 ≤ base → d < base → 0 < n * base + d → digits_of base (n * base + d) ≡ digits_of base n ++ (d ∷ [])
one_behind base n d two below pos =
    digits_of_step base (n * base + d) two pos ∙ ap (λ q. digits_of base q ++ ((n * base + d) % base ∷ [])) (div-mul-add n base d below)
    ∙ ap (λ m. digits_of base n ++ (m ∷ [])) (mod-mul-add n base d below)

-- digits after a number that isn't 0
digits_behind : (base n : ℕ) (ds : List ℕ) → 2 ≤ base → 0 < n → AllBelowBase base ds
    → digits_of base (number_from_digits_after base n ds) ≡ digits_of base n ++ ds
digits_behind base n [] two pos below = sym (append-nil (digits_of base n))
digits_behind base n (d ∷ ds) two pos below =
    let more : n ≤ n * base = le-mul_of_pos_right n (omega arith) in
    let grown : 0 < n * base + d = omega (arith) in
    digits_behind base (n * base + d) ds two grown below.1
    ∙ ap (λ l. l ++ ds) (one_behind base n d two below.0 grown) ∙ append_assoc (digits_of base n) (d ∷ []) ds

-- the values of a text of digits are all below the base
values_below : (base : ℕ) (text : List ℕ) → AllDigits base text → AllBelowBase base (map digit_value text)
values_below base [] h = tt
values_below base (c ∷ text) h = (h.0, values_below base text h.1)

-- a digit in lower case is the one that is written
digit_again : (c : ℕ) → digit_value c < 16 → to_ascii_lowercase c ≡ c → digit_char (digit_value c) ≡ c
digit_again c below lower = grind (arith, nat_tests)

-- digits without upper case, in a base up to 16, are written again as they were read
digits_again : (base : ℕ) (text : List ℕ) → base ≤ 16 → AllDigits base text → IsLowerCase text
    → map digit_char (map digit_value text) ≡ text
digits_again base [] high h lower = refl
digits_again base (c ∷ text) high h lower =
    let first : to_ascii_lowercase c ≡ c = cc in
    let behind : map to_ascii_lowercase text ≡ text = cc in
    ap (λ x. x ∷ map digit_char (map digit_value text)) (digit_again c (omega (arith, h.0)) first)
    ∙ ap (λ l. c ∷ l) (digits_again base text high h.1 behind)

-- the digit 0
zero_digit : (c : ℕ) → digit_value c ≡ 0 → c ≡ 48
zero_digit c is = grind (arith, nat_tests)

-- the digits of a text whose first one isn't 0
first_some : (base c : ℕ) (text : List ℕ) → 2 ≤ base → 0 < digit_value c → AllDigits base (c ∷ text)
    → digits_of base (number_from_digits base (map digit_value (c ∷ text))) ≡ map digit_value (c ∷ text)
first_some base c text two pos h =
    let one : digits_of base (0 * base + digit_value c) ≡ digit_value c ∷ [] =
    one_behind base 0 (digit_value c) two h.0 (omega (arith, zero-mul base)) in
    digits_behind base (0 * base + digit_value c) (map digit_value text) two (omega (arith, zero-mul base)) (values_below base text h.1)
    ∙ ap (λ l. l ++ map digit_value text) one

-- in a base up to 16, a text in lower case without a leading zero that writes a number is its numeral
pub only_spelling : (base n : ℕ) (text : List ℕ) → 2 ≤ base → base ≤ 16 → Writes base text n → HasNoLeadingZero text → IsLowerCase text
    → text ≡ numeral base n
only_spelling base n [] two high w short lower = absurd (omega (arith, w.digits.0))
only_spelling base n (c ∷ text) two high w short lower = by_first (digit_value c) refl short
  where
    by_first : (d : ℕ) → digit_value c ≡ d → HasNoLeadingZero (c ∷ text) → c ∷ text ≡ numeral base n
    by_first zero is (inl alone) =
        let zero_text : digits_value base (c ∷ text) ≡ 0 = ap (digits_value base) alone ∙ zero_value base in
        let none : n ≡ 0 = sym w.value ∙ zero_text in
        alone ∙ sym (rw none (numeral_zero base))
    by_first zero is (inr other) = absurd (other text (ap (λ x. x ∷ text) (zero_digit c is)))
    by_first (suc d) is short =
        let some : 0 < digit_value c = omega (arith, is) in
        let digits = first_some base c text two some w.digits.1 in
        let value : number_from_digits base (map digit_value (c ∷ text)) ≡ n = sym (digits_value_is base (c ∷ text)) ∙ w.value in
        let grown = number_after_ge base (0 * base + digit_value c) (map digit_value text) (omega arith) in
        let pos : 0 < n = omega (arith, value, grown, some, zero-mul base) in
        sym (numeral_more base n pos ∙ ap (λ m. map digit_char (digits_of base m)) (sym value) ∙ ap (map digit_char) digits
        ∙ digits_again base (c ∷ text) high w.digits.1 lower)

-- a digit that isn't 0 is written as another byte than the digit 0
not_zero : (d : ℕ) → 0 < d → d < 16 → digit_char d ≢ 48
not_zero d pos below is = grind (arith, nat_tests)

-- a digit below 16 is written without upper case
digit_lower : (d : ℕ) → d < 16 → to_ascii_lowercase (digit_char d) ≡ digit_char d
digit_lower d below = grind (arith, nat_tests)

-- digits of a base up to 16 are written in lower case
digits_lower : (base : ℕ) (ds : List ℕ) → base ≤ 16 → AllBelowBase base ds → IsLowerCase (map digit_char ds)
digits_lower base [] high h = refl
digits_lower base (d ∷ ds) high h =
    ap (λ x. x ∷ map to_ascii_lowercase (map digit_char ds)) (digit_lower d (omega (arith, h.0)))
    ∙ ap (λ l. digit_char d ∷ l) (digits_lower base ds high h.1)

abbrev first_of : List ℕ → ℕ
first_of [] = 0
first_of (b ∷ text) = b

-- digits of which the first isn't 0 are written with another first byte than the digit 0
starts_high : (base : ℕ) (ds behind : List ℕ) → base ≤ 16 → AllBelowBase base ds → 0 < get_or ds 0 0 → map digit_char ds ≢ 48 ∷ behind
starts_high base [] behind high h pos is = absurd (omega (arith, pos))
starts_high base (d ∷ ds) behind high h pos is = not_zero d pos (omega (arith, h.0)) (ap first_of is)

-- a numeral of base 2 to 16 has no leading zero and no upper case
pub short_spelling : (base n : ℕ) → 2 ≤ base → base ≤ 16 → HasNoLeadingZero (numeral base n) × IsLowerCase (numeral base n)
short_spelling base zero two high = rw (numeral_zero base) (inl refl, refl)
short_spelling base (suc n) two high =
    let below = all_below_base_digits_of base (suc n) two in
    let first = first_digits_of base (suc n) two (omega arith) in
    rw (numeral_more base (suc n) (omega arith)) (
      inr (λ behind. starts_high base (digits_of base (suc n)) behind high below first),
      digits_lower base (digits_of base (suc n)) high below,
    )
