-- A decimal that is read, as a relation and by its digits' test.
use Rattle.std.proofs.Common.{◌≡◌, ℕ, ◌<◌, ◌^◌, Bool, true, false, ◌&&◌, cond, nat_lt, List, []}
use Rattle.std.proofs.Common.{◌∷◌, length, Option, Some, None, IfSome, IfNone, refl, ap, ◌∙◌, sym, arith}
use Rattle.std.proofs.lemmas.Bool.Decides.{nat_tests}
use Rattle.std.specs.Char.{digit_value}
use Rattle.std.specs.List.{list_all}
use Rattle.std.specs.Str.Parse.{AllDigits, digits_value}
use Rattle.adapt_bytes.specs.Numeral.{Writes}
use Rattle.proxy_commands.specs.Words.{IsNumber}
use Rattle.proxy_commands.specs.Reading.{decimal_of}

-- where a number is below another, the test says so
yes : (a b : ℕ) → a < b → nat_lt a b ≡ true
yes a b l = grind (arith, nat_tests)

-- where the test says so, it is below
less : (a b : ℕ) → nat_lt a b ≡ true → a < b
less a b e = grind (arith, nat_tests)

-- two tests that pass together pass each
both : (a b : Bool) → (a && b) ≡ true → (a ≡ true) × (b ≡ true)
both true b e = (refl, e)
both false b e = absurd (cc)

-- decimal digits pass the test of digits
digits_pass : (ds : List ℕ) → AllDigits 10 ds → list_all (λ c. nat_lt (digit_value c) 10) ds ≡ true
digits_pass [] h = refl
digits_pass (d ∷ ds) h = ap (λ b. b && list_all (λ c. nat_lt (digit_value c) 10) ds) (yes (digit_value d) 10 h.0) ∙ digits_pass ds h.1

-- what passes the test of digits is decimal digits
digits_are : (ds : List ℕ) → list_all (λ c. nat_lt (digit_value c) 10) ds ≡ true → AllDigits 10 ds
digits_are [] e = tt
digits_are (d ∷ ds) e = let h = both _ _ e in (less (digit_value d) 10 h.0, digits_are ds h.1)

abbrev test : List ℕ → Bool
test digits = nat_lt 0 (length digits) && (list_all (λ c. nat_lt (digit_value c) 10) digits && nat_lt (digits_value 10 digits) (2 ^ 64))

-- a number that is read is the value of the digits, and their test has passed
chosen : (digits : List ℕ) (n : ℕ) (b : Bool)
    → cond b (Some (digits_value 10 digits)) None ≡ Some n → (b ≡ true) × (digits_value 10 digits ≡ n)
chosen digits n true e = (refl, cc)
chosen digits n false e = absurd (cc)

-- a number is read from its digits
pub decimal_of-number : (digits : List ℕ) (n : ℕ) → IsNumber digits n → decimal_of digits ≡ Some n
unfolding decimal_of
decimal_of-number digits n h =
    let some = yes 0 (length digits) h.writes.digits.0 in
    let all = digits_pass digits h.writes.digits.1 in
    let fits : nat_lt (digits_value 10 digits) (2 ^ 64) ≡ true = rw (h.writes.value) (yes n (2 ^ 64) h.fits) in
    rw (some, all, fits) (ap Some h.writes.value)

-- and what is read is a number with these digits
pub number-decimal_of : (digits : List ℕ) (n : ℕ) → decimal_of digits ≡ Some n → IsNumber digits n
unfolding decimal_of
number-decimal_of digits n e =
    let h = chosen digits n (test digits) e in
    let a = both _ _ h.0 in
    let b = both _ _ a.1 in
    record {
      writes = record { digits = (less 0 (length digits) a.0, digits_are digits b.0); value = h.1 };
      fits = let l = less (digits_value 10 digits) (2 ^ 64) b.1 in let v = h.1 in rw (← v) l;
    }

-- where the digits write no number of 64 bits, none is read
by_answer : (digits : List ℕ) (r : Option ℕ) → decimal_of digits ≡ r
    → ((n : ℕ) → n < 2 ^ 64 → Writes 10 digits n → ⊥) → decimal_of digits ≡ None
by_answer digits None e none = e
by_answer digits (Some n) e none = let h = number-decimal_of digits n e in absurd (none n h.fits h.writes)

-- an answer is what is read if it is the number of 64 bits that the digits write, or none where they write none
pub decimal_of-answer : (digits : List ℕ) (r : Option ℕ) → IfSome r (λ n. Writes 10 digits n) → IfSome r (λ n. n < 2 ^ 64)
    → IfNone r ((n : ℕ) → n < 2 ^ 64 → Writes 10 digits n → ⊥) → r ≡ decimal_of digits
decimal_of-answer digits (Some n) w f none = sym (decimal_of-number digits n (record { writes = w; fits = f }))
decimal_of-answer digits None w f none = sym (by_answer digits (decimal_of digits) refl none)
