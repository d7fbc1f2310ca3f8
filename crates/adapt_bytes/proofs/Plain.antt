-- Texts without commas and blanks are parts as they stand.
use Rattle.std.proofs.Common.{◌≡◌, ℕ, ◌<◌, Bool, true, false, not, ◌&&◌, cond, List, [], ◌∷◌, ◌++◌, map, reverse, refl, sym, ap, ◌∙◌, arith}
use Rattle.std.proofs.Common.{eqb}
use Rattle.std.specs.List.{slice_split, onto_first, list_all}
use Rattle.std.specs.Char.{digit_value}
use Rattle.std.specs.Str.Parse.{AllDigits}
use Rattle.std.proofs.lemmas.Bool.Decides.{nat_tests}
use Rattle.std.proofs.lemmas.List.{reverse-append, reverse-reverse}
use Rattle.adapt_bytes.specs.Text.{is_blank, skip_blanks, trim, comma_parts}

-- neither a comma nor a blank
abbrev pub is_plain : ℕ → Bool
is_plain b = not (eqb b 44) && not (is_blank b)

-- where a conjunction of two tests is true, each of the two is
both : (a b : Bool) → (a && b) ≡ true → (a ≡ true) × (b ≡ true)
both true b e = (refl, e)
both false b e = absurd (cc)

-- a plain byte is no comma
no_comma : (b : ℕ) → is_plain b ≡ true → eqb b 44 ≡ false
no_comma b h = by_test (eqb b 44) (both _ _ h).0
  where
    by_test : (t : Bool) → not t ≡ true → t ≡ false
    by_test true e = absurd (cc)
    by_test false e = refl

-- a plain byte is no blank
no_blank : (b : ℕ) → is_plain b ≡ true → is_blank b ≡ false
no_blank b h = by_test (is_blank b) (both _ _ h).1
  where
    by_test : (t : Bool) → not t ≡ true → t ≡ false
    by_test true e = absurd (cc)
    by_test false e = refl

-- two texts of plain bytes are one such text together
pub plain-append : (xs ys : List ℕ) → list_all is_plain xs ≡ true → list_all is_plain ys ≡ true → list_all is_plain (xs ++ ys) ≡ true
plain-append [] ys h g = g
plain-append (x ∷ xs) ys h g = let p = both _ _ h in ap (λ b. b && list_all is_plain (xs ++ ys)) p.0 ∙ plain-append xs ys p.1 g

-- a text of plain bytes has only plain bytes in reverse too
plain-reverse : (xs : List ℕ) → list_all is_plain xs ≡ true → list_all is_plain (reverse xs) ≡ true
plain-reverse [] h = h
plain-reverse (x ∷ xs) h =
    let p = both _ _ h in
    let last : list_all is_plain (x ∷ []) ≡ true = ap (λ b. b && true) p.0 in
    ap (list_all is_plain) (reverse-append (x ∷ []) xs) ∙ plain-append (reverse xs) (x ∷ []) (plain-reverse xs p.1) last

-- no blank is skipped before a text of plain bytes
skip_plain : (xs : List ℕ) → list_all is_plain xs ≡ true → skip_blanks xs ≡ xs
skip_plain [] h = refl
skip_plain (x ∷ xs) h = ap (λ t. cond t (skip_blanks xs) (x ∷ xs)) (no_blank x (both _ _ h).0)

-- a text of plain bytes is trimmed to itself
pub trim_plain : (xs : List ℕ) → list_all is_plain xs ≡ true → trim xs ≡ xs
unfolding trim
trim_plain xs h = rw (skip_plain xs h, skip_plain (reverse xs) (plain-reverse xs h)) (reverse-reverse xs)

-- plain bytes before a comma are the first piece, and the text after the comma gives the others
split_plain : (xs rest : List ℕ) → list_all is_plain xs ≡ true
    → slice_split (λ b. eqb b 44) (xs ++ 44 ∷ rest) ≡ xs ∷ slice_split (λ b. eqb b 44) rest
split_plain [] rest h = refl
split_plain (x ∷ xs) rest h =
    let p = both _ _ h in
    ap (λ t. cond t ([] ∷ slice_split (λ b. eqb b 44) (xs ++ 44 ∷ rest)) (onto_first x (slice_split (λ b. eqb b 44) (xs ++ 44 ∷ rest))))
    (no_comma x p.0)
    ∙ ap (onto_first x) (split_plain xs rest p.1)

-- a text of plain bytes is split at commas into itself alone
split_plain_end : (xs : List ℕ) → list_all is_plain xs ≡ true → slice_split (λ b. eqb b 44) xs ≡ xs ∷ []
split_plain_end [] h = refl
split_plain_end (x ∷ xs) h =
    let p = both _ _ h in
    ap (λ t. cond t ([] ∷ slice_split (λ b. eqb b 44) xs) (onto_first x (slice_split (λ b. eqb b 44) xs))) (no_comma x p.0)
    ∙ ap (onto_first x) (split_plain_end xs p.1)

-- a space before a text is trimmed away
trim_space : (x : List ℕ) → trim (32 ∷ x) ≡ trim x
unfolding trim
trim_space x = refl

-- the trimmed pieces with a space before the first are themselves
onto_space : (parts : List (List ℕ)) → map trim (onto_first 32 parts) ≡ map trim (onto_first 32 parts)
onto_space parts = refl

-- a split at commas gives one piece at least
split_some : (xs : List ℕ) → (first : List ℕ) × (rest : List (List ℕ)) × (slice_split (λ b. eqb b 44) xs ≡ first ∷ rest)
split_some [] = ([], [], refl)
split_some (x ∷ xs) = by_test (eqb x 44) refl (split_some xs)
  where
    by_test : (t : Bool) → eqb x 44 ≡ t → (first : List ℕ) × (rest : List (List ℕ)) × (slice_split (λ b. eqb b 44) xs ≡ first ∷ rest)
        → (first : List ℕ) × (rest : List (List ℕ)) × (slice_split (λ b. eqb b 44) (x ∷ xs) ≡ first ∷ rest)
    by_test true e h = ([], slice_split (λ b. eqb b 44) xs, rw e refl)
    by_test false e h = (x ∷ h.0, h.1, rw e (ap (onto_first x) h.2))

-- a space after a comma is dropped
pub comma_parts_space : (xs : List ℕ) → comma_parts (32 ∷ xs) ≡ comma_parts xs
unfolding comma_parts
comma_parts_space xs =
    let h = split_some xs in
    ap (λ parts. map trim (onto_first 32 parts)) h.2 ∙ ap (λ t. t ∷ map trim h.1) (trim_space h.0) ∙ sym (ap (map trim) h.2)

-- plain bytes before a comma are the first part as they stand, and the text after the comma gives the others
pub comma_parts_plain : (xs rest : List ℕ) → list_all is_plain xs ≡ true → comma_parts (xs ++ 44 ∷ rest) ≡ xs ∷ comma_parts rest
unfolding comma_parts
comma_parts_plain xs rest h = ap (map trim) (split_plain xs rest h) ∙ ap (λ t. t ∷ map trim (slice_split (λ b. eqb b 44) rest))
    (trim_plain xs h)

-- a text of plain bytes is its only part, as it stands
pub comma_parts_last : (xs : List ℕ) → list_all is_plain xs ≡ true → comma_parts xs ≡ xs ∷ []
unfolding comma_parts
comma_parts_last xs h = ap (map trim) (split_plain_end xs h) ∙ ap (λ t. t ∷ []) (trim_plain xs h)

-- a decimal digit is neither a comma nor a blank
digit_plain : (c : ℕ) → digit_value c < 10 → is_plain c ≡ true
digit_plain c l = grind (arith, nat_tests)

-- a text of decimal digits has neither commas nor blanks
pub digits_plain : (ds : List ℕ) → AllDigits 10 ds → list_all is_plain ds ≡ true
digits_plain [] h = refl
digits_plain (d ∷ ds) h = ap (λ b. b && list_all is_plain ds) (digit_plain d h.0) ∙ digits_plain ds h.1
