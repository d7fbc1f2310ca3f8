-- What was found in a head's fields tells whether they give a length and a coding.
use Rattle.std.proofs.Common.{◌≡◌, ℕ, Bool, true, false, List, [], ◌∷◌, length, Option, Some, None, Ok, Err, refl, sym, ap, ◌∙◌}
use Rattle.std.proofs.Common.{arith, lt-ltb}
use Rattle.std.specs.Prelude.{fold, nat_lt, ◌&&◌, codes, is_some, if◌then◌else◌}
use Rattle.adapt_bytes.specs.Fields.{values_of}
use Rattle.adapt_bytes.specs.Text.{comma_items}
use Rattle.http_side.specs.declared.fault.HttpFault.TheVariants.{Coding}
use Rattle.http_side.specs.declared.lengths.LengthFields.{LengthFields}
use Rattle.http_side.specs.Items.{is_only}
use Rattle.http_side.specs.Lengths.{AreFound, agreed, coding_of}
use Rattle.http_side.specs.Heads.{both_lengths}
use Rattle.http_side.specs.Forward.{length_of, length_found}
use Rattle.http_side.proofs.Choices.{no_values}

-- values that agree give a length exactly where there are any
some_length : (values : List (List ℕ)) (o : Option ℕ) → fold agreed (Ok None) values ≡ Ok o → nat_lt 0 (length values) ≡ is_some o
some_length values None e = ap (λ v. nat_lt 0 (length v)) (no_values values e)
some_length [] (Some n) e = absurd (let x : Ok None ≡ Ok (Some n) = e in cc)
some_length (v ∷ values) (Some n) e = lt-ltb 0 (length (v ∷ values)) (omega arith)

-- values of a coding that is taken say chunked exactly where there are any
some_coding : (values : List (List ℕ)) (b : Bool) → coding_of values ≡ Ok b → nat_lt 0 (length values) ≡ b
some_coding [] b e = let x : Ok false ≡ Ok b = e in cc
some_coding (v ∷ []) b e = by_test (is_only (codes "chunked") (comma_items v)) refl
  where
    by_test : (t : Bool) → is_only (codes "chunked") (comma_items v) ≡ t → true ≡ b
    by_test true was = let x : Ok true ≡ Ok b = ap (λ t. if t then Ok true else Err Coding) (sym was) ∙ e in cc
    by_test false was = absurd (let x : Err Coding ≡ Ok b = ap (λ t. if t then Ok true else Err Coding) (sym was) ∙ e in cc)
some_coding (v ∷ w ∷ more) b e = absurd (let x : Err Coding ≡ Ok b = e in cc)

-- the fields have both where a length was found and they say chunked
pub both_found : (fields : List (List ℕ × List ℕ)) (found : LengthFields) → AreFound fields found
    → (is_some found.length && found.chunked) ≡ both_lengths fields
both_found fields found said = rw (
  some_length (values_of (codes "content-length") fields) found.length said.size,
  some_coding (values_of (codes "transfer-encoding") fields) found.chunked said.coded,
) refl

-- a length that was found is the one that goes on
pub length_kept : (fields : List (List ℕ × List ℕ)) (found : LengthFields) → AreFound fields found → found.length ≡ length_of fields
length_kept fields found said = sym (ap length_found said.size)

-- the length that goes on where a coding takes its place
pub uncoded : (fields : List (List ℕ × List ℕ)) (found : LengthFields) → AreFound fields found
    → (if found.chunked then None else found.length) ≡ (if both_lengths fields then None else length_of fields)
uncoded fields found said =
    rw (sym (both_found fields found said), sym (length_kept fields found said)) (by_found found.length found.chunked)
  where
    by_found : (o : Option ℕ) (b : Bool) → (if b then None else o) ≡ (if is_some o && b then None else o)
    by_found (Some n) true = refl
    by_found (Some n) false = refl
    by_found None true = refl
    by_found None false = refl
