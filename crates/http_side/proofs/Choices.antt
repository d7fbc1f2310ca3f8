-- The lengths and codings of a head that goes on, and the framing that its reader sees.
use Rattle.std.proofs.Common.{◌≡◌, ℕ, Bool, true, false, not, List, [], ◌∷◌, ◌++◌, map, take, Option, Some, None, Ok, Err, refl, sym, ap}
use Rattle.std.proofs.Common.{◌∙◌, inl, inr}
use Rattle.std.specs.Prelude.{codes, fold, if◌then◌else◌, ◌==◌}
use Rattle.std.proofs.lemmas.Bool.{cases_Bool, eqb-true}
use Rattle.std.specs.Str.{str_eq_ignore_ascii_case}
use Rattle.adapt_bytes.specs.Fields.{values_of}
use Rattle.http_side.specs.declared.fault.HttpFault.{HttpFault}
use Rattle.http_side.specs.declared.fault.HttpFault.TheVariants.{Lengths}
use Rattle.http_side.specs.declared.writing.Extra.{Extra}
use Rattle.http_side.specs.Lengths.{length_value, with_length, agreed}
use Rattle.http_side.specs.Heads.{both_lengths}
use Rattle.http_side.specs.Forward.{has_host, when, kept_fields, hosted, request_fields, response_fields, added_fields, via_value}
use Rattle.http_side.proofs.Passing.{LENGTH, CODING, values-append, values-hosted, kept-length, kept-no_length, kept-no_coding}

-- ---- what is added

abbrev pub on : Bool → List ℕ → List (List ℕ)
on b value = if b then value ∷ [] else []

-- among the added fields is a length of 0 where the extra says empty, and else none
pub added-length : (x : Extra) (minor : ℕ) → values_of LENGTH (added_fields x minor) ≡ on x.empty (codes "0")
added-length x minor = by_four x.empty x.chunked x.close x.via
  where
    by_four : (a b c d : Bool) → values_of LENGTH (when a (codes "Content-Length", codes "0")
        ++ when b (codes "Transfer-Encoding", codes "chunked")
        ++ when c (codes "Connection", codes "close") ++ when d (codes "Via", via_value minor)) ≡ on a (codes "0")
    by_four true true true true = refl
    by_four true true true false = refl
    by_four true true false true = refl
    by_four true true false false = refl
    by_four true false true true = refl
    by_four true false true false = refl
    by_four true false false true = refl
    by_four true false false false = refl
    by_four false true true true = refl
    by_four false true true false = refl
    by_four false true false true = refl
    by_four false true false false = refl
    by_four false false true true = refl
    by_four false false true false = refl
    by_four false false false true = refl
    by_four false false false false = refl

-- among the added fields is the coding chunked where the extra says so, and else none
pub added-coding : (x : Extra) (minor : ℕ) → values_of CODING (added_fields x minor) ≡ on x.chunked (codes "chunked")
added-coding x minor = by_four x.empty x.chunked x.close x.via
  where
    by_four : (a b c d : Bool) → values_of CODING (when a (codes "Content-Length", codes "0")
        ++ when b (codes "Transfer-Encoding", codes "chunked")
        ++ when c (codes "Connection", codes "close") ++ when d (codes "Via", via_value minor)) ≡ on b (codes "chunked")
    by_four true true true true = refl
    by_four true true true false = refl
    by_four true true false true = refl
    by_four true true false false = refl
    by_four true false true true = refl
    by_four true false true false = refl
    by_four true false false true = refl
    by_four true false false false = refl
    by_four false true true true = refl
    by_four false true true false = refl
    by_four false true false true = refl
    by_four false true false false = refl
    by_four false false true true = refl
    by_four false false true false = refl
    by_four false false false true = refl
    by_four false false false false = refl

-- ---- what is kept

-- the Host that may be added has no value for a name other than host
host-none : (b : Bool) (authority name : List ℕ) → str_eq_ignore_ascii_case (codes "host") name ≡ false
    → values_of name (when b (codes "Host", authority)) ≡ []
host-none true authority name e = let other : str_eq_ignore_ascii_case (codes "Host") name ≡ false = e in rw other refl
host-none false authority name e = refl

-- of a request's lengths only the first goes on
pub request-length : (authority : List ℕ) (fields : List (List ℕ × List ℕ))
    → values_of LENGTH (request_fields authority fields) ≡ take 1 (values_of LENGTH fields)
request-length authority fields =
    let kept = kept_fields (record { expect = true; length = false }) fields in
    values-append LENGTH (when (not (has_host fields)) (codes "Host", authority)) (map (hosted (Some authority)) kept)
    ∙ ap (λ t. t ++ values_of LENGTH (map (hosted (Some authority)) kept)) (host-none (not (has_host fields)) authority LENGTH refl)
    ∙ values-hosted LENGTH (Some authority) kept refl ∙ kept-length true fields

-- no coding of a request goes on
pub request-coding : (authority : List ℕ) (fields : List (List ℕ × List ℕ)) → values_of CODING (request_fields authority fields) ≡ []
request-coding authority fields =
    let kept = kept_fields (record { expect = true; length = false }) fields in
    values-append CODING (when (not (has_host fields)) (codes "Host", authority)) (map (hosted (Some authority)) kept)
    ∙ ap (λ t. t ++ values_of CODING (map (hosted (Some authority)) kept)) (host-none (not (has_host fields)) authority CODING refl)
    ∙ values-hosted CODING (Some authority) kept refl ∙ kept-no_coding (record { expect = true; length = false }) fields

-- of a response's lengths the first goes on, or none where it has a coding too
pub response-length : (fields : List (List ℕ × List ℕ))
    → values_of LENGTH (response_fields fields) ≡ (if both_lengths fields then [] else take 1 (values_of LENGTH fields))
response-length fields = by_test (both_lengths fields)
  where
    by_test : (b : Bool) → values_of LENGTH (kept_fields (record { expect = false; length = b }) fields)
        ≡ (if b then [] else take 1 (values_of LENGTH fields))
    by_test true = kept-no_length false fields
    by_test false = kept-length false fields

-- no coding of a response goes on
pub response-coding : (fields : List (List ℕ × List ℕ)) → values_of CODING (response_fields fields) ≡ []
response-coding fields = kept-no_coding (record { expect = false; length = both_lengths fields }) fields

-- ---- the length of a head is the first value's

-- a fault of the lengths stays, whatever values follow
fold_err : (fault : HttpFault) (values : List (List ℕ)) → fold agreed (Err fault) values ≡ Err fault
fold_err fault [] = refl
fold_err fault (v ∷ values) = fold_err fault values

-- after a length was found, values that are taken give no other
fold_stays : (n : ℕ) (values : List (List ℕ)) (r : Option ℕ) → fold agreed (Ok (Some n)) values ≡ Ok r → r ≡ Some n
fold_stays n [] r e = let x : Ok (Some n) ≡ Ok r = e in cc
fold_stays n (v ∷ values) r e = by_value (λ m x. fold_stays m values r x) (length_value v) refl
  where
    by_value : ((m : ℕ) → fold agreed (Ok (Some m)) values ≡ Ok r → r ≡ Some m) → (o : Option ℕ) → length_value v ≡ o → r ≡ Some n
    by_value more None was = absurd (let x : fold agreed (Err Lengths) values
        ≡ Ok r = ap (λ o. fold agreed (with_length (Some n) o) values) (sym was) ∙ e in
        let y : Err Lengths ≡ Ok r = sym (fold_err Lengths values) ∙ x in cc)
    by_value more (Some m) was = elim (cases_Bool (n == m)) [
      | inl same ↦
          let same_is : with_length (Some n) (Some m) ≡ Ok (Some m) = rw same refl in
          let x : fold agreed (Ok (Some m)) values ≡ Ok r =
          ap (λ o. fold agreed o values) (sym same_is) ∙ ap (λ o. fold agreed (with_length (Some n) o) values) (sym was) ∙ e in
          more m x ∙ ap Some (sym (eqb-true n m same))
      | inr other ↦ absurd (
          let other_is : with_length (Some n) (Some m) ≡ Err Lengths = rw other refl in
          let x : fold agreed (Err Lengths) values ≡ Ok r =
          ap (λ o. fold agreed o values) (sym other_is) ∙ ap (λ o. fold agreed (with_length (Some n) o) values) (sym was) ∙ e in
          let y : Err Lengths ≡ Ok r = sym (fold_err Lengths values) ∙ x in cc)
    ]

-- the first of agreed values gives the same
pub first_is : (values : List (List ℕ)) (r : Option ℕ) → fold agreed (Ok None) values ≡ Ok r → fold agreed (Ok None) (take 1 values) ≡ Ok r
first_is [] r e = e
first_is (v ∷ values) r e = by_value (length_value v) refl
  where
    by_value : (o : Option ℕ) → length_value v ≡ o → fold agreed (Ok None) (v ∷ []) ≡ Ok r
    by_value None was = absurd (let x : fold agreed (Err Lengths) values
        ≡ Ok r = ap (λ o. fold agreed (with_length None o) values) (sym was) ∙ e in
        let y : Err Lengths ≡ Ok r = sym (fold_err Lengths values) ∙ x in cc)
    by_value (Some m) was =
        let x : fold agreed (Ok (Some m)) values ≡ Ok r = ap (λ o. fold agreed (with_length None o) values) (sym was) ∙ e in
        ap (with_length None) was ∙ ap Ok (sym (fold_stays m values r x))

-- without values there is none, and without a length there are no values
pub no_values : (values : List (List ℕ)) → fold agreed (Ok None) values ≡ Ok None → values ≡ []
no_values [] e = refl
no_values (v ∷ values) e = by_value (length_value v) refl
  where
    by_value : (o : Option ℕ) → length_value v ≡ o → v ∷ values ≡ []
    by_value None was = absurd (let x : fold agreed (Err Lengths) values
        ≡ Ok None = ap (λ o. fold agreed (with_length None o) values) (sym was) ∙ e in
        let y : Err Lengths ≡ Ok None = sym (fold_err Lengths values) ∙ x in cc)
    by_value (Some m) was = absurd (
        let x : fold agreed (Ok (Some m)) values ≡ Ok None = ap (λ o. fold agreed (with_length None o) values) (sym was) ∙ e in
        let y : None ≡ Some m = fold_stays m values None x in cc)
