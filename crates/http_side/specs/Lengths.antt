-- The length and the coding of a body, by its head's fields (RFC 9112, sections 6.1 to 6.3).
use Rattle.std.specs.Prelude.{◌≡◌, ℕ, Bool, true, false, ◌&&◌, List, [], ◌∷◌, length, fold, Option, Some, None, Result, Ok, Err, codes}
use Rattle.std.specs.Prelude.{if◌then◌else◌, ◌==◌, nat_lt}
use Rattle.std.specs.List.{list_all}
use Rattle.std.specs.Char.{digit_value}
use Rattle.std.specs.Str.Parse.{digits_value}
use Rattle.adapt_bytes.specs.Text.{comma_items}
use Rattle.adapt_bytes.specs.Fields.{values_of}
use Rattle.http_side.specs.declared.fault.HttpFault.{HttpFault}
use Rattle.http_side.specs.declared.fault.HttpFault.TheVariants.{Lengths, Coding}
use Rattle.adapt_bytes.specs.declared.limits.TheConstants.{COUNT_LIMIT}
use Rattle.http_side.specs.declared.lengths.LengthFields.{LengthFields}
use Rattle.http_side.specs.Items.{is_only}

abbrev pub is_digit : ℕ → Bool
is_digit b = nat_lt (digit_value b) 10

-- one digit or more, and nothing else
abbrev pub is_numeral : List ℕ → Bool
is_numeral value = nat_lt 0 (length value) && list_all is_digit value

-- a decimal, of any number of digits, below the limit of counts
abbrev pub length_value : List ℕ → Option ℕ
length_value value =
    if is_numeral value && nat_lt (digits_value 10 value) COUNT_LIMIT then Some (digits_value 10 value) else None

-- the length is the one found, if any was
abbrev pub same_length : Option ℕ → ℕ → Result (Option ℕ) HttpFault
same_length None n = Ok (Some n)
same_length (Some m) n = if m == n then Ok (Some n) else Err Lengths

abbrev pub with_length : Option ℕ → Option ℕ → Result (Option ℕ) HttpFault
with_length found None = Err Lengths
with_length found (Some n) = same_length found n

-- one value more: equal ones count as one, and a bad or a different one is refused
abbrev pub agreed : Result (Option ℕ) HttpFault → List ℕ → Result (Option ℕ) HttpFault
agreed (Err fault) value = Err fault
agreed (Ok found) value = with_length found (length_value value)

-- the length that the Content-Length fields give, if there are any
abbrev pub content_length : List (List ℕ × List ℕ) → Result (Option ℕ) HttpFault
content_length fields = fold agreed (Ok None) (values_of (codes "content-length") fields)

-- chunked is the only coding that is taken, in one field
abbrev pub coding_of : List (List ℕ) → Result Bool HttpFault
coding_of [] = Ok false
coding_of (value ∷ []) = if is_only (codes "chunked") (comma_items value) then Ok true else Err Coding
coding_of (value ∷ other ∷ more) = Err Coding

abbrev pub coding : List (List ℕ × List ℕ) → Result Bool HttpFault
coding fields = coding_of (values_of (codes "transfer-encoding") fields)

-- what was found in the fields without a fault: the length, if they give one, and whether they say chunked
pub record AreFound (fields : List (List ℕ × List ℕ)) (found : LengthFields) : Type 0 where
  pub size : content_length fields ≡ Ok found.length
  pub coded : coding fields ≡ Ok found.chunked
