-- The reader's step answers the fault of the table.
use Rattle.std.proofs.Common.{◌≡◌, ℕ, ◌+◌, ◌*◌, ◌^◌, ◌<◌, Bool, not, ◌||◌, ◌&&◌, List, [], ◌∷◌, ◌++◌, length, Some, None, ap, ◌∙◌, arith}
use Rattle.std.proofs.Common.{if◌then◌else◌, ◌==◌, nat_le}
use Rattle.std.proofs.lemmas.Bool.Decides.{nat_tests}
use Rattle.std.specs.Char.{digit_value}
use Rattle.std.specs.Str.Parse.{digits_value}
use Rattle.icap_chunks.specs.declared.extension.Item.{Item}
use Rattle.icap_chunks.specs.declared.fault.ChunkFault.TheVariants.{Size, TooBig, Line}
use Rattle.icap_chunks.specs.declared.positions.Position.TheVariants.{Digits, Pad, Extension, LineCr, Data, DataEnd, DataCr, TrailerStart}
use Rattle.icap_chunks.specs.declared.positions.Position.TheVariants.{Trailer, TrailerCr, LastCr}
use Rattle.icap_chunks.specs.Machine.{fault_of, faulted_at, step, in_digits, in_pad, in_extension, in_line_cr, in_data, in_data_end}
use Rattle.icap_chunks.specs.Machine.{in_data_cr, in_trailer_start, in_trailer, in_trailer_cr, in_last_cr}
use Rattle.icap_chunks.specs.Faults.{in_line, behind_line, behind_data, behind_data_cr, in_trailers, behind_trailers_cr, is_hex_digit}
use Rattle.icap_chunks.specs.Faults.{ends_size, fault_at}
use Rattle.icap_chunks.specs.Faults.{in_data as within_data}
use Rattle.icap_chunks.proofs.Walks.{at}

-- ---- a size line

-- whether a byte after so many of a size line is a fault of the line
abbrev past_line : ℕ → ℕ → Bool
past_line count b = b == 10 || (nat_le 256 count && not (b == 13))

-- the first byte of a size line has the fault that the table gives it
first_digit : (sum b : ℕ) → fault_of (step (at sum (Digits 0 0)) b) ≡ fault_at sum (in_line [] [] None) b
unfolding step in_digits faulted_at
first_digit sum b = grind (arith, nat_tests)

-- after one or more digits, a byte is a fault of the line, of the size or of its bound, or none
digits_body : (sum count size b : ℕ) → 0 < count → fault_of (step (at sum (Digits count size)) b)
    ≡ (if past_line count b then Some Line else (if not (is_hex_digit b || ends_size b) then Some Size
    else (if is_hex_digit b && nat_le (2 ^ 62) (size * 16 + digit_value b) then Some TooBig else None)))
unfolding step in_digits faulted_at
digits_body sum count size b pos = grind (arith, nat_tests)

-- after blanks, a byte is a fault of the line, or of the size where it may not stand there, or none
pad_body : (sum count size b : ℕ) → fault_of (step (at sum (Pad count size)) b)
    ≡ (if past_line count b then Some Line else (if not (ends_size b) then Some Size else None))
unfolding step in_pad faulted_at
pad_body sum count size b = grind (arith, nat_tests)

-- in an extension, a byte is a fault of the line or none
extension_body : (sum count size b : ℕ) (item : Item) (found : Bool) → fault_of (step (at sum (Extension count size item found)) b)
    ≡ (if past_line count b then Some Line else None)
unfolding step in_extension faulted_at
extension_body sum count size b item found = grind (arith, nat_tests)

-- in the digits of a size line, or before them, a byte has the fault that the table gives it
pub digits_table : (sum count size b : ℕ) (digits : List ℕ) → count ≡ length (digits ++ ([] ++ [])) → size ≡ digits_value 16 digits
    → fault_of (step (at sum (Digits count size)) b) ≡ fault_at sum (in_line digits [] None) b
digits_table sum count size b [] count_is size_is =
    ap (λ n. fault_of (step (at sum (Digits n size)) b)) count_is ∙ ap (λ v. fault_of (step (at sum (Digits 0 v)) b)) size_is
    ∙ first_digit sum b
digits_table sum count size b (d ∷ digits) count_is size_is =
    ap (λ n. fault_of (step (at sum (Digits n size)) b)) count_is
    ∙ ap (λ v. fault_of (step (at sum (Digits (length ((d ∷ digits) ++ ([] ++ []))) v)) b)) size_is
    ∙ digits_body sum (length ((d ∷ digits) ++ ([] ++ []))) (digits_value 16 (d ∷ digits)) b (omega arith)

-- in the blanks after the digits, a byte has the fault that the table gives it
pub pad_table : (sum count size b d p : ℕ) (digits pad : List ℕ) → count ≡ length ((d ∷ digits) ++ ((p ∷ pad) ++ []))
    → fault_of (step (at sum (Pad count size)) b) ≡ fault_at sum (in_line (d ∷ digits) (p ∷ pad) None) b
pad_table sum count size b d p digits pad count_is =
    ap (λ n. fault_of (step (at sum (Pad n size)) b)) count_is ∙ pad_body sum (length ((d ∷ digits) ++ ((p ∷ pad) ++ []))) size b

-- in an extension after the digits, a byte has the fault that the table gives it
pub extension_table : (sum count size b d : ℕ) (digits pad extension : List ℕ) (item : Item) (found : Bool)
    → count ≡ length ((d ∷ digits) ++ (pad ++ 59 ∷ extension))
    → fault_of (step (at sum (Extension count size item found)) b) ≡ fault_at sum (in_line (d ∷ digits) pad (Some extension)) b
extension_table sum count size b d digits [] extension item found count_is =
    ap (λ n. fault_of (step (at sum (Extension n size item found)) b)) count_is
    ∙ extension_body sum (length ((d ∷ digits) ++ ([] ++ 59 ∷ extension))) size b item found
extension_table sum count size b d digits (p ∷ pad) extension item found count_is =
    ap (λ n. fault_of (step (at sum (Extension n size item found)) b)) count_is
    ∙ extension_body sum (length ((d ∷ digits) ++ ((p ∷ pad) ++ 59 ∷ extension))) size b item found

-- after the CR of a size line, a byte has the fault that the table gives it
pub line_end_table : (sum size b : ℕ) (ieof : Bool) → fault_of (step (at sum (LineCr size ieof)) b) ≡ fault_at sum (behind_line size) b
unfolding step in_line_cr faulted_at
line_end_table sum size b ieof = grind (arith, nat_tests)

-- ---- data

-- in the data of a chunk, a byte has the fault that the table gives it, whatever the sums
pub data_table : (sum base more b : ℕ) → fault_of (step (at sum (Data more)) b) ≡ fault_at base within_data b
unfolding step in_data faulted_at
data_table sum base more b = grind (arith, nat_tests)

-- just after the data of a chunk, a byte has the fault that the table gives it
pub data_end_table : (sum base b : ℕ) → fault_of (step (at sum DataEnd) b) ≡ fault_at base behind_data b
unfolding step in_data_end faulted_at
data_end_table sum base b = grind (arith, nat_tests)

-- after the CR that follows a chunk's data, a byte has the fault that the table gives it
pub data_cr_table : (sum base b : ℕ) → fault_of (step (at sum DataCr) b) ≡ fault_at base behind_data_cr b
unfolding step in_data_cr faulted_at
data_cr_table sum base b = grind (arith, nat_tests)

-- ---- trailers

-- at the start of a trailer line, a byte has the fault that the table gives it
pub trailer_start_table : (sum base count b : ℕ) (ieof : Bool)
    → fault_of (step (at sum (TrailerStart count ieof)) b) ≡ fault_at base (in_trailers count) b
unfolding step in_trailer_start faulted_at
trailer_start_table sum base count b ieof = grind (arith, nat_tests)

-- within a trailer line, a byte has the fault that the table gives it
pub trailer_table : (sum base count b : ℕ) (ieof : Bool)
    → fault_of (step (at sum (Trailer count ieof)) b) ≡ fault_at base (in_trailers count) b
unfolding step in_trailer faulted_at
trailer_table sum base count b ieof = grind (arith, nat_tests)

-- after the CR of a trailer line, a byte has the fault that the table gives it
pub trailer_cr_table : (sum base count b : ℕ) (ieof : Bool)
    → fault_of (step (at sum (TrailerCr count ieof)) b) ≡ fault_at base (behind_trailers_cr count) b
unfolding step in_trailer_cr faulted_at
trailer_cr_table sum base count b ieof = grind (arith, nat_tests)

-- after the CR of the last, empty line, a byte has the fault that the table gives it
pub last_cr_table : (sum base count b : ℕ) (ieof : Bool)
    → fault_of (step (at sum (LastCr count ieof)) b) ≡ fault_at base (behind_trailers_cr count) b
unfolding step in_last_cr faulted_at
last_cr_table sum base count b ieof = grind (arith, nat_tests)
