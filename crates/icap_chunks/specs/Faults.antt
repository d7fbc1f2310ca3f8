-- Which byte breaks a chunked body, and how: RFC 9112, section 7.1, with bounds on a line, on the sizes and on the trailers.
use Rattle.std.specs.Prelude.{◌≡◌, ℕ, ◌+◌, ◌*◌, ◌<◌, ◌≤◌, ◌⊎◌, Bool, false, not, ◌||◌, ◌&&◌, List, [], ◌∷◌, ◌++◌, length, Option, Some}
use Rattle.std.specs.Prelude.{None, if◌then◌else◌, ◌==◌, nat_lt, nat_le}
use Rattle.std.specs.Char.{digit_value}
use Rattle.std.specs.Str.Parse.{AllDigits, digits_value}
use Rattle.icap_chunks.specs.declared.fault.ChunkFault.{ChunkFault}
use Rattle.icap_chunks.specs.declared.fault.ChunkFault.TheVariants.{Size, TooBig, Line, Break, Trailers}
use Rattle.adapt_bytes.specs.Text.{is_blank}
use Rattle.adapt_bytes.specs.declared.limits.TheConstants.{COUNT_LIMIT}
use Rattle.icap_chunks.specs.declared.positions.TheConstants.{MAX_LINE, MAX_TRAILERS}
use Rattle.icap_chunks.specs.Grammar.{is_line_byte, AllPass, SizeLine, print_line, print_extension, IsExtension, IsSizeLine, Chunks}
use Rattle.icap_chunks.specs.Grammar.{TrailerLines}

-- what a text ends in, after its whole chunks
pub data Part : Type 0 where
  -- a size line before its CR: digits, blanks and an extension, as far as they have come
  in_line : List ℕ → List ℕ → Option (List ℕ) → Part
  -- a whole size line of this size, and CR
  behind_line : ℕ → Part
  -- a size line with its CRLF, and not yet all of its data
  in_data : Part
  -- a size line, and all of its data; then CR
  behind_data : Part
  behind_data_cr : Part
  -- the last size line, and this many bytes of trailers; then CR, as the last of them
  in_trailers : ℕ → Part
  behind_trailers_cr : ℕ → Part

-- a hexadecimal digit
abbrev pub is_hex_digit : ℕ → Bool
is_hex_digit b = nat_lt (digit_value b) 16

-- may stand after a size: a blank, `;` or CR
abbrev pub ends_size : ℕ → Bool
ends_size b = is_blank b || (b == 59 || b == 13)

-- Line: LF without CR, another byte than CR after 256 of a size line, or another byte than LF after its CR
abbrev pub is_line : Part → ℕ → Bool
is_line (in_line digits pad extension) b = b == 10 || (nat_le MAX_LINE (length (digits ++ (pad ++ print_extension extension))) && not
    (b == 13))
is_line (behind_line size) b = not (b == 10)
is_line _ b = false

-- Size: no digit first, or after the digits or the blanks a byte that may not stand there
abbrev pub is_size : Part → ℕ → Bool
is_size (in_line [] pad extension) b = not (is_hex_digit b)
is_size (in_line (d ∷ digits) [] None) b = not (is_hex_digit b || ends_size b)
is_size (in_line (d ∷ digits) (p ∷ pad) None) b = not (ends_size b)
is_size _ b = false

-- TooBig: the digit that brings the size past the greatest, or the end of the line whose size brings the sum past it
abbrev pub is_too_big : ℕ → Part → ℕ → Bool
is_too_big sum (in_line digits [] None) b = is_hex_digit b && nat_le COUNT_LIMIT (digits_value 16 digits * 16 + digit_value b)
is_too_big sum (behind_line size) b = nat_le COUNT_LIMIT (sum + size)
is_too_big sum _ b = false

-- Break: another byte than CR LF after the data
abbrev pub is_break : Part → ℕ → Bool
is_break behind_data b = not (b == 13)
is_break behind_data_cr b = not (b == 10)
is_break _ b = false

-- Trailers: a byte past 8,192 of them, LF without CR, or another byte than LF after CR
abbrev pub is_trailers : Part → ℕ → Bool
is_trailers (in_trailers count) b = nat_le MAX_TRAILERS count || b == 10
is_trailers (behind_trailers_cr count) b = nat_le MAX_TRAILERS count || not (b == 10)
is_trailers _ b = false

-- the fault of a byte after a part, where the sizes of the chunks before it have this sum; Line comes before the others
abbrev pub fault_at : ℕ → Part → ℕ → Option ChunkFault
fault_at sum part b =
    if is_line part b then Some Line
    else (if is_size part b then Some Size
    else (if is_too_big sum part b then Some TooBig
    else (if is_break part b then Some Break
    else (if is_trailers part b then Some Trailers else None))))

-- ---- the text ends in the part

-- whole chunks with these bytes, and then the tail
pub record Behind (text body tail : List ℕ) : Type 0 where
  pub front : List ℕ
  pub chunks : Chunks front body
  pub text_is : text ≡ front ++ tail

-- blanks and an extension stand after a digit at least
pub record InLine (text body digits pad : List ℕ) (extension : Option (List ℕ)) : Type 0 where
  pub behind : Behind text body (digits ++ (pad ++ print_extension extension))
  pub all : AllDigits 16 digits
  pub blanks : AllPass is_blank pad
  pub bytes : IsExtension extension
  pub begun : (0 < length digits) ⊎ ((pad ≡ []) × (extension ≡ None))
  pub short : length (digits ++ (pad ++ print_extension extension)) ≤ MAX_LINE
  pub fits : digits_value 16 digits < COUNT_LIMIT

pub record BehindLine (text body : List ℕ) (size : ℕ) : Type 0 where
  pub line : SizeLine
  pub behind : Behind text body (print_line line ++ 13 ∷ [])
  pub is : IsSizeLine line size

-- the body is that of the whole chunks, and the data that has come; so much of it is missing
pub record InChunk (text body : List ℕ) (missing : ℕ) (tail : List ℕ) : Type 0 where
  pub done : List ℕ
  pub bytes : List ℕ
  pub line : SizeLine
  pub size : ℕ
  pub behind : Behind text done (print_line line ++ (13 ∷ 10 ∷ (bytes ++ tail)))
  pub is : IsSizeLine line size
  pub some : 0 < size
  pub fits : length done + size < COUNT_LIMIT
  pub body_is : body ≡ done ++ bytes
  pub missing_is : length bytes + missing ≡ size

-- whole trailer lines, and a line before its CR
pub record InTrailers (text body : List ℕ) (count : ℕ) (tail : List ℕ) : Type 0 where
  pub last : SizeLine
  pub lines : List ℕ
  pub line : List ℕ
  pub behind : Behind text body (print_line last ++ (13 ∷ 10 ∷ (lines ++ (line ++ tail))))
  pub is : IsSizeLine last 0
  pub whole : TrailerLines lines
  pub bytes : AllPass is_line_byte line
  pub count_is : count ≡ length lines + (length line + length tail)
  pub short : count ≤ MAX_TRAILERS

-- the text ends in the part, and has this much of the body
abbrev pub EndsIn : List ℕ → List ℕ → Part → Type 0
EndsIn text body (in_line digits pad extension) = InLine text body digits pad extension
EndsIn text body (behind_line size) = BehindLine text body size
EndsIn text body in_data = (missing : ℕ) × (0 < missing) × InChunk text body missing []
EndsIn text body behind_data = InChunk text body 0 []
EndsIn text body behind_data_cr = InChunk text body 0 (13 ∷ [])
EndsIn text body (in_trailers count) = InTrailers text body count []
EndsIn text body (behind_trailers_cr count) = InTrailers text body count (13 ∷ [])

-- No byte of a first part of the text breaks the grammar, and the byte after it breaks it with this fault. What follows is not read.
pub record Breaks (text body : List ℕ) (fault : ChunkFault) : Type 0 where
  pub good : List ℕ
  pub byte : ℕ
  pub rest : List ℕ
  pub part : Part
  pub ends : EndsIn good body part
  pub breaks : fault_at (length body) part byte ≡ Some fault
  pub text_is : text ≡ good ++ byte ∷ rest
