-- Which part of the grammar a text is a prefix of, where the reader stands at a place.
use Rattle.std.specs.Prelude.{◌≡◌, ℕ, suc, ◌+◌, ◌<◌, ◌≤◌, Bool, false, ◌||◌, List, [], ◌∷◌, ◌++◌, length, if◌then◌else◌, ◌==◌}
use Rattle.std.specs.Str.Parse.{AllDigits, digits_value}
use Rattle.adapt_bytes.specs.Numeral.{Writes}
use Rattle.icap_chunks.specs.declared.extension.Item.{Item}
use Rattle.icap_chunks.specs.declared.extension.Item.TheVariants.{Blank}
use Rattle.icap_chunks.specs.declared.positions.Position.{Position}
use Rattle.icap_chunks.specs.declared.positions.Position.TheVariants.{Digits, Pad, Extension, LineCr, Data, DataEnd, DataCr, TrailerStart}
use Rattle.icap_chunks.specs.declared.positions.Position.TheVariants.{Trailer, TrailerCr, LastCr, Ended, Faulted}
use Rattle.adapt_bytes.specs.Text.{is_blank}
use Rattle.icap_chunks.specs.Grammar.{is_line_byte, AllPass, SizeLine, print_line, has_ieof, IsSizeLine, Chunks, TrailerLines, IsChunked}
use Rattle.icap_chunks.specs.Machine.{item_with, is_word}

-- what a reader keeps of an extension: the item, and whether one before it is `ieof`
abbrev pub extension_with : Item × Bool → ℕ → Item × Bool
extension_with s b = if b == 59 then (Blank, s.1 || is_word s.0) else (item_with s.0 b, s.1)

abbrev pub extension_behind : Item × Bool → List ℕ → Item × Bool
extension_behind s [] = s
extension_behind s (b ∷ text) = extension_behind (extension_with s b) text

-- whole chunks, and a part of what comes after them
pub record Front (text body part : List ℕ) (sum : ℕ) : Type 0 where
  pub front : List ℕ
  pub chunks : Chunks front body
  pub text_is : text ≡ front ++ part
  pub sum_is : sum ≡ length body

pub record InDigits (text body : List ℕ) (sum count size : ℕ) : Type 0 where
  pub digits : List ℕ
  pub front : Front text body digits sum
  pub all : AllDigits 16 digits
  pub count_is : count ≡ length digits
  pub size_is : digits_value 16 digits ≡ size
  pub short : count ≤ 256
  pub fits : size < 4611686018427387904

pub record InPad (text body : List ℕ) (sum count size : ℕ) : Type 0 where
  pub digits : List ℕ
  pub pad : List ℕ
  pub front : Front text body (digits ++ pad) sum
  pub writes : Writes 16 digits size
  pub blanks : AllPass is_blank pad
  pub some : 0 < length pad
  pub count_is : count ≡ length digits + length pad
  pub short : count ≤ 256
  pub fits : size < 4611686018427387904

pub record InExtension (text body : List ℕ) (sum count size : ℕ) (item : Item) (found : Bool) : Type 0 where
  pub digits : List ℕ
  pub pad : List ℕ
  pub extension : List ℕ
  pub front : Front text body (digits ++ (pad ++ 59 ∷ extension)) sum
  pub writes : Writes 16 digits size
  pub blanks : AllPass is_blank pad
  pub all : AllPass is_line_byte extension
  pub behind : extension_behind (Blank, false) extension ≡ (item, found)
  pub count_is : count ≡ length digits + (length pad + suc (length extension))
  pub short : count ≤ 256
  pub fits : size < 4611686018427387904

pub record InLineEnd (text body : List ℕ) (sum size : ℕ) (ieof : Bool) : Type 0 where
  pub l : SizeLine
  pub front : Front text body (print_line l ++ 13 ∷ []) sum
  pub is : IsSizeLine l size
  pub ieof_is : has_ieof l.extension ≡ ieof

-- in the data of a chunk, or after it, where the tail of its bytes follows
pub record InChunk (text body : List ℕ) (sum left : ℕ) (tail : List ℕ) : Type 0 where
  pub done : List ℕ
  pub bytes : List ℕ
  pub l : SizeLine
  pub size : ℕ
  pub front : Front text done (print_line l ++ (13 ∷ 10 ∷ (bytes ++ tail))) (length done)
  pub is : IsSizeLine l size
  pub body_is : body ≡ done ++ bytes
  pub sum_is : sum ≡ length done + size
  pub sum_fits : sum < 4611686018427387904
  pub left_is : length bytes + left ≡ size
  pub some : 0 < size

pub record InTrailers (text body : List ℕ) (sum count : ℕ) (ieof : Bool) (part : List ℕ) : Type 0 where
  pub l : SizeLine
  pub trailers : List ℕ
  pub front : Front text body (print_line l ++ (13 ∷ 10 ∷ (trailers ++ part))) sum
  pub is : IsSizeLine l 0
  pub ieof_is : has_ieof l.extension ≡ ieof
  pub lines : TrailerLines trailers
  pub count_is : count ≡ length trailers + length part
  pub short : count ≤ 8192

pub record HasEnded (text body : List ℕ) (ieof : Bool) : Type 0 where
  pub whole : List ℕ
  pub rest : List ℕ
  pub is : IsChunked whole body ieof
  pub text_is : text ≡ whole ++ rest

-- the text leaves its reader at the place, unless that is a fault
abbrev pub LeavesAt : List ℕ → List ℕ → ℕ → Position → Type 0
LeavesAt text body sum (Digits count size) = InDigits text body sum count size
LeavesAt text body sum (Pad count size) = InPad text body sum count size
LeavesAt text body sum (Extension count size item found) = InExtension text body sum count size item found
LeavesAt text body sum (LineCr size ieof) = InLineEnd text body sum size ieof
LeavesAt text body sum (Data more) = InChunk text body sum (more + 1) []
LeavesAt text body sum DataEnd = InChunk text body sum 0 []
LeavesAt text body sum DataCr = InChunk text body sum 0 (13 ∷ [])
LeavesAt text body sum (TrailerStart count ieof) = InTrailers text body sum count ieof []
LeavesAt text body sum (Trailer count ieof) = (part : List ℕ) × InTrailers text body sum count ieof part × (0 < length part)
    × AllPass is_line_byte part
LeavesAt text body sum (TrailerCr count ieof) = (part : List ℕ) × InTrailers text body sum count ieof (part ++ 13 ∷ []) × (0 < length part)
    × AllPass is_line_byte part
LeavesAt text body sum (LastCr count ieof) = InTrailers text body sum count ieof (13 ∷ [])
LeavesAt text body sum (Ended ieof) = HasEnded text body ieof
LeavesAt text body sum (Faulted fault) = Unit {0}
