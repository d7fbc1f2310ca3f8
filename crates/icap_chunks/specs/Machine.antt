-- What one byte makes of a reader, and what a list of bytes does.
use Rattle.std.specs.Prelude.{◌≡◌, ℕ, ◌+◌, ◌-◌, ◌*◌, ◌<◌, Bool, true, false, ◌||◌, ◌&&◌, List, [], ◌∷◌, ◌++◌, length, take, Option, Some}
use Rattle.std.specs.Prelude.{None, if◌then◌else◌, ◌==◌, nat_lt, nat_le}
use Rattle.std.specs.Char.{digit_value, to_ascii_lowercase}
use Rattle.adapt_bytes.specs.Text.{is_blank}
use Rattle.adapt_bytes.specs.declared.limits.TheConstants.{COUNT_LIMIT}
use Rattle.icap_chunks.specs.declared.positions.TheConstants.{MAX_LINE, MAX_TRAILERS}
use Rattle.icap_chunks.specs.declared.fault.ChunkFault.{ChunkFault}
use Rattle.icap_chunks.specs.declared.fault.ChunkFault.TheVariants.{Size, TooBig, Line, Break, Trailers}
use Rattle.icap_chunks.specs.declared.extension.Item.{Item}
use Rattle.icap_chunks.specs.declared.extension.Item.TheVariants.{Blank, I, Ie, Ieo, Ieof, Other}
use Rattle.icap_chunks.specs.declared.positions.Position.{Position}
use Rattle.icap_chunks.specs.declared.positions.Position.TheVariants.{Digits, Pad, Extension, LineCr, Data, DataEnd, DataCr, TrailerStart}
use Rattle.icap_chunks.specs.declared.positions.Position.TheVariants.{Trailer, TrailerCr, LastCr, Ended, Faulted}
use Rattle.icap_chunks.specs.declared.reader.ChunkReader.{ChunkReader}

-- an item of an extension with one more byte
unfoldable pub item_with : Item → ℕ → Item
item_with Blank b = if is_blank b then Blank else (if to_ascii_lowercase b == 105 then I else Other)
item_with I b = if to_ascii_lowercase b == 101 then Ie else Other
item_with Ie b = if to_ascii_lowercase b == 111 then Ieo else Other
item_with Ieo b = if to_ascii_lowercase b == 102 then Ieof else Other
item_with Ieof b = if is_blank b then Ieof else Other
item_with Other b = Other

-- the item is the word
unfoldable pub is_word : Item → Bool
is_word Ieof = true
is_word _ = false

-- within the digits of a size line, or at its start
unfoldable pub in_digits : ℕ → ℕ → ℕ → Position
in_digits count size b =
    if b == 13 then (if count == 0 then Faulted Size else LineCr size false)
    else (if (b == 10) || nat_le MAX_LINE count then Faulted Line
    else (if nat_lt (digit_value b) 16 then (if nat_lt (size * 16 + digit_value b) COUNT_LIMIT then Digits (count + 1)
    (size * 16 + digit_value b) else Faulted TooBig)
    else (if count == 0 then Faulted Size
    else (if is_blank b then Pad (count + 1) size
    else (if b == 59 then Extension (count + 1) size Blank false else Faulted Size)))))

-- within the blanks after them
unfoldable pub in_pad : ℕ → ℕ → ℕ → Position
in_pad count size b =
    if b == 13 then LineCr size false
    else (if (b == 10) || nat_le MAX_LINE count then Faulted Line
    else (if is_blank b then Pad (count + 1) size
    else (if b == 59 then Extension (count + 1) size Blank false else Faulted Size)))

-- within an extension
unfoldable pub in_extension : ℕ → ℕ → Item → Bool → ℕ → Position
in_extension count size item found b =
    if b == 13 then LineCr size (found || is_word item)
    else (if (b == 10) || nat_le MAX_LINE count then Faulted Line
    else (if b == 59 then Extension (count + 1) size Blank (found || is_word item)
    else Extension (count + 1) size (item_with item b) found))

-- after the CR of a size line
unfoldable pub in_line_cr : ℕ → ℕ → Bool → ℕ → ChunkReader
in_line_cr sum size ieof b =
    if b == 10 then (if nat_lt (sum + size) COUNT_LIMIT
    then record { sum = sum + size; place = if size == 0 then TrailerStart 0 ieof else Data (size - 1) }
    else record { sum = sum; place = Faulted TooBig })
    else record { sum = sum; place = Faulted Line }

-- within a run of the body, with this many of its bytes after this one
unfoldable pub in_data : ℕ → Position
in_data more = if nat_lt 0 more then Data (more - 1) else DataEnd

unfoldable pub in_data_end : ℕ → Position
in_data_end b = if b == 13 then DataCr else Faulted Break

unfoldable pub in_data_cr : ℕ → Position
in_data_cr b = if b == 10 then Digits 0 0 else Faulted Break

unfoldable pub in_trailer_start : ℕ → Bool → ℕ → Position
in_trailer_start count ieof b =
    if (b == 10) || nat_le MAX_TRAILERS count then Faulted Trailers
    else (if b == 13 then LastCr (count + 1) ieof else Trailer (count + 1) ieof)

unfoldable pub in_trailer : ℕ → Bool → ℕ → Position
in_trailer count ieof b =
    if (b == 10) || nat_le MAX_TRAILERS count then Faulted Trailers
    else (if b == 13 then TrailerCr (count + 1) ieof else Trailer (count + 1) ieof)

unfoldable pub in_trailer_cr : ℕ → Bool → ℕ → Position
in_trailer_cr count ieof b =
    if (b == 10) && nat_lt count MAX_TRAILERS then TrailerStart (count + 1) ieof else Faulted Trailers

unfoldable pub in_last_cr : ℕ → Bool → ℕ → Position
in_last_cr count ieof b = if (b == 10) && nat_lt count MAX_TRAILERS then Ended ieof else Faulted Trailers

-- the reader with one more byte
unfoldable pub step : ChunkReader → ℕ → ChunkReader
step r b = step_at r.sum r.place b
  where
    step_at : ℕ → Position → ℕ → ChunkReader
    step_at sum (Digits count size) b = record { sum = sum; place = in_digits count size b }
    step_at sum (Pad count size) b = record { sum = sum; place = in_pad count size b }
    step_at sum (Extension count size item found) b = record { sum = sum; place = in_extension count size item found b }
    step_at sum (LineCr size ieof) b = in_line_cr sum size ieof b
    step_at sum (Data left) b = record { sum = sum; place = in_data left }
    step_at sum DataEnd b = record { sum = sum; place = in_data_end b }
    step_at sum DataCr b = record { sum = sum; place = in_data_cr b }
    step_at sum (TrailerStart count ieof) b = record { sum = sum; place = in_trailer_start count ieof b }
    step_at sum (Trailer count ieof) b = record { sum = sum; place = in_trailer count ieof b }
    step_at sum (TrailerCr count ieof) b = record { sum = sum; place = in_trailer_cr count ieof b }
    step_at sum (LastCr count ieof) b = record { sum = sum; place = in_last_cr count ieof b }
    step_at sum (Ended ieof) b = record { sum = sum; place = Ended ieof }
    step_at sum (Faulted fault) b = record { sum = sum; place = Faulted fault }

-- the reader with these bytes more
abbrev pub run : ChunkReader → List ℕ → ChunkReader
run r [] = r
run r (b ∷ bytes) = run (step r b) bytes

-- the next byte is one of the body
unfoldable pub is_data : Position → Bool
is_data (Data left) = true
is_data _ = false

-- how the body has ended, if it has
unfoldable pub end_at : Position → Option Bool
end_at (Ended ieof) = Some ieof
end_at _ = None

-- the fault, if there is one
unfoldable pub faulted_at : Position → Option ChunkFault
faulted_at (Faulted fault) = Some fault
faulted_at _ = None

-- framing is read up to here: the next byte is one of the body, or none is read any more
unfoldable pub pauses_at : Position → Bool
pauses_at (Data left) = true
pauses_at (Ended ieof) = true
pauses_at (Faulted fault) = true
pauses_at _ = false

abbrev pub end_of : ChunkReader → Option Bool
end_of r = end_at r.place

abbrev pub fault_of : ChunkReader → Option ChunkFault
fault_of r = faulted_at r.place

-- the next byte is one of the body
abbrev pub is_in_data : ChunkReader → Bool
is_in_data r = is_data r.place

-- the reader before its first byte
abbrev pub start : ChunkReader
start = record { sum = 0; place = Digits 0 0 }

-- the bytes of the body among these
abbrev pub body_of : ChunkReader → List ℕ → List ℕ
body_of r [] = []
body_of r (b ∷ bytes) = (if is_data r.place then b ∷ [] else []) ++ body_of (step r b) bytes

-- the reader after this many bytes of a run of the body
abbrev pub data_behind : ℕ → ℕ → ℕ → ChunkReader
data_behind sum more n = record { sum = sum; place = if nat_le n more then Data (more - n) else DataEnd }

-- the body ends with just these bytes
pub record EndsAt (text : List ℕ) (ieof : Bool) : Type 0 where
  pub ended : end_of (run start text) ≡ Some ieof
  pub first : (k : ℕ) → k < length text → end_of (run start (take k text)) ≡ None

-- the reader has read these bytes, none of them after the end, and has found this body
pub record HasRead (text body : List ℕ) (r : ChunkReader) : Type 0 where
  pub read : run start text ≡ r
  pub found : body_of start text ≡ body
  pub first : (k : ℕ) → k < length text → end_of (run start (take k text)) ≡ None
