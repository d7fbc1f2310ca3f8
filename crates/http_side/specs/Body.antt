-- A body by its framing: which texts are whole bodies, and what a reader has read.
use Rattle.std.specs.Prelude.{◌≡◌, ℕ, ◌-◌, ◌≤◌, Bool, true, false, is_some, List, [], length, Option, Some, None as Nothing, if◌then◌else◌}
use Rattle.std.specs.Prelude.{◌==◌, nat_lt}
use Rattle.icap_chunks.specs.Grammar.{IsChunked}
use Rattle.icap_chunks.specs.Machine as chunks
use Rattle.icap_chunks.specs.declared.reader.ChunkReader.{ChunkReader}
use Rattle.icap_chunks.specs.declared.fault.ChunkFault.{ChunkFault}
use Rattle.http_side.specs.declared.body.Framing.{Framing}
use Rattle.http_side.specs.declared.body.Framing.TheVariants.{None, Length, Chunked, Close}
use Rattle.http_side.specs.declared.body.BodyReader.{BodyReader}
use Rattle.http_side.specs.declared.body.Progress.{Progress}
use Rattle.http_side.specs.declared.body.Progress.TheVariants.{Left, Chunks, Open}

-- the text is a whole body of this framing, and these are its bytes; no text is one that the close ends
abbrev pub IsBody : Framing → List ℕ → List ℕ → Type 0
IsBody None text body = (text ≡ []) × (body ≡ [])
IsBody (Length n) text body = (length text ≡ n) × (body ≡ text)
IsBody Chunked text body = (ieof : Bool) × IsChunked text body ieof
IsBody Close text body = ⊥

-- the text is a whole body where the connection closes after it
abbrev pub IsClosedBody : Framing → List ℕ → List ℕ → Type 0
IsClosedBody Close text body = body ≡ text
IsClosedBody None text body = IsBody None text body
IsClosedBody (Length n) text body = IsBody (Length n) text body
IsClosedBody Chunked text body = IsBody Chunked text body

-- the reader has read these bytes of a body of this framing, none of them after its end, and has found these of the body
abbrev pub HasRead : Framing → List ℕ → List ℕ → BodyReader → Type 0
HasRead None text body r = (text ≡ []) × (body ≡ []) × (r.place ≡ Left 0)
HasRead (Length n) text body r = (body ≡ text) × (length text ≤ n) × (r.place ≡ Left (n - length text))
HasRead Chunked text body r = (reader : ChunkReader) × chunks.HasRead text body reader × (r.place ≡ Chunks reader)
HasRead Close text body r = (body ≡ text) × (r.place ≡ Open)

-- nothing is left of the body
abbrev pub is_over_at : Progress → Bool
is_over_at (Left n) = n == 0
is_over_at (Chunks reader) = is_some (chunks.end_of reader)
is_over_at Open = false

abbrev pub is_over : BodyReader → Bool
is_over r = is_over_at r.place

-- what a feed says of the end
abbrev pub end_said : BodyReader → Option Bool
end_said r = if is_over r then Some false else Nothing

-- the next byte is one of the body: of its length, of a chunk's data, or any one up to the close
abbrev pub is_in_data_at : Progress → Bool
is_in_data_at (Left n) = nat_lt 0 n
is_in_data_at (Chunks reader) = chunks.is_in_data reader
is_in_data_at Open = true

abbrev pub is_in_data : BodyReader → Bool
is_in_data r = is_in_data_at r.place

-- so many bytes that come next are the body's, whatever they are, and further ones after them: more is left of its length, or all
-- bytes are its up to the close
abbrev pub runs_past_at : ℕ → Progress → Bool
runs_past_at n (Left left) = nat_lt n left
runs_past_at n (Chunks reader) = false
runs_past_at n Open = true

abbrev pub runs_past : ℕ → BodyReader → Bool
runs_past n r = runs_past_at n r.place

abbrev pub fault_at : Progress → Option ChunkFault
fault_at (Chunks reader) = chunks.fault_of reader
fault_at (Left n) = Nothing
fault_at Open = Nothing

-- the fault that every feed answers
abbrev pub fault_of : BodyReader → Option ChunkFault
fault_of r = fault_at r.place
