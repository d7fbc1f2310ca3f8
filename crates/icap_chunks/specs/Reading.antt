-- What a whole text is, as a chunked body.
use Rattle.std.specs.Prelude.{ℕ, List, ◌≤◌, length, take}
use Rattle.icap_chunks.specs.declared.fault.ChunkFault.{ChunkFault}
use Rattle.icap_chunks.specs.declared.fault.ChunkFault.TheVariants.{Size, TooBig, Line, Break, Trailers}
use Rattle.icap_chunks.specs.declared.pieces.Outcome.{Outcome}
use Rattle.icap_chunks.specs.declared.pieces.Outcome.TheVariants.{More, Ended, Faulted}
use Rattle.icap_chunks.specs.Grammar.{IsChunked}
use Rattle.icap_chunks.specs.Faults.{Part, EndsIn, Breaks}

-- a fault's number
unfoldable pub number_of : ChunkFault → ℕ
number_of Size = 1
number_of TooBig = 2
number_of Line = 3
number_of Break = 4
number_of Trailers = 5

-- a body with this many bytes of the text, and any others after it; or a text that breaks the grammar; or a prefix of a body,
-- with the bytes of the body that have come
abbrev pub IsReading : List ℕ → List ℕ → Outcome → Type 0
IsReading text body (Ended ieof used) = (used ≤ length text) × IsChunked (take used text) body ieof
IsReading text body (Faulted fault) = Breaks text body fault
IsReading text body More = (part : Part) × EndsIn text body part
