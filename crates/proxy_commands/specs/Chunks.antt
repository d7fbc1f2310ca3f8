-- What is printed for a chunked body (RFC 9112, section 7.1; RFC 3507, section 4.5).
use Rattle.std.specs.Prelude.{◌≡◌, ℕ, ◌-◌, ◌<◌, ◌≤◌, Bool, true, false, List, [], ◌∷◌, ◌++◌, length, codes}
use Rattle.adapt_bytes.specs.Numeral.{numeral}
use Rattle.hex.specs.Hex.{encode_lower}
use Rattle.icap_chunks.specs.declared.fault.ChunkFault.{ChunkFault}
use Rattle.icap_chunks.specs.declared.fault.ChunkFault.TheVariants.{Size, TooBig, Line, Break, Trailers}
use Rattle.icap_chunks.specs.declared.pieces.Outcome.{Outcome}
use Rattle.icap_chunks.specs.declared.pieces.Outcome.TheVariants.{More, Ended, Faulted}
use Rattle.icap_chunks.specs.Reading.{number_of, IsReading}
use Rattle.adapt_bytes.specs.declared.limits.TheConstants.{MAX_INPUT}
use Rattle.proxy_commands.specs.declared.error.Error.{Error}
use Rattle.proxy_commands.specs.declared.error.Error.TheVariants.{InputTooLong, NoMemory}

-- the body in hexadecimal, two digits a byte; `-` if it is empty
abbrev pub body_text : List ℕ → List ℕ
body_text [] = codes "body -\n"
body_text (b ∷ bytes) = codes "body " ++ encode_lower (b ∷ bytes) ++ codes "\n"

abbrev pub fault_name : ChunkFault → List ℕ
fault_name Size = codes "Size"
fault_name TooBig = codes "TooBig"
fault_name Line = codes "Line"
fault_name Break = codes "Break"
fault_name Trailers = codes "Trailers"

abbrev pub end_text : Bool → List ℕ
end_text true = codes "end ieof\n"
end_text false = codes "end plain\n"

-- how the reading of a text of this many bytes went
abbrev pub outcome_text : ℕ → Outcome → List ℕ
outcome_text count More = codes "more\n"
outcome_text count (Ended ieof used) = end_text ieof ++ codes "rest " ++ numeral 10 (count - used) ++ codes "\n"
outcome_text count (Faulted fault) = codes "fault " ++ numeral 10 (number_of fault) ++ codes " " ++ fault_name fault ++ codes "\n"

-- the bytes are what is printed for the text as a chunked body; no size of pieces is in it
abbrev pub IsChunksOutput : List ℕ → List ℕ → Type 0
IsChunksOutput text output =
    (body : List ℕ) × (outcome : Outcome) × IsReading text body outcome × (output ≡ body_text body ++ outcome_text (length text) outcome)

-- an end is within a text of this many bytes
abbrev pub EndsWithin : ℕ → Outcome → Type 0
EndsWithin count (Ended ieof used) = used ≤ count
EndsWithin count _ = Unit {0}

-- why a text isn't read as a chunked body
abbrev pub IsChunksRefused : List ℕ → Error → Type 0
IsChunksRefused text InputTooLong = MAX_INPUT < length text
IsChunksRefused text NoMemory = length text ≤ MAX_INPUT
IsChunksRefused text _ = ⊥
