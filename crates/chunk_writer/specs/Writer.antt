-- Text that goes out by turns, and what comes next of it.
use Rattle.std.specs.Prelude.{◌≡◌, ℕ, ◌+◌, ◌-◌, ◌<◌, ◌≤◌, Bool, true, false, List, [], ◌++◌, length, take, drop, if◌then◌else◌, nat_lt}
use Rattle.std.specs.Prelude.{◌==◌, ◌&&◌, vec_capacity}
use Rattle.icap_chunks.specs.Grammar.{chunk_head, last_chunk, crlf}
use Rattle.span_tape.specs.Tape.{Tape}
use Rattle.chunk_writer.specs.declared.draft.TheConstants.{LONG_HEAD}
use Rattle.chunk_writer.specs.declared.head.HeadText.{HeadText}
use Rattle.chunk_writer.specs.declared.head.HeadText.TheVariants.{Owned, Constant}
use Rattle.chunk_writer.specs.declared.next.TheConstants.{MAX_CHUNK}
use Rattle.chunk_writer.specs.declared.next.Next.{Next}
use Rattle.chunk_writer.specs.declared.next.Ending.{Ending}
use Rattle.chunk_writer.specs.declared.next.Ending.TheVariants.{NotYet, Silent, LastChunk}

-- A text, one framing text after it, how much of both is out, and how many body bytes the chunk that was begun waits for.
pub record Writer : Type 0 where
  pub head : List ℕ
  pub head_out : ℕ
  pub framing : List ℕ
  pub framing_out : ℕ
  pub left : ℕ

-- the bytes of the text before the body
abbrev pub text_of : HeadText → List ℕ
text_of (Owned text) = text.items
text_of (Constant text) = text.now

-- the memory that it holds, in bytes
abbrev pub room_of : HeadText → ℕ
room_of (Owned text) = vec_capacity text
room_of (Constant text) = 0

-- an empty text holds no memory
abbrev pub HoldsNoMore : HeadText → Type 0
HoldsNoMore text = text_of text ≡ [] → room_of text ≡ 0

-- before its first turn
abbrev pub fresh : List ℕ → Writer
fresh head = record { head = head; head_out = 0; framing = []; framing_out = 0; left = 0 }

-- what is fixed and not yet taken
abbrev pub waiting : Writer → List ℕ
waiting w = drop w.head_out w.head ++ drop w.framing_out w.framing

-- no text is kept that is out
abbrev pub KeepsNoText : Writer → Type 0
KeepsNoText w = drop w.head_out w.head ≡ [] → w.head ≡ []

-- with a chunk of n bytes begun
abbrev pub begun : Writer → ℕ → Writer
begun w n = record { head = w.head; head_out = w.head_out; framing = chunk_head n; framing_out = 0; left = n }

-- with this framing text fixed
abbrev pub fixed : Writer → List ℕ → Writer
fixed w text = record { head = w.head; head_out = w.head_out; framing = text; framing_out = 0; left = w.left }

-- after k bytes of the chunk went out; the chunk's end is fixed if they were its last
abbrev pub sent_on : Writer → ℕ → Writer
sent_on w k = record {
  head = w.head;
  head_out = w.head_out;
  framing = if nat_lt k w.left then w.framing else crlf;
  framing_out = if nat_lt k w.left then w.framing_out else 0;
  left = w.left - k;
}

-- after k bytes of the body went out, in chunks or not
abbrev pub after_data : Bool → Writer → ℕ → Writer
after_data true w k = sent_on w k
after_data false w k = w

-- one framing text, without body bytes
pub data IsFraming : List ℕ → Type 0 where
  none : IsFraming []
  size : (n : ℕ) → IsFraming (chunk_head n)
  tail : IsFraming crlf
  last : (ieof : Bool) → IsFraming (last_chunk ieof)

-- What may come next.

-- the body's bytes
abbrev pub bytes_of : Tape → Next → List ℕ
bytes_of tape next = take next.count (drop (next.from - tape.base) tape.bytes)

-- the text of the body's end
abbrev pub end_text : Ending → List ℕ
end_text NotYet = []
end_text Silent = []
end_text (LastChunk ieof) = last_chunk ieof

abbrev pub is_ending : Ending → Bool
is_ending NotYet = false
is_ending Silent = true
is_ending (LastChunk ieof) = true

-- what follows these bytes: the end of the chunk, if they complete one, and the body's end
abbrev pub behind_data : Bool → ℕ → Next → List ℕ
behind_data false left next = end_text next.end
behind_data true left next = if next.count == left then crlf ++ end_text next.end else []

-- the bytes and what follows them
abbrev pub data_text : ℕ → Tape → Next → List ℕ
data_text left tape next = bytes_of tape next ++ behind_data next.chunked left next

-- what comes next if no chunk is begun
abbrev pub chunk_text : Tape → Next → List ℕ
chunk_text tape next = chunk_head next.count ++ data_text next.count tape next

-- what comes next, after what waits
abbrev pub next_text : ℕ → Tape → Next → List ℕ
next_text left tape next =
    if next.count == 0 then end_text next.end
    else if next.chunked && (left == 0) then chunk_text tape next
    else data_text left tape next

-- What a turn offers: a long head alone; else all that waits, and what comes next.
abbrev pub offered : Writer → Tape → Next → List ℕ
offered w tape next =
    if nat_lt LONG_HEAD (length w.head - w.head_out) then drop w.head_out w.head
    else waiting w ++ next_text w.left tape next

-- this many body bytes fit into one turn, and into the chunk that was begun
abbrev pub FitsTurn : Writer → Bool → ℕ → Type 0
FitsTurn w chunked n = (n ≤ MAX_CHUNK) × (chunked ≡ true → 0 < w.left → n ≤ w.left)

-- a turn may go on so: the bytes are on the tape, and they fit into one turn and into the chunk that was begun
pub record MayGoOn (w : Writer) (tape : Tape) (next : Next) : Type 0 where
  pub low : 0 < next.count → tape.base ≤ next.from
  pub there : 0 < next.count → next.from + next.count ≤ tape.base + length tape.bytes
  pub few : next.count ≤ MAX_CHUNK
  pub within : next.chunked ≡ true → 0 < w.left → next.count ≤ w.left

-- nothing waits and no byte comes next; the end, if it may be fixed, is fixed
pub record IsIdle (w : Writer) (next : Next) (sent : ℕ) (ended : Bool) : Type 0 where
  pub out : waiting w ≡ []
  pub none : next.count ≡ 0
  pub none_sent : sent ≡ 0
  pub end_fixed : ended ≡ is_ending next.end
