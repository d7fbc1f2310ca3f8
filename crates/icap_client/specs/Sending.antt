-- What the sending side has written, as a relation over histories.
use Rattle.std.specs.Prelude.{◌≡◌, ℕ, ◌+◌, ◌<◌, ◌≤◌, ◌⊎◌, Bool, true, false, List, [], ◌∷◌, ◌++◌, length, take, drop, Option, Some, None}
use Rattle.std.specs.Prelude.{IfSome, if◌then◌else◌, ◌&&◌, not, ◌==◌, IsSomeAnd}
use Rattle.icap_chunks.specs.Grammar.{last_chunk}
use Rattle.trace_core.specs.declared.history.Event.{Event}
use Rattle.trace_core.specs.declared.history.Event.TheVariants.{Svc, Stop}
use Rattle.trace_core.specs.declared.history.Seen.{Seen}
use Rattle.trace_core.specs.History.{is_preview}
use Rattle.trace_core.specs.Legal.{Allows, MaySend, open_preview}
use Rattle.trace_core.specs.View.{ieof_now}
use Rattle.span_tape.specs.Tape.{Tape}
pub use Rattle.adapt_sides.specs.Tapes.{KeepsUnsent}
use Rattle.chunk_writer.specs.Writer.{Writer, waiting, IsFraming, is_ending, end_text, FitsTurn}
pub use Rattle.chunk_writer.specs.Writer.{KeepsNoText}
use Rattle.chunk_writer.specs.Behind.{WaitsBehind}
use Rattle.chunk_writer.specs.declared.next.Next.{Next}
use Rattle.icap_client.specs.RequestText.{is_null}
use Rattle.icap_client.specs.Events.{MayCome}
use Rattle.icap_client.specs.Front.{Front, HasBody}

-- the text of the next last chunk: nothing if there is no body
abbrev pub stop_text : Seen → List ℕ
stop_text x = if is_null x.plan.len then [] else last_chunk (ieof_now x)

-- Of the request with this head these bytes were taken on the wire, and the history shows x; `came` are the body bytes that came
-- from the source.
pub record HasSent (head : List ℕ) (x : Seen) (came taken : List ℕ) (w : Writer) : Type 0 where
  pub chunks : List ℕ
  pub fixed : taken ++ waiting w ≡ head ++ chunks
  pub front : Front x (take x.sent came) chunks w.left
  pub there : x.sent + w.left ≤ x.received
  pub in_preview : IfSome (open_preview x) (λ p. x.sent + w.left ≤ p)
  pub framing : IsFraming w.framing
  -- once a byte of the body is out, all that were counted are, and what waits is framing text after them
  pub waits : 0 < x.sent → WaitsBehind (HasBody (take x.sent came)) chunks (waiting w)

-- The text of a request's heads, as it is dropped once it is out: what waits stays.
pub record DropsText (old new : Writer) : Type 0 where
  pub waiting_is : waiting new ≡ waiting old
  pub framing : new.framing ≡ old.framing
  pub left : new.left ≡ old.left

-- the text of the heads is the one it was, or none
abbrev pub KeepsOrDrops : Writer → Writer → Type 0
KeepsOrDrops old new = (new.head ≡ old.head) ⊎ (new.head ≡ [])

-- this many came, and the tape's bytes are the last of them
pub record Came (x : Seen) (tape : Tape) (came : List ℕ) : Type 0 where
  pub count : length came ≡ x.received
  pub bytes : drop tape.base came ≡ tape.bytes

-- no text waits, and no event of sending may follow
pub record NothingDue (x : Seen) (w : Writer) : Type 0 where
  pub flushed : waiting w ≡ []
  pub none : (n : ℕ) → x.closed ≡ false → Allows x (Svc n) → ⊥
  pub no_stop : x.closed ≡ false → Allows x Stop → ⊥

-- What a turn decides before it writes.

-- a last chunk is due once the body has gone this far: to its end, or to the end of the preview
abbrev pub StopsAt : Seen → ℕ → Type 0
StopsAt x place = ((x.ended ≡ true) × (place ≡ x.received)) ⊎ IsSomeAnd (open_preview x) (λ p. place ≡ p)

-- after this many more bytes, if any may go
abbrev pub StopsBehind : Seen → ℕ → Type 0
StopsBehind x n = (x.closed ≡ false) × MaySend x × StopsAt x (x.sent + n)

-- and its text: nothing if there is no body; with ieof if the preview is the whole body
abbrev pub stop_text_at : Seen → ℕ → List ℕ
stop_text_at x place =
    if is_null x.plan.len then []
    else last_chunk (is_preview x.plan.kind && not x.stopped && x.ended && (place == x.received))

-- What comes next in a turn of at most this many bytes: of the body bytes that may be sent all that fit into the turn and into the
-- chunk that was begun, and after them the last chunk, if it is due. So there is one such next.
pub record Decides (most : ℕ) (x : Seen) (w : Writer) (next : Next) : Type 0 where
  pub chunked : next.chunked ≡ true
  pub from : next.from ≡ x.sent
  pub fits : FitsTurn w true next.count
  pub few : next.count ≤ most
  pub svc : 0 < next.count → MayCome x (Svc next.count)
  pub greatest : (n : ℕ) → MayCome x (Svc n) → n ≤ most → FitsTurn w true n → n ≤ next.count
  pub some : (n : ℕ) → MayCome x (Svc n) → 0 < next.count
  pub stop : is_ending next.end ≡ true → StopsBehind x next.count
  pub no_stop : is_ending next.end ≡ false → StopsBehind x next.count → ⊥
  pub text : is_ending next.end ≡ true → end_text next.end ≡ stop_text_at x (x.sent + next.count)

-- the bytes of the body that were sent, where any text was
abbrev pub count_of : Option ℕ → ℕ
count_of None = 0
count_of (Some n) = n

-- the events of a turn that sent this many bytes of the body, and fixed a last chunk or not
abbrev pub svc_events : ℕ → List Event
svc_events n = if n == 0 then [] else Svc n ∷ []

abbrev pub sending_events : ℕ → Bool → List Event
sending_events n true = svc_events n ++ Stop ∷ []
sending_events n false = svc_events n
