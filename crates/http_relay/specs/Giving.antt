-- What the next hop was given, as a relation over histories.
use Rattle.std.specs.Prelude.{◌≡◌, ℕ, ◌+◌, ◌<◌, ◌≤◌, Bool, true, false, List, [], ◌∷◌, ◌++◌, length, take, Option, Some, None, IfSome}
use Rattle.std.specs.Prelude.{if◌then◌else◌, ◌==◌, ◌||◌}
use Rattle.icap_chunks.specs.Grammar.{last_chunk}
use Rattle.trace_core.specs.declared.history.Event.{Event}
use Rattle.trace_core.specs.declared.history.Event.TheVariants.{Usr, Done}
use Rattle.trace_core.specs.declared.history.Seen.{Seen}
use Rattle.trace_core.specs.Legal.{Allows}
use Rattle.trace_core.specs.Faults.{chooses_original}
use Rattle.chunk_writer.specs.declared.next.Next.{Next}
use Rattle.chunk_writer.specs.Cut.{IsCut, Run}
use Rattle.chunk_writer.specs.Writer.{Writer, waiting, is_ending, end_text, FitsTurn}
use Rattle.chunk_writer.specs.Behind.{WaitsBehind}
use Rattle.http_side.specs.Refusals.{refusal}
use Rattle.http_side.specs.declared.body.Framing.{Framing}
use Rattle.http_relay.specs.declared.hop.HopStage.{HopStage}
use Rattle.http_relay.specs.declared.hop.HopStage.TheVariants as at
use Rattle.adapt_sides.specs.declared.fault.RelayFault.{RelayFault}
use Rattle.adapt_sides.specs.Turns.{Gift}
use Rattle.adapt_sides.specs.Turns.Gift.{nothing as no_gift, message as message_gift, refusal as refusal_gift}
use Rattle.adapt_sides.specs.Tapes.{chosen_delivered, chosen_received, chosen_over, IsUndelivered}
use Rattle.http_relay.specs.Message.{is_chunks, length_of}

-- a next hop's end: the text that is on its way, how the body goes, what is written, whether a byte went out, its fault, and how
-- many bytes of the body one turn writes at most
pub record Hop : Type 0 where
  pub writer : Writer
  pub framing : Framing
  pub stage : HopStage
  pub touched : Bool
  pub fault : Option RelayFault
  pub turn : ℕ

-- what is fixed of the body's text, with these bytes of the body in it; with its end or not
pub data Front (framing : Framing) (whole : Bool) (body text : List ℕ) (left : ℕ) : Type 0 where
  plain : is_chunks framing ≡ false → left ≡ 0 → text ≡ body → Front framing whole body text left
  run : is_chunks framing ≡ true → whole ≡ false → Run body text left → Front framing whole body text left
  over : is_chunks framing ≡ true → whole ≡ true → left ≡ 0 → (chunks : List ℕ) → IsCut body chunks → text ≡ chunks ++ last_chunk false
      → Front framing whole body text left

-- what waits of a text that is fixed once a byte of the body is out: nothing after a plain body; in chunks, framing text after these bytes
abbrev pub Waits : Bool → (body fixed waits : List ℕ) → Type 0
Waits false body fixed waits = waits ≡ []
Waits true body fixed waits = WaitsBehind (Run body) fixed waits

-- of a message with this head, these bytes were taken
pub record GivesMessage (x : Seen) (framing : Framing) (whole : Bool) (head body taken : List ℕ) (w : Writer) : Type 0 where
  pub behind : List ℕ
  pub fixed_is : taken ++ waiting w ≡ head ++ behind
  pub front : Front framing whole (take (chosen_delivered x) body) behind w.left
  pub there : chosen_delivered x + w.left ≤ chosen_received x
  pub within : IfSome (length_of framing) (λ n. chosen_delivered x ≤ n)
  -- once a byte of the body is out, all that were counted are, and what waits is framing text after them
  pub waits : 0 < chosen_delivered x → Waits (is_chunks framing) (take (chosen_delivered x) body) behind (waiting w)
  pub all_out : whole ≡ true → (chosen_over x ≡ true) × (chosen_delivered x ≡ chosen_received x)
      × IfSome (length_of framing) (λ n. chosen_delivered x ≡ n)

-- the bytes that the next hop took of a message: none yet, or a prefix of one; a refusal is no message
abbrev pub GivenAt : HopStage → Seen → Framing → List ℕ → List ℕ → List ℕ → Writer → Type 0
GivenAt at.Empty x framing head body taken w = (taken ++ waiting w ≡ []) × IsUndelivered x
GivenAt at.Message x framing head body taken w = GivesMessage x framing false head body taken w
GivenAt at.Whole x framing head body taken w = GivesMessage x framing true head body taken w
GivenAt (at.Refusal status) x framing head body taken w = ⊥

-- with this head and a body of which these bytes came, these bytes were taken
pub record HasGiven (x : Seen) (head body taken : List ℕ) (h : Hop) : Type 0 where
  pub given : GivenAt h.stage x h.framing head body taken h.writer
  pub untouched : h.touched ≡ false → (taken ≡ []) × IsUndelivered x
  pub touched : h.touched ≡ true → 0 < length taken

-- the bytes that were taken while no message is written: none, or a prefix of the refusal alone
abbrev pub AsideAt : HopStage → List ℕ → Writer → Type 0
AsideAt at.Empty taken w = taken ++ waiting w ≡ []
AsideAt at.Message taken w = ⊥
AsideAt at.Whole taken w = ⊥
AsideAt (at.Refusal status) taken w = taken ++ waiting w ≡ refusal status

pub record IsAside (taken : List ℕ) (h : Hop) : Type 0 where
  pub text : AsideAt h.stage taken h.writer
  pub untouched : h.touched ≡ false → taken ≡ []
  pub touched : h.touched ≡ true → 0 < length taken

-- What a turn decides before it writes.
abbrev pub is_message : HopStage → Bool
is_message at.Message = true
is_message _ = false

abbrev pub is_whole : HopStage → Bool
is_whole at.Whole = true
is_whole _ = false

abbrev pub is_empty : HopStage → Bool
is_empty at.Empty = true
is_empty _ = false

abbrev pub body_end : Framing → List ℕ
body_end framing = if is_chunks framing then last_chunk false else []

-- What comes next in a turn of at most this many bytes: of the chosen message's bytes that may go all that fit into the turn and
-- into the chunk that was begun, and then
-- the body's end, if it comes after them. Before a message is begun, and after its end, nothing. So there is one such next.
pub record Decides (turn : ℕ) (x : Seen) (w : Writer) (framing : Framing) (stage : HopStage) (next : Next) : Type 0 where
  pub chunked : next.chunked ≡ is_chunks framing
  pub from : next.from ≡ chosen_delivered x
  pub fits : FitsTurn w next.chunked next.count
  pub few : next.count ≤ turn
  pub usr : 0 < next.count → (is_message stage ≡ true) × (x.closed ≡ false) × Allows x (Usr next.count)
  pub greatest : is_message stage ≡ true → (n : ℕ) → x.closed ≡ false → Allows x (Usr n) → n ≤ turn → FitsTurn w next.chunked n
      → n ≤ next.count
  pub some : is_message stage ≡ true → (n : ℕ) → x.closed ≡ false → Allows x (Usr n) → 0 < next.count
  pub room : 0 < next.count → IfSome (length_of framing) (λ n. chosen_received x ≤ n)
  pub ends : is_ending next.end ≡ true → (is_message stage ≡ true) × (x.closed ≡ false) × (chosen_over x ≡ true)
      × (chosen_delivered x + next.count ≡ chosen_received x)
  pub no_end : is_message stage ≡ true → is_ending next.end ≡ false → x.closed ≡ false → chosen_over x ≡ true
      → chosen_delivered x + next.count ≡ chosen_received x → ⊥
  pub text : is_ending next.end ≡ true → end_text next.end ≡ body_end framing
  pub exact : is_ending next.end ≡ true → IfSome (length_of framing) (λ n. chosen_received x ≡ n)

-- the body that came passes its length, or has ended short of it
pub data BreaksLength (x : Seen) (framing : Framing) : Type 0 where
  longer : (n : ℕ) → length_of framing ≡ Some n → n < chosen_received x → BreaksLength x framing
  shorter : (n : ℕ) → length_of framing ≡ Some n → chosen_over x ≡ true → chosen_received x < n → BreaksLength x framing

-- the bytes of the body that were given, where any text was
abbrev pub count_of : Option ℕ → ℕ
count_of None = 0
count_of (Some n) = n

-- The events of a turn.
abbrev pub usr_events : ℕ → List Event
usr_events n = if n == 0 then [] else Usr n ∷ []

abbrev pub hop_events : ℕ → Bool → List Event
hop_events n true = usr_events n ++ Done ∷ []
hop_events n false = usr_events n

-- the stage once the body's end is fixed
abbrev pub stage_then : HopStage → Bool → HopStage
stage_then stage true = at.Whole
stage_then stage false = stage

-- nothing waits, and neither Usr nor Done may follow; one message at most is chosen
pub record NothingDue (x : Seen) (h : Hop) : Type 0 where
  pub one : chooses_original x ≡ true → x.modified ≡ false
  pub flushed : waiting h.writer ≡ []
  pub none : is_message h.stage ≡ true → (n : ℕ) → x.closed ≡ false → Allows x (Usr n) → ⊥
  pub no_done : is_message h.stage || is_whole h.stage ≡ true → x.closed ≡ false → Allows x Done → ⊥

-- what the side writes
abbrev pub gift_of : HopStage → Gift
gift_of at.Empty = no_gift
gift_of at.Message = message_gift
gift_of at.Whole = message_gift
gift_of (at.Refusal status) = refusal_gift status

-- all that is fixed is out
abbrev pub is_flushed : Hop → Bool
is_flushed h = length (waiting h.writer) == 0

-- memory was given back, and nothing else
pub record DropsText (old new : Hop) : Type 0 where
  pub waiting_is : waiting new.writer ≡ waiting old.writer
  pub left : new.writer.left ≡ old.writer.left
  pub framing : new.framing ≡ old.framing
  pub stage : new.stage ≡ old.stage
  pub touched : new.touched ≡ old.touched
  pub fault : new.fault ≡ old.fault
  pub turn : new.turn ≡ old.turn
