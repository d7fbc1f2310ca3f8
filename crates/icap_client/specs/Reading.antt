-- What a read turn of the service's side does, on its wire and by its events.
use Rattle.std.specs.Prelude.{◌≡◌, ◌≢◌, ℕ, ◌<◌, ◌≤◌, ◌⊎◌, Bool, true, false, List, [], ◌++◌, length, take, Option, Some, None, Result, Ok}
use Rattle.std.specs.Prelude.{Err}
use Rattle.trace_core.specs.declared.history.Event.{Event}
use Rattle.trace_core.specs.declared.history.Event.TheVariants.{Heard}
use Rattle.trace_core.specs.declared.history.Seen.{Seen}
use Rattle.trace_core.specs.History.{is_preview}
use Rattle.wire_kit.specs.Past.{Past, ReadsAtMostOnce}
use Rattle.wire_kit.specs.declared.wire.Got.{Got}
use Rattle.wire_kit.specs.declared.wire.Got.TheVariants as got
use Rattle.icap_client.specs.Events.{MayCome, after_all, MayAllFollow, AllAre, is_of_replies, ad_sum}
use Rattle.icap_client.specs.Heard.{Reader, HasHeard, Marks}
use Rattle.icap_client.specs.HeadFront.{HasToWait}
use Rattle.icap_client.specs.Refused.{Refuses}
use Rattle.adapt_sides.specs.declared.fault.ClientFault.{ClientFault}
use Rattle.adapt_sides.specs.declared.fault.ClientFault.TheVariants.{Closed, Device, NoMemory, NotLegal}
use Rattle.adapt_sides.specs.declared.turn.Turn.{Turn}
use Rattle.icap_client.specs.declared.stage.Stage.{Stage}
use Rattle.icap_client.specs.declared.stage.Stage.TheVariants.{Over}

-- the reading half: the reader, the bytes that came and aren't framed yet, the fault that stays, and the room after those bytes
pub record ReadSide : Type 0 where
  pub reader : Reader
  pub raw : List ℕ
  pub fault : Option ClientFault
  pub room : ℕ

-- no more than room was given back, and all of it if there are no bytes
pub record GivesBack (old new : ReadSide) : Type 0 where
  pub reader : new.reader ≡ old.reader
  pub raw : new.raw ≡ old.raw
  pub fault : new.fault ≡ old.fault
  pub none : new.raw ≡ [] → new.room ≡ 0

-- a byte of a reply was read, and the history says so
abbrev pub HasBegun : Seen → List ℕ → Type 0
HasBegun x read = (x.heard ≡ true) × (0 < length read)

-- no byte of a reply was read, and the history has none
pub record NotBegun (x : Seen) (adapted read : List ℕ) : Type 0 where
  pub unheard : x.heard ≡ false
  pub none : adapted ≡ []
  pub unread : read ≡ []
  pub marks : Marks x false false false false
  pub continued : x.continued ≡ false
  pub count : x.adapted_received ≡ 0

-- the bytes read, but for the raw ones, say what was heard; Heard stands once a first one was read
pub record SideHeard (x : Seen) (adapted read : List ℕ) (s : ReadSide) : Type 0 where
  pub framed : List ℕ
  pub text_is : read ≡ framed ++ s.raw
  pub heard : HasHeard x adapted framed s.reader
  pub begun : HasBegun x read ⊎ NotBegun x adapted read

-- the events may come, and say what these further bytes of the wire do, with these adapted ones
pub record SideHears (x : Seen) (old new : ReadSide) (events : List Event) (given part : List ℕ) : Type 0 where
  pub legal : MayAllFollow x events
  pub only : AllAre is_of_replies events
  pub heard : (adapted read : List ℕ) → SideHeard x adapted read old → SideHeard (after_all x events) (adapted ++ part) (read ++ given) new

-- the service may answer now: in a preview once its last chunk is out, and after a 100; elsewhere at any moment
abbrev pub MayRead : Seen → Bool → Type 0
MayRead x all_sent = (is_preview x.plan.kind ≡ false) ⊎ ((x.continued ≡ true) ⊎ ((x.stopped ≡ true) × (all_sent ≡ true)))

-- ---- a turn

-- nothing is to be read: the response is whole, there is no room, or the preview isn't out
abbrev pub NothingToRead : Seen → Bool → ℕ → Stage → Type 0
NothingToRead x all_sent room stage = (stage ≡ Over) ⊎ ((room ≡ 0) ⊎ ¬ (MayRead x all_sent))

-- A read is due: the response isn't whole, there is room, the service may answer now, and none of the bytes that are kept can
-- be framed.
pub record IsReadDue (x : Seen) (all_sent : Bool) (room : ℕ) (s : ReadSide) : Type 0 where
  pub going_on : ¬ (s.reader.stage ≡ Over)
  pub some_room : 0 < room
  pub may : MayRead x all_sent
  pub waits : HasToWait s.reader.stage s.raw room

-- the wire is read only if that is due once the bytes that are kept were framed, and no event came of them
abbrev pub ReadsWhereDue : Seen → Bool → ℕ → ReadSide → Option Got → Type 0
ReadsWhereDue x all_sent room old None = Unit {0}
ReadsWhereDue x all_sent room old (Some answer) = (framed : ReadSide) × SideHears x old framed [] [] [] × IsReadDue x all_sent room framed

-- What a turn makes of its wire's answer. It waits if the wire says so, or, if it didn't read, if nothing is to be read. It
-- answers Closed and Device just if the wire ended or failed.
abbrev pub FitsGot : Seen → Bool → ℕ → Stage → Option Got → Result Turn ClientFault → Type 0
FitsGot x all_sent room stage None (Ok turn) = turn.waiting ≡ true → NothingToRead x all_sent room stage
FitsGot x all_sent room stage None (Err fault) = (fault ≢ Closed) × (fault ≢ Device)
FitsGot x all_sent room stage (Some (got.Bytes n)) (Ok turn) = turn.waiting ≡ false
FitsGot x all_sent room stage (Some (got.Bytes n)) (Err fault) = (fault ≢ Closed) × (fault ≢ Device)
FitsGot x all_sent room stage (Some got.Ended) result = result ≡ Err Closed
FitsGot x all_sent room stage (Some got.Wait) (Ok turn) = turn.waiting ≡ true
FitsGot x all_sent room stage (Some got.Wait) (Err fault) = ⊥
FitsGot x all_sent room stage (Some got.Fault) result = result ≡ Err Device

-- the service may answer now, but no first byte of a reply may come
abbrev pub IsUnheard : ClientFault → Seen → Bool → Type 0
IsUnheard fault x all_sent = (fault ≡ NotLegal) × (x.heard ≡ false) × MayRead x all_sent × ¬ (MayCome x Heard)

-- the fault is the wire's, which ended or failed, or want of memory; or the service may answer and no reply may come; or the raw
-- bytes are refused
abbrev pub IsCause : ClientFault → Seen → Bool → Reader → List ℕ → Type 0
IsCause fault x all_sent reader raw =
    (fault ≡ Closed) ⊎ ((fault ≡ Device) ⊎ ((fault ≡ NoMemory) ⊎ (IsUnheard fault x all_sent
    ⊎ Refuses fault x reader.point reader.stage raw)))

-- what came of a turn in which the wire gave these bytes, with this much room
abbrev pub CameOf : Seen → Bool → ReadSide → ReadSide → ℕ → List ℕ → List ℕ → Result Turn ClientFault → Type 0
CameOf x all_sent old new room out given (Ok turn) =
    SideHears x old new turn.events.items given (take (ad_sum turn.events.items) out)
    × (ad_sum turn.events.items ≤ room)
    × (turn.waiting ≡ true → (turn.events.items ≡ []) × (given ≡ []) × HasToWait new.reader.stage new.raw room)
    × (turn.waiting ≡ false → turn.events.items ≡ [] → 0 < length given)
CameOf x all_sent old new room out given (Err fault) =
    SideHears x old new [] given [] × IsCause fault x all_sent new.reader new.raw

-- A turn of a side without a fault makes one read at most.
pub record ReadTurn (x : Seen) (all_sent : Bool) (room : ℕ) (old new : ReadSide) (before after : Past → Type 0) (out : List ℕ)
    (result : Result Turn ClientFault) : Type 0 where
  pub given : List ℕ
  pub answer : Option Got
  pub wire : ReadsAtMostOnce before after given answer
  pub due : ReadsWhereDue x all_sent room old answer
  pub fits : FitsGot x all_sent room new.reader.stage answer result
  pub came : CameOf x all_sent old new room out given result
