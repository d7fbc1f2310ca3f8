-- What the seats of a thread say: when connections last moved, what is awaited, whose a seat is and for what, and which lines it has.
use Rattle.std.specs.Prelude.{◌≡◌, ◌≢◌, ℕ, ◌<◌, ◌-◌, Bool, true, false, nat_lt, Option, Some, None, IsSomeAnd}
use Rattle.std.specs.declared.net.ipv4_addr.Ipv4Addr.{Ipv4Addr}
use Rattle.slab.specs.Slab.{get, slab_len}
use Rattle.socket_wire.specs.declared.token.Peer.{Peer}
use Rattle.socket_wire.specs.declared.token.Peer.TheVariants.{User, Origin, Service}
use Rattle.shard_desk.specs.declared.lines.IdleLine.{IdleLine}
use Rattle.shard_desk.specs.declared.seat.Purpose.{Purpose}
use Rattle.shard_desk.specs.declared.seat.Purpose.TheVariants.{Requests, Refusal}
use Rattle.shard_desk.specs.declared.seat.Seat.{Seat}
use Rattle.shard_desk.specs.declared.seats.Seats.{Seats}
use Rattle.shard_desk.specs.declared.seats.TheConstants.{SPARE}
use Rattle.shard_desk.specs.declared.terms.Terms.{Terms}
use Rattle.shard_desk.specs.Lines.{owner}
use Rattle.shard_desk.specs.Terms.{is_overdue as is_awaited_for_long}

-- at this moment, more than this number of seconds have passed since a byte moved; where there is no seat, nothing moves
abbrev pub rests_long : Option Seat → (now seconds : ℕ) → Bool
rests_long None now seconds = true
rests_long (Some seat) now seconds = nat_lt seconds (now - seat.moved)

-- so for the seat under a key
abbrev pub is_late : Seats → (key now seconds : ℕ) → Bool
is_late seats key now seconds = rests_long (get seats.all key) now seconds

-- what the exchange of a seat awaits takes longer than it may
abbrev pub awaits_for_long : Option Seat → (now : ℕ) → Terms → Bool
awaits_for_long None now terms = false
awaits_for_long (Some seat) now terms = is_awaited_for_long seat.awaited now terms

-- so for the seat under a key
abbrev pub is_overdue : Seats → (key now : ℕ) → Terms → Bool
is_overdue seats key now terms = awaits_for_long (get seats.all key) now terms

-- at this moment, more than this number of seconds have passed since a wait began; where none did, none have
abbrev pub has_passed : Option ℕ → (now seconds : ℕ) → Bool
has_passed None now seconds = false
has_passed (Some since) now seconds = nat_lt seconds (now - since)

-- so since the message of a seat began to wait for a connection to its service
abbrev pub waits_long : Option Seat → (now seconds : ℕ) → Bool
waits_long None now seconds = false
waits_long (Some seat) now seconds = has_passed seat.waits now seconds

-- so for the seat under a key
abbrev pub has_waited : Seats → (key now seconds : ℕ) → Bool
has_waited seats key now seconds = waits_long (get seats.all key) now seconds

-- the same seat, where a byte moved at this moment
abbrev pub moved_at : (now : ℕ) → Option Seat → Option Seat
moved_at now None = None
moved_at now (Some seat) = Some (record seat { moved = now })

-- the same seat, whose message waits for a connection since this moment, unless it waited before; or whose message hasn't waited
abbrev pub since_or : (now : ℕ) → Option ℕ → Option ℕ
since_or now None = Some now
since_or now (Some since) = Some since

abbrev pub waiting_from : (now : ℕ) → Option Seat → Option Seat
waiting_from now None = None
waiting_from now (Some seat) = Some (record seat { waits = since_or now seat.waits })

abbrev pub waiting_not : Option Seat → Option Seat
waiting_not None = None
waiting_not (Some seat) = Some (record seat { waits = None })

-- the turn of the thread's loop, where its poll reported all that there was to report; else 0
abbrev pub heard_of : Seats → ℕ
heard_of seats = seats.heard

-- at most one seat is taken
abbrev pub sits_alone : Seats → Bool
sits_alone seats = nat_lt (slab_len seats.all) 2

-- fewer users are served than may be
abbrev pub HasRoom : Seats → Type 0
HasRoom seats = slab_len seats.all - seats.refused < seats.most

-- a few more may be refused
abbrev pub MayRefuse : Seats → Type 0
MayRefuse seats = seats.refused < SPARE

-- what the next seat is for: requests exactly while a further user can be served, and its address has a share left; else a refusal
abbrev pub IsFor : (over : Bool) → Seats → Purpose → Type 0
IsFor over seats Requests = (over ≡ false) × HasRoom seats
IsFor over seats Refusal = (over ≡ false → HasRoom seats → ⊥) × MayRefuse seats

-- the address that the connection of a seat's user comes from
abbrev pub address_in : Option Seat → Option Ipv4Addr
address_in None = None
address_in (Some seat) = Some seat.from

-- so for the seat under a key
abbrev pub user_address : Seats → (key : ℕ) → Option Ipv4Addr
user_address seats key = address_in (get seats.all key)

-- the seat under a key was taken for this at this moment, for a user from that address
pub record IsTaken (over : Bool) (from : Ipv4Addr) (old new : Seats) (key : ℕ) (purpose : Purpose) (now : ℕ) : Type 0 where
  -- nobody had it
  pub free : get old.all key ≡ None
  -- it is for that
  pub is_for : IsFor over old purpose
  pub purpose_is : IsSomeAnd (get new.all key) (λ seat. seat.purpose ≡ purpose)
  -- it is that user's
  pub address : user_address new key ≡ Some from
  -- its seconds count from now on
  pub moved : IsSomeAnd (get new.all key) (λ seat. seat.moved ≡ now)
  -- all other seats stay
  pub others : (other : ℕ) → other ≢ key → get new.all other ≡ get old.all other

-- the seat under a key is that of a user from this address, and for this: its refusal, where its address has no share left
pub record IsAnnounced (over : Bool) (from : Ipv4Addr) (seats : Seats) (key : ℕ) (purpose : Purpose) : Type 0 where
  pub address : user_address seats key ≡ Some from
  pub purpose_is : IsSomeAnd (get seats.all key) (λ seat. seat.purpose ≡ purpose)
  pub refused : over ≡ true → purpose ≡ Refusal

-- the exchange under this key has the connection that the poll reports under this number and peer: that of its user under its
-- key, that to an
-- origin or a service under its line
abbrev pub Has : Seats → (number : ℕ) → Peer → (key : ℕ) → Type 0
Has seats number User key = key ≡ number
Has seats number Origin key = owner seats.lines number ≡ Some key
Has seats number Service key = owner seats.lines number ≡ Some key

-- the line of a seat's connection to this peer; that of its user has none
abbrev pub line_in : Option Seat → Peer → Option ℕ
line_in None peer = None
line_in (Some seat) User = None
line_in (Some seat) Origin = seat.origin
line_in (Some seat) Service = seat.service

-- so for the seat under a key
abbrev pub line_of : Seats → (key : ℕ) → Peer → Option ℕ
line_of seats key peer = line_in (get seats.all key) peer

-- the line of the connection to this peer that the exchange under this key had lies idle since the turn of now, and nobody has it
pub record IsLaid (old new : Seats) (key : ℕ) (peer : Peer) (idle : IdleLine) : Type 0 where
  pub was : line_of old key peer ≡ Some idle.number
  pub gone : line_of new key peer ≡ None
  pub nobody : owner new.lines idle.number ≡ None
  pub laid : idle.laid ≡ old.turn
