-- Which users' connections are closed so that others are served.
use Rattle.std.specs.Prelude.{◌≡◌, ℕ, ◌<◌, ◌≤◌, ◌⊎◌, ◌*◌, nat_lt, if◌then◌else◌}
use Rattle.event_loop.specs.declared.sparing.Stay.{Stay}
use Rattle.event_loop.specs.declared.sparing.Stay.TheVariants.{Exchange, Idle, Head, End, Ended}
use Rattle.event_loop.specs.declared.sparing.Spared.{Spared}
use Rattle.event_loop.specs.declared.sparing.TheConstants.{YOUNG}

-- for this number of milliseconds a user that has just come isn't spared for its head: for none where more than half of the seats are such
abbrev pub youth : (heads seats : ℕ) → ℕ
youth heads seats = if nat_lt seats (2 * heads) then 0 else YOUNG

-- a connection whose stay is this, and whose user came this number of milliseconds ago, has this rank: users that have ended
-- their side come
-- first, then idle ones, then those whose head isn't whole, and last those at their end; an exchange, and a user that has just
-- come, has none
abbrev pub IsRank : Stay → (age youth rank : ℕ) → Type 0
IsRank Exchange age youth rank = ⊥
IsRank Ended age youth rank = rank ≡ 0
IsRank Idle age youth rank = rank ≡ 1
IsRank Head age youth rank = (youth ≤ age) × (rank ≡ 2)
IsRank End age youth rank = rank ≡ 3

-- its rank is that of a user that has ended its side, or of an idle one
abbrev pub IsIdle : Spared → Type 0
IsIdle spared = IsRank Ended 0 0 spared.rank ⊎ IsRank Idle 0 0 spared.rank

-- the one is spared rather than the other
abbrev pub ComesBefore : Spared → Spared → Type 0
ComesBefore this other = (this.rank < other.rank) ⊎ ((this.rank ≡ other.rank) × (this.since < other.since))
