-- What a connection has of the connections that its address may have open at once.
use Rattle.std.specs.Prelude.{Bool, true, false}
use Rattle.event_loop.specs.declared.addresses.Share.{Share}
use Rattle.event_loop.specs.declared.addresses.Share.TheVariants.{Unlimited, Counted, Over}
use Rattle.event_loop.specs.declared.room.UserPermit.{UserPermit}

-- none: its address has as many as it may without it
abbrev pub has_none : Share → Bool
has_none Unlimited = false
has_none (Counted counted) = false
has_none Over = true

-- so for the connection with this permit
abbrev pub is_over : UserPermit → Bool
is_over permit = has_none permit.share
