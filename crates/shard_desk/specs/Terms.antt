-- What has a time in all, however slowly its bytes come.
use Rattle.std.specs.Prelude.{ℕ, ◌-◌, Bool, false, ◌&&◌, ◌||◌, nat_lt, Option, Some, None}
use Rattle.shard_desk.specs.declared.terms.AwaitedSince.{AwaitedSince}
use Rattle.shard_desk.specs.declared.terms.Terms.{Terms}

-- it has been awaited for more than this number of seconds, which is no time of its own where it is 0
abbrev pub is_over : Option ℕ → (now seconds : ℕ) → Bool
is_over None now seconds = false
is_over (Some since) now seconds = nat_lt 0 seconds && nat_lt seconds (now - since)

-- a head, or a connection to the origin or to a service, takes longer than it may
abbrev pub is_overdue : AwaitedSince → (now : ℕ) → Terms → Bool
is_overdue awaited now terms = is_over awaited.head now terms.head
    || (is_over awaited.origin now terms.connection || is_over awaited.service now terms.connection)
