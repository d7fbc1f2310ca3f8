-- Each lease popped so far has brought one part, and one of the leased number.
use Rattle.std.specs.Prelude.{◌≡◌, ◌+◌, vec_len}
use Rattle.service_pool.proofs.locked.Locked.audit.Given as goal

-- each lease that is popped brings one part and one of the leased number
abbrev pub invariant-loop-lease : goal.invariant-loop-lease
invariant-loop-lease g l = record {
  parts : l.rest.parts + vec_len l.leases ≡ l.initial.rest.parts + vec_len l.initial.leases;
  amount : l.rest.amount + vec_len l.leases ≡ vec_len l.initial.leases;
}

abbrev pub decreases-loop-lease : goal.decreases-loop-lease
decreases-loop-lease g l = vec_len l.leases
