-- A connection on which a service was asked for its options.
use Rattle.std.specs.Prelude.{ℕ, Bool, false, List, Option, Some, None}
use Rattle.icap_head.specs.Heads.{Response}
use Rattle.proxy_rules.specs.Pools.{is_reusable_after}

-- it may serve again after this answer: somebody asked, nothing of what was read is left over, and the answer doesn't say that it closes
abbrev pub usable_by : {S : Type 0} → (left : S → List ℕ) → Option S → Response → Bool
usable_by left None answer = false
usable_by left (Some side) answer = is_reusable_after (left side) answer.fields
