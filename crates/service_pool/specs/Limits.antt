-- The maximum that a pool was set to.
use Rattle.std.specs.Prelude.{◌≡◌, ℕ, Option, MatchOption}
use Rattle.trace_core.specs.declared.history.Point.{Point}
use Rattle.trace_core.specs.declared.history.Point.TheVariants.{Reqmod, Respmod}
use Rattle.service_pool.specs.declared.leased.Limit.{Limit}
use Rattle.service_pool.specs.declared.leased.Limit.TheVariants.{Request, Response}
use Rattle.service_pool.specs.declared.leased.Maximum.{Maximum}

-- the point whose pool it is
abbrev pub limited_point : {Q A : Type 0} → Limit Q A → Point
limited_point (Request set) = Reqmod
limited_point (Response set) = Respmod

-- how many connections may be open there
abbrev pub maximum_of : {Q A : Type 0} → Limit Q A → ℕ
maximum_of (Request set) = set.maximum
maximum_of (Response set) = set.maximum

-- the pool of this point was set, to this maximum
abbrev pub IsSetTo : Point → ℕ → Option Maximum → Type 0
IsSetTo point connections set = MatchOption set ⊥ (λ m. (m.point ≡ point) × (m.connections ≡ connections))
