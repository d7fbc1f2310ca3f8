-- What each exchange of a thread goes by.
use Rattle.std.specs.Prelude.{◌≡◌, ◌≢◌, ℕ, ⊤, List, Option, Some, None, slice_get}
use Rattle.std.specs.Arc.{arc_value}
use Rattle.event_loop.specs.declared.live.DatedConfig.{DatedConfig}
use Rattle.proxy_config.specs.declared.config.Config.{Config}
use Rattle.shard_desk.specs.declared.standings.Standings.{Standings}

-- its own configuration where it has one, else what the thread has
abbrev pub chosen : Config → Option (Option DatedConfig) → Config
chosen latest (Some (Some own)) = arc_value own.config
chosen latest (Some None) = latest
chosen latest None = latest

-- what the exchange under the key goes by
abbrev pub goes_by : Standings → ℕ → Config
goes_by standings key = chosen (arc_value standings.latest.dated.config) (slice_get standings.own.items key)

-- what each exchange but that under the key has of its own is the same
abbrev pub SameButAt : ℕ → List (Option DatedConfig) → List (Option DatedConfig) → Type 0
SameButAt key old new = (other : ℕ) → other ≢ key → slice_get new other ≡ slice_get old other

-- there is none
abbrev pub HasNone : Option (Option DatedConfig) → Type 0
HasNone (Some (Some own)) = ⊥
HasNone (Some None) = ⊤
HasNone None = ⊤

-- its own configuration has this number, where it has one
abbrev pub IsAsOf : (number : ℕ) → Option (Option DatedConfig) → Type 0
IsAsOf number (Some (Some own)) = own.number ≡ number
IsAsOf number (Some None) = ⊤
IsAsOf number None = ⊤
