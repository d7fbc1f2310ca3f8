-- How many bytes a turn moves at most.
use Rattle.std.specs.Prelude.{◌≡◌, ◌≤◌, ◌%◌, ℕ, max, ◌==◌, ◌&&◌, nat_le, if◌then◌else◌, Option, Some, None, codes, option_and_then}
use Rattle.toml.specs.Data.{Data, Members, get_member}
use Rattle.adapt_bytes.specs.declared.limits.TheConstants.{MAX_WINDOW}
use Rattle.proxy_config.specs.declared.limits.TheConstants.{LEAST_TURN, MAX_TURN}
use Rattle.proxy_config.specs.Values.{number_at, number_in}

-- the number may be that of a turn beside this window: the least may, with any window
abbrev pub IsTurn : (window turn : ℕ) → Type 0
IsTurn window turn = (LEAST_TURN ≤ turn) × (turn ≤ MAX_TURN) × (turn % LEAST_TURN ≡ 0) × (turn ≤ max window LEAST_TURN)

-- a multiple of the least, at most the window
abbrev pub turn_within : (window turn : ℕ) → Option ℕ
turn_within window turn = if (turn % LEAST_TURN == 0) && nat_le turn window then Some turn else None

-- the turn that a key has: the least where the key is missing
abbrev pub turn_or : ℕ → Option Data → Option ℕ
turn_or window None = Some LEAST_TURN
turn_or window (Some value) = option_and_then (turn_within window) (number_in LEAST_TURN MAX_TURN value)

-- the window of a document
abbrev pub window_at : Members → Option ℕ
window_at document = number_at (codes "window") 1 MAX_WINDOW 8192 document

-- the turn of a document, by its window
abbrev pub turn_at : Members → Option ℕ
turn_at document = option_and_then (λ window. turn_or window (get_member (codes "turn") document)) (window_at document)
