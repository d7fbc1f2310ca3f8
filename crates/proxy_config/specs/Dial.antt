-- When the connection to an origin is opened.
use Rattle.std.specs.Prelude.{ℕ, List, Option, Some, None, codes, bytes_eq, if◌then◌else◌, option_and_then}
use Rattle.toml.specs.Data.{Data, as_str}
use Rattle.proxy_config.specs.declared.dial.Dial.{Dial}
use Rattle.proxy_config.specs.declared.dial.Dial.TheVariants.{First, Late}

-- the order that a text names
abbrev pub dial_in : List ℕ → Option Dial
dial_in text = if bytes_eq text (codes "first") then Some First else if bytes_eq text (codes "late") then Some Late else None

-- the order that a value names: the origin first where it is missing
abbrev pub dial_or : Option Data → Option Dial
dial_or None = Some First
dial_or (Some value) = option_and_then dial_in (as_str value)
