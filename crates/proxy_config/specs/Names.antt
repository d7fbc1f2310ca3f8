-- The number of a host name.
use Rattle.std.specs.Prelude.{ℕ, ◌+◌, ◌*◌, ◌%◌, List, [], ◌∷◌}
use Rattle.std.specs.Str.{str_to_ascii_lowercase}
use Rattle.proxy_config.specs.declared.host.TheConstants.{NUMBERS}

-- the number of a text whose bytes so far have a number
abbrev pub number_from : ℕ → List ℕ → ℕ
number_from number [] = number
number_from number (byte ∷ bytes) = number_from ((number * 31 + byte) % NUMBERS) bytes

-- the number of a name, ASCII case ignored
abbrev pub number_of_name : List ℕ → ℕ
number_of_name name = number_from 0 (str_to_ascii_lowercase name)
