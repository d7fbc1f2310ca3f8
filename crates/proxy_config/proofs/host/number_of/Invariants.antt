-- The bytes so far have this number.
use Rattle.std.proofs.Common.{◌≡◌, ◌<◌, drop}
use Rattle.std.specs.Str.{str_to_ascii_lowercase}
use Rattle.proxy_config.specs.Names.{number_from, number_of_name}
use Rattle.proxy_config.specs.declared.host.TheConstants.{NUMBERS}
use Rattle.proxy_config.proofs.host.number_of.Given as goal

abbrev pub invariant-loop-byte : goal.invariant-loop-byte
invariant-loop-byte l = (number_of_name l.name ≡ number_from l.number (str_to_ascii_lowercase (drop l.byte-index l.name)))
    × (l.number < NUMBERS)
