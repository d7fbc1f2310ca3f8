-- Which key a fault names.
use Rattle.std.specs.Prelude.{◌≡◌, ℕ, List, string_bytes}
use Rattle.proxy_config.specs.declared.fault.ConfigFault.{ConfigFault}
use Rattle.proxy_config.specs.declared.fault.ConfigFault.TheVariants.{Text, Key, NoMemory}

-- the fault names a key of which this is said, or its text found no memory
abbrev pub Names : (List ℕ → Type 0) → ConfigFault → Type 0
Names Says Text = ⊥
Names Says (Key key) = Says (string_bytes key)
Names Says NoMemory = Unit {0}

-- the fault is that of the key, or its text found no memory
abbrev pub IsFaultAt : List ℕ → ConfigFault → Type 0
IsFaultAt key = Names (λ found. found ≡ key)
