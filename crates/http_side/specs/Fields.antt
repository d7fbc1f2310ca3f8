-- What a look-up of a head's fields by name gives.
use Rattle.std.specs.Prelude.{◌≡◌, ℕ, ◌<◌, List, [], ◌∷◌, length}
use Rattle.http_side.specs.declared.fields.Values.{Values}
use Rattle.http_side.specs.declared.fields.Values.TheVariants.{None as NoValue, One, Many}

-- none, one, or more of them
abbrev pub IsValues : List (List ℕ) → Values → Type 0
IsValues values NoValue = values ≡ []
IsValues values (One value) = values ≡ value.now ∷ []
IsValues values Many = 1 < length values
