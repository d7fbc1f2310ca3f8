-- The numbers that the fields of one name say.
use Rattle.std.specs.Prelude.{◌≡◌, ℕ, ◌<◌, List, [], ◌∷◌, Option, None, IsSomeAnd}
use Rattle.adapt_bytes.specs.declared.limits.TheConstants.{COUNT_LIMIT}
use Rattle.icap_head.specs.Fields.{AllSpell}

-- the fields of one name say this number, below the limit of counts and all the same; no number where there is no such field
abbrev pub IsNumber : List (List ℕ) → Option ℕ → Type 0
IsNumber [] number = number ≡ None
IsNumber (text ∷ values) number = IsSomeAnd number (λ n. (n < COUNT_LIMIT) × AllSpell n (text ∷ values))
