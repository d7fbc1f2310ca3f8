-- What stands on the pages of a chain.
use Rattle.std.specs.Prelude.{ℕ, List, [], ◌∷◌, ◌++◌}
use Rattle.span_bank.specs.declared.chain.Top.{Top}
use Rattle.span_bank.specs.declared.chain.Top.TheVariants.{End, More}

-- the pages of a chain, first to last
abbrev pub contents_of : Top → List (List ℕ)
contents_of End = []
contents_of (More p) = p.value.bytes ∷ p.value.rest

-- the bytes of pages, the first page first
abbrev pub text_of : List (List ℕ) → List ℕ
text_of [] = []
text_of (p ∷ ps) = p ++ text_of ps

-- the bytes of pages, the last page first
abbrev pub down_of : List (List ℕ) → List ℕ
down_of [] = []
down_of (p ∷ ps) = down_of ps ++ p
