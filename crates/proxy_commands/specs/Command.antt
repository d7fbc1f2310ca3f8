-- The command that the arguments name.
use Rattle.std.specs.Prelude.{◌≡◌, ℕ, ◌≤◌, List, [], ◌∷◌, codes}
use Rattle.proxy_commands.specs.declared.command.Command.{Command}
use Rattle.proxy_commands.specs.declared.command.Command.TheVariants.{Trace, Chunks}
use Rattle.proxy_commands.specs.declared.command.TheConstants.{MAX_PIECE}
use Rattle.proxy_commands.specs.Words.{IsNumber}

-- the digits write a size of pieces: 1 to 65,536 bytes
pub record IsPieceSize (digits : List ℕ) (size : ℕ) : Type 0 where
  pub number : IsNumber digits size
  pub some : 1 ≤ size
  pub bound : size ≤ MAX_PIECE

-- `trace` alone, or `chunks` and a size of pieces
abbrev pub IsCommand : List (List ℕ) → Command → Type 0
IsCommand words Trace = words ≡ codes "trace" ∷ []
IsCommand words (Chunks piece_size) =
    (digits : List ℕ) × (words ≡ codes "chunks" ∷ digits ∷ []) × IsPieceSize digits piece_size
