-- The extension of a path.
use Rattle.std.specs.Prelude.{◌≡◌, ℕ, ◌++◌, List, ◌∷◌, ◌⊎◌}
use Rattle.adapt_bytes.specs.Text.{Lacks}

-- the segment is what follows the path's last slash, or the whole path where it has none
pub record IsLastSegment (path segment : List ℕ) : Type 0 where
  pub no_slash : Lacks 47 segment
  pub last : (path ≡ segment) ⊎ ((front : List ℕ) × (path ≡ front ++ 47 ∷ segment))

-- the extension is what follows the last dot of the path's last segment
pub record IsExtension (path found : List ℕ) : Type 0 where
  pub segment : List ℕ
  pub is_last : IsLastSegment path segment
  pub front : List ℕ
  pub cut : segment ≡ front ++ 46 ∷ found
  pub no_dot : Lacks 46 found
