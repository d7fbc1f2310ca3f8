-- The bytes that came on a wire and aren't framed yet.
use Rattle.std.specs.Prelude.{ℕ, List}

-- the bytes, and the number of further bytes that their memory has room for
pub record Raw : Type 0 where
  pub items : List ℕ
  pub spare : ℕ
