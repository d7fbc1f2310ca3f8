-- Pages that bytes stand on, the first page first.
use Rattle.std.specs.Prelude.{ℕ, List}

-- what stands on all pages, and how many there are
pub record Paged : Type 0 where
  pub text : List ℕ
  pub count : ℕ
