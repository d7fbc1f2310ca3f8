-- A text that is written into room of a known size.
use Rattle.std.specs.Prelude.{◌≡◌, ℕ, ◌+◌, List, ◌++◌, length}

-- what is written so far, and how many bytes there is room for after it
pub record Written : Type 0 where
  pub text : List ℕ
  pub left : ℕ

-- the bytes were put after the text, and took their room
pub record Puts (old new : Written) (bytes : List ℕ) : Type 0 where
  pub text : new.text ≡ old.text ++ bytes
  pub left : new.left + length bytes ≡ old.left
