-- The text of an HTTP message: its head, then its body by its framing (RFC 9112, sections 6 and 7).
use Rattle.std.specs.Prelude.{◌≡◌, ℕ, false, List, [], ◌++◌, length, Option, Some, None}
use Rattle.icap_chunks.specs.Grammar.{last_chunk}
use Rattle.chunk_writer.specs.Cut.{IsCut, IsPrefixOf}
use Rattle.http_side.specs.declared.body.Framing.{Framing}
use Rattle.http_side.specs.declared.body.Framing.TheVariants as by
-- the body goes in chunks
pub use Rattle.http_side.specs.Forward.{is_chunks}

-- the body in chunks, cut in any way, and the last chunk
pub record IsInChunks (body text : List ℕ) : Type 0 where
  pub chunks : List ℕ
  pub is_cut : IsCut body chunks
  pub whole : text ≡ chunks ++ last_chunk false

-- what follows the head
abbrev pub BodyTextOf : Framing → List ℕ → List ℕ → Type 0
BodyTextOf by.None body text = (body ≡ []) × (text ≡ [])
BodyTextOf (by.Length n) body text = (length body ≡ n) × (text ≡ body)
BodyTextOf by.Chunked body text = IsInChunks body text
BodyTextOf by.Close body text = text ≡ body

-- the message: this head, this body
pub record IsMessage (framing : Framing) (head body text : List ℕ) : Type 0 where
  pub behind : List ℕ
  pub has_body : BodyTextOf framing body behind
  pub whole : text ≡ head ++ behind

-- these bytes are a prefix of a message whose body begins with these
pub record IsFrontOfMessage (framing : Framing) (head begins taken : List ℕ) : Type 0 where
  pub more : List ℕ
  pub text : List ℕ
  pub is_message : IsMessage framing head (begins ++ more) text
  pub front : IsPrefixOf taken text

-- the length that the framing gives the body
abbrev pub length_of : Framing → Option ℕ
length_of by.None = Some 0
length_of (by.Length n) = Some n
length_of by.Chunked = None
length_of by.Close = None
