-- What stands of a text after the last byte of a body, and what of it waits.
use Rattle.std.specs.Prelude.{◌≡◌, ℕ, Bool, List, [], ◌++◌}
use Rattle.icap_chunks.specs.Grammar.{chunk_head, last_chunk, crlf}

-- `HasBody text left`: the text has all bytes of a body, and a chunk that was begun in it waits for `left` more. Then nothing
-- follows it, or one framing text, without body bytes: the end of the chunk that the body's last byte completes, the head of the
-- next chunk, or a last chunk.
pub data IsBehind (HasBody : List ℕ → ℕ → Type 0) : List ℕ → List ℕ → Type 0 where
  nothing : {text : List ℕ} {left : ℕ} → HasBody text left → IsBehind HasBody text []
  chunk_end : {text : List ℕ} → HasBody (text ++ crlf) 0 → IsBehind HasBody text crlf
  next_chunk : {text : List ℕ} → HasBody text 0 → (n : ℕ) → IsBehind HasBody text (chunk_head n)
  the_last_chunk : {text : List ℕ} → HasBody text 0 → (ieof : Bool) → IsBehind HasBody text (last_chunk ieof)

-- What waits of a fixed text: all that has the body's bytes is out, and of the framing text after it a part.
pub record WaitsBehind (HasBody : List ℕ → ℕ → Type 0) (fixed waits : List ℕ) : Type 0 where
  pub body_text : List ℕ
  pub out : List ℕ
  pub fixed_is : fixed ≡ body_text ++ (out ++ waits)
  pub framing : IsBehind HasBody body_text (out ++ waits)
