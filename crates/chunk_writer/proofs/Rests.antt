-- What waits after the last byte of a body, as it goes out.
use Rattle.std.proofs.Common.{◌≡◌, ℕ, Bool, List, [], ◌++◌, refl, ap, sym, subst, ◌∙◌, append_assoc, append-nil}
use Rattle.icap_chunks.specs.Grammar.{chunk_head, last_chunk, crlf}
use Rattle.chunk_writer.specs.Behind.{IsBehind, WaitsBehind}
use Rattle.chunk_writer.specs.Behind.IsBehind.{nothing, chunk_end, next_chunk, the_last_chunk}

-- a part of what waited went out
pub waits_passed : (HasBody : List ℕ → ℕ → Type 0) (fixed part waits old : List ℕ) → part ++ waits ≡ old → WaitsBehind HasBody fixed old
    → WaitsBehind HasBody fixed waits
waits_passed HasBody fixed part waits old e w =
    let same : (w.out ++ part) ++ waits ≡ w.out ++ old = append_assoc w.out part waits ∙ ap (λ (xs : List ℕ). w.out ++ xs) e in
    record {
      body_text = w.body_text;
      out = w.out ++ part;
      fixed_is = w.fixed_is ∙ ap (λ (xs : List ℕ). w.body_text ++ xs) (sym same);
      framing = subst (IsBehind HasBody w.body_text) (sym same) w.framing;
    }

-- nothing waits
pub waits_none : (HasBody : List ℕ → ℕ → Type 0) (fixed : List ℕ) (left : ℕ) → HasBody fixed left → WaitsBehind HasBody fixed []
waits_none HasBody fixed left h = record { body_text = fixed; out = []; fixed_is = sym (append-nil fixed); framing = nothing h }

-- a framing text waits, whole
pub waits_end : (HasBody : List ℕ → ℕ → Type 0) (text d : List ℕ) → HasBody (text ++ (d ++ crlf)) 0
    → WaitsBehind HasBody (text ++ (d ++ crlf)) crlf
waits_end HasBody text d h = record {
  body_text = text ++ d;
  out = [];
  fixed_is = sym (append_assoc text d crlf);
  framing = chunk_end (subst (λ (xs : List ℕ). HasBody xs 0) (sym (append_assoc text d crlf)) h);
}

-- the head of a next chunk waits, whole, after a text that has all bytes of the body
pub waits_next : (HasBody : List ℕ → ℕ → Type 0) (text : List ℕ) (n : ℕ) → HasBody text 0
    → WaitsBehind HasBody (text ++ chunk_head n) (chunk_head n)
waits_next HasBody text n h = record { body_text = text; out = []; fixed_is = refl; framing = next_chunk h n }

-- a last chunk waits, whole, after a text that has all bytes of the body
pub waits_last : (HasBody : List ℕ → ℕ → Type 0) (text : List ℕ) (ieof : Bool) → HasBody text 0
    → WaitsBehind HasBody (text ++ last_chunk ieof) (last_chunk ieof)
waits_last HasBody text ieof h = record { body_text = text; out = []; fixed_is = refl; framing = the_last_chunk h ieof }
