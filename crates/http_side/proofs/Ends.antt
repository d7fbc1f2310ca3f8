-- A reader is over where it has read a whole body, and only there.
use Rattle.std.proofs.Common.{◌≡◌, ℕ, ◌-◌, ◌≤◌, Bool, true, false, is_some, List, length, Option, Some, None as Nothing, IsTrue, refl, sym}
use Rattle.std.proofs.Common.{ap, ◌∙◌, arith, eqb}
use Rattle.std.specs.Prelude.{◌↔◌, if◌then◌else◌, option_map}
use Rattle.std.proofs.lemmas.Bool.{eqb-true, eq-eqb}
use Rattle.icap_chunks.specs.Grammar.{IsChunked}
use Rattle.icap_chunks.specs.Machine.{end_of, HasRead as ChunksRead}
use Rattle.icap_chunks.specs.declared.reader.ChunkReader.{ChunkReader}
use Rattle.icap_chunks.proofs.Endings.{reads_chunked}
use Rattle.http_side.specs.declared.body.Framing.{Framing}
use Rattle.http_side.specs.declared.body.Framing.TheVariants.{None, Length, Chunked, Close}
use Rattle.http_side.specs.declared.body.BodyReader.{BodyReader}
use Rattle.http_side.specs.declared.body.Progress.TheVariants.{Left, Chunks, Open}
use Rattle.http_side.specs.Body.{IsBody, IsClosedBody, HasRead, is_over, is_over_at}

-- the end of an answer, without the word
pub said : {A : Type 0} (o : Option A) → option_map (λ x. false) o ≡ (if is_some o then Some false else Nothing)
said Nothing = refl
said (Some x) = refl

-- an option that is there holds something
pub some_of : {A : Type 0} (o : Option A) → IsTrue (is_some o) → (x : A) × (o ≡ Some x)
some_of Nothing e = absurd (let f : false ≡ true = e in cc)
some_of (Some x) e = (x, refl)

-- the chunks are over
pub chunks_over : (text body : List ℕ) (r : ChunkReader) → ChunksRead text body r
    → IsTrue (is_some (end_of r)) ↔ ((ieof : Bool) × IsChunked text body ieof)
chunks_over text body r h = (
  λ over.
      let end = some_of (end_of r) over in
      (end.0, (reads_chunked text body end.0).0 (record { ended = ap end_of h.read ∙ end.1; first = h.first }, h.found)),
  λ whole.
      let ends = ((reads_chunked text body whole.0).1 whole.1).0.ended in
      ap is_some (sym (ap end_of h.read) ∙ ends),
)

-- nothing is left of a length just where all of it was read
all_left : (n k : ℕ) → k ≤ n → IsTrue (eqb (n - k) 0) ↔ (k ≡ n)
all_left n k le = (λ e. omega (arith, eqb-true (n - k) 0 e), λ e. eq-eqb (n - k) 0 (omega arith))

-- a reader is over just where what it has read is a whole body
pub over_is : (framing : Framing) (text body : List ℕ) (r : BodyReader) → HasRead framing text body r
    → IsTrue (is_over r) ↔ IsBody framing text body
over_is None text body r h = (λ _. (h.0, h.1), λ _. ap is_over_at h.2)
over_is (Length n) text body r h =
    let left = all_left n (length text) h.1 in
    (λ e. (left.0 (sym (ap is_over_at h.2) ∙ e), h.0), λ b. ap is_over_at h.2 ∙ left.1 b.0)
over_is Chunked text body r h =
    let over = chunks_over text body h.0 h.1 in
    (λ e. over.0 (sym (ap is_over_at h.2) ∙ e), λ b. ap is_over_at h.2 ∙ over.1 b)
over_is Close text body r h = (
  λ e. let f : false ≡ true = sym (ap is_over_at h.1) ∙ e in absurd (let g : false ≡ true = f in cc),
  λ b. absurd b,
)

-- at the close
pub at_close : (framing : Framing) (text body : List ℕ) (r : BodyReader) (chunks : ChunkReader) → r.place ≡ Chunks chunks
    → HasRead framing text body r → IsTrue (is_some (end_of chunks)) ↔ IsClosedBody framing text body
at_close None text body r chunks was h = absurd (let e : Left 0 ≡ Chunks chunks = sym h.2 ∙ was in cc)
at_close (Length n) text body r chunks was h = absurd (let e : Left (n - length text) ≡ Chunks chunks = sym h.2 ∙ was in cc)
at_close Chunked text body r chunks was h =
    let e : is_over_at r.place ≡ is_some (end_of chunks) = ap is_over_at was in
    let over = over_is Chunked text body r h in
    (λ t. over.0 (e ∙ t), λ b. sym e ∙ over.1 b)
at_close Close text body r chunks was h = absurd (let e : Chunks chunks ≡ Open = sym was ∙ h.1 in cc)
