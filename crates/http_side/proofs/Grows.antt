-- What a piece adds to what was read.
use Rattle.std.proofs.Common.{◌≡◌, ℕ, ◌+◌, ◌-◌, ◌≤◌, List, [], ◌++◌, length, take, refl, sym, ap, ◌∙◌, subst, arith, length-append}
use Rattle.std.proofs.Common.{length-take}
use Rattle.std.proofs.lemmas.Grind.{common_steps}
use Rattle.std.specs.Prelude.{slice_range, Result, Ok, Err, IfOk, IfErr}
use Rattle.icap_chunks.specs.declared.reader.Fed.{Fed}
use Rattle.icap_chunks.specs.declared.reader.ChunkReader.{ChunkReader}
use Rattle.icap_chunks.specs.declared.fault.ChunkFault.{ChunkFault}
use Rattle.icap_chunks.specs.Machine.{HasRead as ChunksRead}
use Rattle.icap_chunks.specs.Faults.{Breaks}
use Rattle.http_side.specs.declared.body.Framing.{Framing}
use Rattle.http_side.specs.declared.body.Framing.TheVariants.{None, Length, Chunked, Close}
use Rattle.http_side.specs.declared.body.BodyReader.{BodyReader}
use Rattle.http_side.specs.declared.body.Progress.TheVariants.{Left, Chunks, Open}
use Rattle.http_side.specs.Body.{HasRead}

-- two equal places with a number of bytes left have the same number
same_left : {m n : ℕ} → Left m ≡ Left n → m ≡ n
same_left e = cc

-- two equal places with a reader of chunks have the same reader
same_chunks : {r s : ChunkReader} → Chunks r ≡ Chunks s → r ≡ s
same_chunks e = cc

-- a number of bytes left isn't a reader of chunks
left_chunks : {n : ℕ} {r : ChunkReader} → Left n ≡ Chunks r → ⊥
left_chunks e = cc

-- a number of bytes left isn't an open body
left_open : {n : ℕ} → Left n ≡ Open → ⊥
left_open e = cc

-- a reader of chunks isn't an open body
chunks_open : {r : ChunkReader} → Chunks r ≡ Open → ⊥
chunks_open e = cc

-- nothing more
nothing_more : (text piece : List ℕ) (used : ℕ) → text ≡ [] → used ≡ 0 → text ++ take used piece ≡ []
nothing_more text piece used e z = rw (e, z) refl

-- bytes of a counted body
pub counted : (framing : Framing) (text body piece : List ℕ) (old new : BodyReader) (left used : ℕ) → old.place ≡ Left left → used ≤ left
    → used ≤ length piece
    → new.place ≡ Left (left - used) → HasRead framing text body old
    → HasRead framing (text ++ take used piece) (body ++ slice_range piece 0 used) new
counted None text body piece old new left used was few there is h =
    let zero : left ≡ 0 = same_left (sym was ∙ h.2) in
    let none : used ≡ 0 = omega arith in
    let range : slice_range piece 0 used ≡ [] = rw none refl in
    (nothing_more text piece used h.0 none, rw (h.1, range) refl, is ∙ ap Left (omega arith))
counted (Length n) text body piece old new left used was few there is h =
    let left_is : left ≡ n - length text = same_left (sym was ∙ h.2) in
    let len : length (text ++ take used piece) ≡ length text + used =
    omega (arith, length-append text (take used piece), length-take used piece) in
    let range : slice_range piece 0 used ≡ take used piece = grind (arith, common_steps) in
    let here : body ++ slice_range piece 0 used ≡ text ++ take used piece = rw (h.0, range) refl in
    let low : length (text ++ take used piece) ≤ n = omega arith in
    let rest : left - used ≡ n - length (text ++ take used piece) = omega arith in
    (here, low, is ∙ ap Left rest)
counted Chunked text body piece old new left used was few there is h = absurd (left_chunks (sym was ∙ h.2))
counted Close text body piece old new left used was few there is h = absurd (left_open (sym was ∙ h.1))

-- a reader of chunks reads a chunked body
pub chunked : (framing : Framing) (text body : List ℕ) (old : BodyReader) (chunks : ChunkReader) → old.place ≡ Chunks chunks
    → HasRead framing text body old
    → (framing ≡ Chunked) × ChunksRead text body chunks
chunked None text body old chunks was h = absurd (left_chunks (sym h.2 ∙ was))
chunked (Length n) text body old chunks was h = absurd (left_chunks (sym h.2 ∙ was))
chunked Chunked text body old chunks was h =
    let P : ChunkReader → Type 0 = λ r. ChunksRead text body r in
    (refl, subst P (same_chunks (sym h.2 ∙ was)) h.1)
chunked Close text body old chunks was h = absurd (chunks_open (sym was ∙ h.1))

-- what a feed of chunks says, for each framing
pub chunks_read : (r : Result Fed ChunkFault) (piece : List ℕ) (old new : BodyReader) (chunks : ChunkReader) → old.place ≡ Chunks chunks
    → IfOk r (λ fed. (text body : List ℕ) → ChunksRead text body chunks
    → HasRead Chunked (text ++ take fed.used piece) (body ++ slice_range piece fed.part.0 fed.part.1) new)
    → IfOk r (λ fed. (framing : Framing) (text body : List ℕ) → HasRead framing text body old
    → HasRead framing (text ++ take fed.used piece) (body ++ slice_range piece fed.part.0 fed.part.1) new)
chunks_read (Err e) piece old new chunks was read = tt
chunks_read (Ok fed) piece old new chunks was read = λ framing text body h.
    let is = chunked framing text body old chunks was h in
    let P : Framing → Type 0 = λ f. HasRead f (text ++ take fed.used piece) (body ++ slice_range piece fed.part.0 fed.part.1) new in
    subst P (sym is.0) (read text body is.1)

-- a fault that breaks what the chunk reader read also breaks the body that was read, whose framing is chunked
pub chunks_fault : (r : Result Fed ChunkFault) (piece : List ℕ) (old : BodyReader) (chunks : ChunkReader) → old.place ≡ Chunks chunks
    → IfErr r (λ fault. (text body : List ℕ) → ChunksRead text body chunks → Breaks (text ++ piece) body fault)
    → IfErr r (λ fault. (framing : Framing) (text body : List ℕ) → HasRead framing text body old
    → (framing ≡ Chunked) × Breaks (text ++ piece) body fault)
chunks_fault (Ok fed) piece old chunks was broken = tt
chunks_fault (Err e) piece old chunks was broken = λ framing text body h.
    let is = chunked framing text body old chunks was h in
    (is.0, broken text body is.1)
