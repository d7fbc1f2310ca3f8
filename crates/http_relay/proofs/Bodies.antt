-- Runs of a body.
use Rattle.std.proofs.Common.{◌≡◌, ℕ, ◌+◌, ◌<◌, ◌≤◌, List, [], ◌++◌, length, take, drop, ap, sym, subst, ◌∙◌, append_assoc, append-nil}
use Rattle.std.proofs.Common.{arith, Bool, false}
use Rattle.std.proofs.lemmas.List.{take-take, take-append-drop, length-take, length-take-le, take-append-le}
use Rattle.std.proofs.Math.Seq.{take-add, take-append-add}
use Rattle.std.proofs.lemmas.Slice.{take-put_mid_below}
use borrow.Rule.Slice.PartMut.{put_mid, post_of}
use Rattle.http_side.specs.Body.{HasRead, is_over}
use Rattle.icap_chunks.specs.Faults.{Breaks}
use Rattle.icap_chunks.specs.declared.fault.ChunkFault.{ChunkFault}
use Rattle.http_side.specs.declared.body.BodyReader.{BodyReader}
use Rattle.icap_chunks.proofs.Readings.{breaks_longer}
use Rattle.http_relay.specs.Body.{ReadsOn, IsBodyNext, IsBroken}

-- what breaks a first part breaks the whole
pub breaks_whole : (old : BodyReader) (raw piece : List ℕ) (m : ℕ) (fault : ChunkFault) → piece ≡ take m raw → IsBroken old piece fault
    → IsBroken old raw fault
breaks_whole old raw piece m fault is f way text body h =
    let one = f way text body h in
    let longer : Breaks ((text ++ piece) ++ drop m raw) body fault = breaks_longer (text ++ piece) (drop m raw) body fault one.1 in
    let joined : (text ++ piece) ++ drop m raw ≡ text ++ raw =
    append_assoc text piece (drop m raw) ∙ ap (λ (t : List ℕ). text ++ t)
    (ap (λ (t : List ℕ). t ++ drop m raw) is ∙ take-append-drop m raw) in
    (one.0, subst (λ (t : List ℕ). Breaks t body fault) joined longer)

-- what is read of a first part is read of the whole
pub reads_whole : (old new : BodyReader) (raw piece : List ℕ) (m used : ℕ) (part : List ℕ) → piece ≡ take m raw → used ≤ length piece
    → ReadsOn old piece used part new → ReadsOn old raw used part new
reads_whole old new raw piece m used part is l f way text body h =
    let small : used ≤ m = omega (arith, length-take m raw, ap (λ (t : List ℕ). length t) is) in
    let same : take used piece ≡ take used raw = ap (λ (t : List ℕ). take used t) is ∙ take-take used m raw small in
    subst (λ (t : List ℕ). HasRead way (text ++ t) (body ++ part) new) same (f way text body h)

-- the only byte of a piece is one of the body
pub next_is_body : (old new : BodyReader) (raw piece : List ℕ) (used : ℕ) (part : List ℕ) → piece ≡ take 1 raw → used ≡ 1
    → used ≤ length piece → 0 < length part
    → ReadsOn old piece used part new → IsBodyNext old raw
next_is_body old new raw piece used part is one l some f = record {
  part = part;
  new = new;
  some = some;
  reads = subst (λ (n : ℕ). ReadsOn old raw n part new) one (reads_whole old new raw piece 1 used part is l f);
}

-- first so many bytes, then more of what is left
pub reads_then : (a b c : BodyReader) (raw : List ℕ) (m n : ℕ) (p q : List ℕ) → ReadsOn a raw m p b → ReadsOn b (drop m raw) n q c
    → ReadsOn a raw (m + n) (p ++ q) c
reads_then a b c raw m n p q f g way text body h =
    let both : HasRead way ((text ++ take m raw) ++ take n (drop m raw)) ((body ++ p) ++ q) c =
    g way (text ++ take m raw) (body ++ p) (f way text body h) in
    let texts : (text ++ take m raw) ++ take n (drop m raw) ≡ text ++ take (m + n) raw =
    append_assoc text (take m raw) (take n (drop m raw)) ∙ ap (λ (t : List ℕ). text ++ t) (sym (take-add m n raw)) in
    subst (λ (t : List ℕ). HasRead way t (body ++ (p ++ q)) c) texts
    (subst (λ (t : List ℕ). HasRead way ((text ++ take m raw) ++ take n (drop m raw)) t c) (append_assoc body p q) both)

-- bytes that were put after others
taken_behind : (a k m : ℕ) (xs ys : List ℕ) → a ≤ length xs → m ≤ length ys → take (a + m) (put_mid a k xs ys) ≡ take a xs ++ take m ys
taken_behind a k m xs ys h l =
    let e : length (take a xs) ≡ a = length-take-le a xs h in
    ap (λ (n : ℕ). take (n + m) (put_mid a k xs ys)) (sym e)
    ∙ (take-append-add (take a xs) (ys ++ post_of a k xs) m ∙ ap (λ (t : List ℕ). take a xs ++ t) (take-append-le m ys (post_of a k xs) l))

-- one more run, whose bytes go after those before
pub reads_more_runs : (a b c : BodyReader) (raw rest : List ℕ) (used n : ℕ) (out ys : List ℕ) (count k m : ℕ)
    → ReadsOn a raw used (take count out) b → rest ≡ drop used raw → ReadsOn b rest n (take m ys) c
    → count ≤ length out → m ≤ length ys → ReadsOn a raw (used + n) (take (count + m) (put_mid count k out ys)) c
reads_more_runs a b c raw rest used n out ys count k m f is g h l =
    subst (λ (t : List ℕ). ReadsOn a raw (used + n) t c) (sym (taken_behind count k m out ys h l))
    (reads_then a b c raw used n (take count out) (take m ys) f (subst (λ (t : List ℕ). ReadsOn b t n (take m ys) c) is g))

-- no further run
pub reads_kept : (a b c : BodyReader) (raw : List ℕ) (used : ℕ) (out ys : List ℕ) (count k : ℕ) → ReadsOn a raw used (take count out) b
    → c ≡ b → count ≤ length out
    → ReadsOn a raw used (take count (put_mid count k out ys)) c
reads_kept a b c raw used out ys count k f e h =
    let same : count ≤ count = omega arith in
    subst (λ (t : List ℕ). ReadsOn a raw used t c) (sym (take-put_mid_below count k out ys count same h))
    (subst (λ (r : BodyReader). ReadsOn a raw used (take count out) r) (sym e) f)

-- to read no byte finds none of the body, and leaves the reader as it is
pub reads_none : (a : BodyReader) (raw : List ℕ) → ReadsOn a raw 0 [] a
reads_none a raw way text body h = subst (λ (t : List ℕ). HasRead way t (body ++ []) a) (sym (append-nil text))
    (subst (λ (t : List ℕ). HasRead way text t a) (sym (append-nil body)) h)

-- a fault after bytes without any of the body
pub breaks_behind : (a b : BodyReader) (raw rest : List ℕ) (used count : ℕ) (out : List ℕ) (fault : ChunkFault) → count ≡ 0
    → ReadsOn a raw used (take count out) b → rest ≡ drop used raw
    → IsBroken b rest fault → IsBroken a raw fault
breaks_behind a b raw rest used count out fault z f is g way text body h =
    let none : body ++ take count out ≡ body = ap (λ (n : ℕ). body ++ take n out) z ∙ append-nil body in
    let one = g way (text ++ take used raw) (body ++ take count out) (f way text body h) in
    let there : Breaks ((text ++ take used raw) ++ rest) (body ++ take count out) fault = one.1 in
    let texts : (text ++ take used raw) ++ rest ≡ text ++ raw =
    append_assoc text (take used raw) rest ∙ ap (λ (t : List ℕ). text ++ t)
    (ap (λ (t : List ℕ). take used raw ++ t) is ∙ take-append-drop used raw) in (
      one.0,
      subst (λ (t : List ℕ). Breaks t body fault) texts (subst (λ (t : List ℕ). Breaks ((text ++ take used raw) ++ rest) t fault) none
          there),
    )

-- the body goes on
pub not_ended : (r : BodyReader) (ended : Bool) → ended ≡ is_over r → ended ≡ false → is_over r ≡ false
not_ended r ended e f = sym e ∙ f
