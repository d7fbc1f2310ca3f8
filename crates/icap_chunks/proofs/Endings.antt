-- A reader reads what the grammar has, and nothing else.
use Rattle.std.proofs.Common.{◌≡◌, ℕ, ◌+◌, ◌<◌, Bool, List, [], ◌∷◌, ◌++◌, length, take, drop, Option, Some, None, refl, sym, ap, ◌∙◌}
use Rattle.std.proofs.Common.{subst, arith, length-append}
use Rattle.std.specs.Prelude.{◌↔◌}
use Rattle.std.proofs.lemmas.List.{append-nil, take-append-drop, take-append-le}
use Rattle.std.proofs.Math.Seq.{take-length}
use Rattle.icap_chunks.specs.declared.positions.Position.{Position}
use Rattle.icap_chunks.specs.declared.positions.Position.TheVariants.{LastCr, Ended}
use Rattle.icap_chunks.specs.declared.reader.ChunkReader.{ChunkReader}
use Rattle.icap_chunks.specs.Grammar.{IsChunked}
use Rattle.icap_chunks.specs.Machine.{start, step, run, body_of, end_at, end_of, EndsAt}
use Rattle.icap_chunks.proofs.Runs.{run-append, at_place}
use Rattle.icap_chunks.proofs.Walks.{at, open_walk, whole_walk, all_but_last, all_but_last-is}
use Rattle.icap_chunks.proofs.Standing.{HasEnded}
use Rattle.icap_chunks.proofs.Standing.{LeavesAt}
use Rattle.icap_chunks.proofs.Leaves.{text_leaves}

-- a place that has an end is the place after the end
pub ended_at : (p : Position) (ieof : Bool) → end_at p ≡ Some ieof → p ≡ Ended ieof
unfolding end_at
ended_at p ieof e = grind (arith)

-- a reader after the end stays as it is, whatever bytes come
pub run_ended : (sum : ℕ) (ieof : Bool) (bytes : List ℕ) → run (at sum (Ended ieof)) bytes ≡ at sum (Ended ieof)
unfolding step
run_ended sum ieof [] = refl
run_ended sum ieof (b ∷ bytes) = run_ended sum ieof bytes

-- what is there of an answer, or nothing
pub option_cases : {A : Type 0} (o : Option A) (P : Type 0) → ((x : A) → o ≡ Some x → P) → (o ≡ None → P) → P
option_cases None P some none = none refl
option_cases (Some x) P some none = some x refl

-- what is there is not nothing
pub some_none : {A : Type 0} {x : A} → Some x ≡ None → ⊥
some_none e = cc

-- an end stays
pub end_stays : (r : ChunkReader) (ieof : Bool) (bytes : List ℕ) → end_of r ≡ Some ieof → end_of (run r bytes) ≡ Some ieof
end_stays r ieof bytes e =
    let is = at_place r (Ended ieof) (ended_at r.place ieof e) in
    ap (λ x. end_of (run x bytes)) is ∙ ap end_of (run_ended r.sum ieof bytes) ∙ sym (ap end_of is) ∙ e

-- after the CR of the last line, the body has not ended
no_end_last : (sum count : ℕ) (ieof x : Bool) → end_of (at sum (LastCr count ieof)) ≡ Some x → ⊥
unfolding end_at
no_end_last sum count ieof x e = cc

-- a text's first bytes, as many as a prefix has, are that prefix
take-append-length : (xs ys : List ℕ) → take (length xs) (xs ++ ys) ≡ xs
take-append-length xs ys = rw (take-append-le (length xs) xs ys (omega arith)) (take-length xs)

-- a prefix that is shorter than its list is a prefix of all but the last
front_of : (xs : List ℕ) (b k : ℕ) → k < length (xs ++ b ∷ []) → take k (xs ++ b ∷ []) ++ drop k xs ≡ xs
front_of xs b k l = rw (take-append-le k xs (b ∷ []) (omega (arith, length-append xs (b ∷ [])))) (take-append-drop k xs)

-- where the grammar has a body, a reader ends with its last byte, and has found its bytes
pub chunked_ends : (text body : List ℕ) (ieof : Bool) → IsChunked text body ieof → EndsAt text ieof × (body_of start text ≡ body)
unfolding end_at
chunked_ends text body ieof w =
    let whole = whole_walk text body ieof w in (
      record {
        ended = ap end_of whole.reads;
        first = λ k l. option_cases (end_of (run start (take k text))) _
            (λ x e. absurd (early k x (rw (all_but_last-is text body ieof w) at l)
            (ap (λ t. end_of (run start (take k t))) (sym (all_but_last-is text body ieof w)) ∙ e))) (λ e. e);
      },
      whole.finds,
    )
  where
    early : (k : ℕ) (x : Bool) → k < length (all_but_last w ++ 10 ∷ []) → end_of (run start (take k (all_but_last w ++ 10 ∷ []))) ≡ Some x
        → ⊥
    early k x l e =
        let xs = all_but_last w in
        let stays = end_stays (run start (take k (xs ++ 10 ∷ []))) x (drop k xs) e in
        let is : run (run start (take k (xs ++ 10 ∷ []))) (drop k xs) ≡ at (length body) (LastCr (length w.trailers + 1) ieof)
        = sym (run-append start (take k (xs ++ 10 ∷ [])) (drop k xs)) ∙ ap (run start) (front_of xs 10 k l)
        ∙ (open_walk text body ieof w).reads in
        no_end_last (length body) (length w.trailers + 1) ieof x (ap end_of (sym is) ∙ stays)

-- a text after which a reader is at the end, and after no shorter prefix, is a chunked body of the bytes found
pub ends_chunked : (text : List ℕ) (ieof : Bool) → EndsAt text ieof → IsChunked text (body_of start text) ieof
ends_chunked text ieof e =
    let place = ended_at (run start text).place ieof e.ended in
    let g : HasEnded text (body_of start text) ieof = let P : Position → Type 0 =
    λ p. LeavesAt text (body_of start text) (run start text).sum p in subst P place (text_leaves text) in
    no_rest text (body_of start text) ieof e g.whole g.rest g.is g.text_is
  where
    no_rest : (text body : List ℕ) (ieof : Bool) → EndsAt text ieof → (whole rest : List ℕ) → IsChunked whole body ieof
        → text ≡ whole ++ rest → IsChunked text body ieof
    no_rest text body ieof e whole [] is t = let P : List ℕ → Type 0 = λ x. IsChunked x body ieof in subst P (sym (t ∙ append-nil whole)) is
    no_rest text body ieof e whole (b ∷ rest) is t =
        let ends = (chunked_ends whole body ieof is).0.ended in
        let cut : take (length whole) text ≡ whole = ap (take (length whole)) t ∙ take-append-length whole (b ∷ rest) in
        let none = e.first (length whole) (omega (arith, ap length t, length-append whole (b ∷ rest))) in
        absurd (some_none (sym ends ∙ ap (λ x. end_of (run start x)) (sym cut) ∙ none))

-- A reader ends just where the grammar has a body, and has found its bytes.
abbrev pub ReadsChunked : Type 0
ReadsChunked = (text body : List ℕ) (ieof : Bool) → (EndsAt text ieof × (body_of start text ≡ body)) ↔ IsChunked text body ieof

-- a reader ends at the last byte, with these bytes found, just where the grammar has such a body
pub reads_chunked : ReadsChunked
reads_chunked text body ieof = (
  λ e. let P : List ℕ → Type 0 = λ x. IsChunked text x ieof in subst P e.1 (ends_chunked text ieof e.0),
  chunked_ends text body ieof,
)
