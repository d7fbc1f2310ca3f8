-- Where in a body a reader stands after the bytes that it has read.
use Rattle.std.proofs.Common.{◌≡◌, ℕ, ◌+◌, ◌-◌, ◌<◌, Bool, true, false, true≢false, ◌||◌, ◌&&◌, List, [], ◌∷◌, ◌++◌, length, refl, sym, ap}
use Rattle.std.proofs.Common.{subst, ◌∙◌, arith, append_assoc, nat_lt, nat_le, if◌then◌else◌, ◌==◌, length-append, lit<, lit≤}
use Rattle.std.proofs.lemmas.List.{append-nil}
use Rattle.std.proofs.lemmas.Bool.Decides.{nat_tests}
use Rattle.icap_chunks.specs.declared.positions.Position.{Position}
use Rattle.icap_chunks.specs.declared.positions.Position.TheVariants.{Digits, Pad, Extension, LineCr, Data, DataEnd, DataCr, TrailerStart}
use Rattle.icap_chunks.specs.declared.positions.Position.TheVariants.{Trailer, TrailerCr, LastCr, Ended, Faulted}
use Rattle.icap_chunks.specs.declared.reader.ChunkReader.{ChunkReader}
use Rattle.icap_chunks.specs.Grammar.{crlf, is_line_byte, AllPass, print_line, print_extension, IsSizeLine, no_chunk, chunk, line}
use Rattle.icap_chunks.specs.Machine.{start, step, run, body_of, is_data, in_data, in_data_end, in_data_cr, in_trailer_start, in_trailer}
use Rattle.icap_chunks.specs.Machine.{in_trailer_cr, in_last_cr}
use Rattle.icap_chunks.proofs.Standing.{Front, InChunk, InTrailers, HasEnded, LeavesAt}
use Rattle.icap_chunks.proofs.LineSteps.{Front_more, Front_text, Front_as, All_push, LeavesReader, choose, or_left, or_right, is_nle, is_eq}
use Rattle.icap_chunks.proofs.LineSteps.{is_lt, line_byte_from, digits_step, pad_step, extension_step, line_end_step}

module _ (text body : List ℕ) (sum more b : ℕ) (s : InChunk text body sum (more + 1) []) where
  -- one more byte of a chunk's data is one more of the body, and one fewer is missing
  data_one : (left : ℕ) → left ≡ more → InChunk (text ++ b ∷ []) (body ++ b ∷ []) sum left []
  data_one left e = record {
    done = s.done;
    bytes = s.bytes ++ b ∷ [];
    l = s.l;
    size = s.size;
    front = Front_as (Front_more b s.front) (simp (append_assoc, append-nil));
    is = s.is;
    body_is = ap (λ x. x ++ b ∷ []) s.body_is ∙ append_assoc s.done s.bytes (b ∷ []);
    sum_is = s.sum_is;
    sum_fits = s.sum_fits;
    left_is = omega (arith, s.left_is, length-append s.bytes (b ∷ []));
    some = s.some;
  }

  -- a byte of the data leaves a reader in the data, or after all of it
  data_step : LeavesAt (text ++ b ∷ []) (body ++ b ∷ []) sum (in_data more)
  unfolding in_data
  data_step = choose (LeavesAt (text ++ b ∷ []) (body ++ b ∷ []) sum) (nat_lt 0 more) _ _
      (λ some. data_one (more - 1 + 1) (let pos = is_lt 0 more some in omega arith))
      (λ none. data_one 0 (is_zero none))
    where
      is_zero : nat_lt 0 more ≡ false → 0 ≡ more
      is_zero none = grind (arith, nat_tests)

module _ (text body : List ℕ) (sum b : ℕ) where
  -- after all data of a chunk, a byte leaves a reader after CR, or at a fault
  data_end_step : InChunk text body sum 0 [] → LeavesAt (text ++ b ∷ []) body sum (in_data_end b)
  unfolding in_data_end
  data_end_step s = choose (LeavesAt (text ++ b ∷ []) body sum) (b == 13) _ _
      (λ e. record {
        done = s.done;
        bytes = s.bytes;
        l = s.l;
        size = s.size;
        front = Front_as (Front_more b s.front) (simp (append_assoc, append-nil)
            (ap (λ c. s.l.digits ++ (s.l.pad ++ (print_extension s.l.extension ++ 13 ∷ 10 ∷ (s.bytes ++ c ∷ [])))) (is_eq b 13 e)));
        is = s.is;
        body_is = s.body_is;
        sum_is = s.sum_is;
        sum_fits = s.sum_fits;
        left_is = s.left_is;
        some = s.some;
      })
      (λ _. tt)

  -- after the CR that follows a chunk's data, a byte leaves a reader after a whole chunk, or at a fault
  data_cr_step : InChunk text body sum 0 (13 ∷ []) → LeavesAt (text ++ b ∷ []) body sum (in_data_cr b)
  unfolding in_data_cr
  data_cr_step s = choose (LeavesAt (text ++ b ∷ []) body sum) (b == 10) _ _
      (λ e. record {
        digits = [];
        front = whole s (is_eq b 10 e);
        all = tt;
        count_is = refl;
        size_is = refl;
        short = lit≤ tt;
        fits = lit< tt;
      })
      (λ _. tt)
    where
      whole : (s : InChunk text body sum 0 (13 ∷ [])) → b ≡ 10 → Front (text ++ b ∷ []) body [] sum
      whole s e =
          let f = s.front in
          let bytes_len : length s.bytes ≡ s.size = omega (arith, s.left_is) in
          let is : IsSizeLine s.l (length s.bytes) = rw bytes_len s.is in
          let c = chunk f.chunks s.l s.bytes is (omega (arith, s.some)) (omega (arith, s.sum_is, s.sum_fits)) in
          record {
            front = f.front ++ (print_line s.l ++ (13 ∷ 10 ∷ (s.bytes ++ crlf)));
            chunks = rw s.body_is c;
            text_is = Front_text b f ∙ rw e (simp (append_assoc, append-nil));
            sum_is = omega (arith, s.sum_is, ap length s.body_is, length-append s.done s.bytes);
          }

module _ (text body : List ℕ) (sum count : ℕ) (ieof : Bool) (b : ℕ) where
  -- one more byte in the part
  part_one : (part : List ℕ) → InTrailers text body sum count ieof part → count < 8192
      → InTrailers (text ++ b ∷ []) body sum (count + 1) ieof (part ++ b ∷ [])
  part_one part s room = record {
    l = s.l;
    trailers = s.trailers;
    front = Front_as (Front_more b s.front) (simp append_assoc);
    is = s.is;
    ieof_is = s.ieof_is;
    lines = s.lines;
    count_is = omega (arith, s.count_is, length-append part (b ∷ []));
    short = omega arith;
  }

  -- at the start of a trailer line, a byte leaves a reader in a line, after the last CR, or at a fault
  trailer_start_step : InTrailers text body sum count ieof [] → LeavesAt (text ++ b ∷ []) body sum (in_trailer_start count ieof b)
  unfolding in_trailer_start
  trailer_start_step s = let G = LeavesAt (text ++ b ∷ []) body sum in choose G ((b == 10) || nat_le 8192 count) _ _ (λ _. tt)
      (λ go. let room = is_nle 8192 count (or_right (b == 10) _ go) in choose G (b == 13) _ _
      (λ e. ending (is_eq b 13 e) (part_one [] s room))
      (λ cr. (b ∷ [], part_one [] s room, lit< tt, (line_byte_from b cr (or_left (b == 10) _ go), tt))))
    where
      ending : b ≡ 13 → InTrailers (text ++ b ∷ []) body sum (count + 1) ieof (b ∷ [])
          → InTrailers (text ++ b ∷ []) body sum (count + 1) ieof (13 ∷ [])
      ending e x = let P : ℕ → Type 0 = λ c. InTrailers (text ++ b ∷ []) body sum (count + 1) ieof (c ∷ []) in subst P e x

  -- within a trailer line, a byte leaves a reader in the line, after its CR, or at a fault
  trailer_step : (part : List ℕ) → InTrailers text body sum count ieof part → 0 < length part → AllPass is_line_byte part
      → LeavesAt (text ++ b ∷ []) body sum (in_trailer count ieof b)
  unfolding in_trailer
  trailer_step part s some all = let G = LeavesAt (text ++ b ∷ []) body sum in choose G ((b == 10) || nat_le 8192 count) _ _ (λ _. tt)
      (λ go. let room = is_nle 8192 count (or_right (b == 10) _ go) in choose G (b == 13) _ _
      (λ e. (part, ending (is_eq b 13 e) (part_one part s room), some, all))
      (λ cr. (
        part ++ b ∷ [],
        part_one part s room,
        omega (arith, length-append part (b ∷ [])),
        All_push is_line_byte part b all (line_byte_from b cr (or_left (b == 10) _ go)),
      )))
    where
      ending : b ≡ 13 → InTrailers (text ++ b ∷ []) body sum (count + 1) ieof (part ++ b ∷ [])
          → InTrailers (text ++ b ∷ []) body sum (count + 1) ieof (part ++ 13 ∷ [])
      ending e x = let P : ℕ → Type 0 = λ c. InTrailers (text ++ b ∷ []) body sum (count + 1) ieof (part ++ c ∷ []) in subst P e x

  -- where both hold, the first does
  both_left : (x y : Bool) → (x && y) ≡ true → x ≡ true
  both_left true y e = refl
  both_left false y e = e

  -- where both hold, the second does
  both_right : (x y : Bool) → (x && y) ≡ true → y ≡ true
  both_right true y e = e
  both_right false y e = absurd (true≢false (sym e))

  -- after the CR of a trailer line, a byte leaves a reader after a whole line, or at a fault
  trailer_cr_step : (part : List ℕ) → InTrailers text body sum count ieof (part ++ 13 ∷ []) → 0 < length part → AllPass is_line_byte part
      → LeavesAt (text ++ b ∷ []) body sum (in_trailer_cr count ieof b)
  unfolding in_trailer_cr
  trailer_cr_step part s some all = choose (LeavesAt (text ++ b ∷ []) body sum) ((b == 10) && nat_lt count 8192) _ _
      (λ go. whole_line (is_eq b 10 (both_left (b == 10) _ go)) (is_lt count 8192 (both_right (b == 10) _ go))) (λ _. tt)
    where
      whole_line : b ≡ 10 → count < 8192 → InTrailers (text ++ b ∷ []) body sum (count + 1) ieof []
      whole_line e room = record {
        l = s.l;
        trailers = s.trailers ++ (part ++ crlf);
        front = Front_as (Front_more b s.front) (rw e (simp (append_assoc, append-nil)));
        is = s.is;
        ieof_is = s.ieof_is;
        lines = line s.lines part some all;
        count_is = omega (
          arith,
          s.count_is,
          length-append part (13 ∷ []),
          length-append s.trailers (part ++ crlf),
          length-append part crlf,
        );
        short = omega arith;
      }

  -- after the last CR, a byte leaves a reader at the end of the body, or at a fault
  last_cr_step : InTrailers text body sum count ieof (13 ∷ []) → LeavesAt (text ++ b ∷ []) body sum (in_last_cr count ieof b)
  unfolding in_last_cr
  last_cr_step s = choose (LeavesAt (text ++ b ∷ []) body sum) ((b == 10) && nat_lt count 8192) _ _
      (λ go. whole_body (is_eq b 10 (both_left (b == 10) _ go)) (is_lt count 8192 (both_right (b == 10) _ go))) (λ _. tt)
    where
      whole_body : b ≡ 10 → count < 8192 → HasEnded (text ++ b ∷ []) body ieof
      whole_body e room = record {
        whole = text ++ b ∷ [];
        rest = [];
        text_is = sym (append-nil (text ++ b ∷ []));
        is = record {
          front = s.front.front;
          last = s.l;
          trailers = s.trailers;
          chunks = s.front.chunks;
          is_last = s.is;
          lines = s.lines;
          short = omega (arith, s.count_is);
          ieof_is = s.ieof_is;
          text_is = Front_text b s.front ∙ rw e (simp append_assoc);
        };
      }

-- one byte more
module _ (text body : List ℕ) (b : ℕ) where
  -- where no byte of the body comes, the text leaves its reader with the body as it was
  same : (r : ChunkReader) → LeavesReader (text ++ b ∷ []) body r → LeavesReader (text ++ b ∷ []) (body ++ []) r
  same r g = let P : List ℕ → Type 0 = λ x. LeavesReader (text ++ b ∷ []) x r in subst P (sym (append-nil body)) g

  -- a text that begins with a whole body still does so with a byte more
  ended_step : (ieof : Bool) → HasEnded text body ieof → HasEnded (text ++ b ∷ []) body ieof
  ended_step ieof s = record {
    whole = s.whole;
    rest = s.rest ++ b ∷ [];
    is = s.is;
    text_is = ap (λ t. t ++ b ∷ []) s.text_is ∙ append_assoc s.whole s.rest (b ∷ []);
  }

  -- a text with a byte more leaves its reader where the step goes, with the byte in the body if it is data
  pub step_leaves : (sum : ℕ) (p : Position) → LeavesAt text body sum p
      → LeavesReader (text ++ b ∷ []) (body ++ (if is_data p then b ∷ [] else [])) (step (record { sum = sum; place = p }) b)
  unfolding step is_data
  step_leaves sum (Digits count size) s = same _ (digits_step text body sum count size b s)
  step_leaves sum (Pad count size) s = same _ (pad_step text body sum count size b s)
  step_leaves sum (Extension count size item found) s = same _ (extension_step text body sum count size item found b s)
  step_leaves sum (LineCr size ieof) s = same _ (line_end_step text body sum size ieof b s)
  step_leaves sum (Data more) s = data_step text body sum more b s
  step_leaves sum DataEnd s = same _ (data_end_step text body sum b s)
  step_leaves sum DataCr s = same _ (data_cr_step text body sum b s)
  step_leaves sum (TrailerStart count ieof) s = same _ (trailer_start_step text body sum count ieof b s)
  step_leaves sum (Trailer count ieof) s = same _ (trailer_step text body sum count ieof b s.0 s.1 s.2 s.3)
  step_leaves sum (TrailerCr count ieof) s = same _ (trailer_cr_step text body sum count ieof b s.0 s.1 s.2 s.3)
  step_leaves sum (LastCr count ieof) s = same _ (last_cr_step text body sum count ieof b s)
  step_leaves sum (Ended ieof) s = same (record { sum = sum; place = Ended ieof }) (ended_step ieof s)
  step_leaves sum (Faulted fault) s = tt

-- any bytes more
pub run_leaves : (front body : List ℕ) (r : ChunkReader) (text : List ℕ) → LeavesReader front body r
    → LeavesReader (front ++ text) (body ++ body_of r text) (run r text)
run_leaves front body r [] g =
    let P : List ℕ → List ℕ → Type 0 = λ x y. LeavesReader x y r in
    let h : P (front ++ []) body = let Q : List ℕ → Type 0 = λ x. P x body in subst Q (sym (append-nil front)) g in
    let Q : List ℕ → Type 0 = λ y. P (front ++ []) y in subst Q (sym (append-nil body)) h
run_leaves front body r (b ∷ text) g =
    let next = run_leaves (front ++ b ∷ []) (body ++ (if is_data r.place then b ∷ [] else [])) (step r b) text
    (step_leaves front body b r.sum r.place g) in
    let s = run (step r b) text in
    let h : LeavesReader (front ++ b ∷ text) ((body ++ (if is_data r.place then b ∷ [] else [])) ++ body_of (step r b) text) s
    = let Q : List ℕ → Type 0 = λ x. LeavesReader x ((body ++ (if is_data r.place then b ∷ [] else [])) ++ body_of (step r b) text) s in
    subst Q (append_assoc front (b ∷ []) text) next in
    let Q : List ℕ → Type 0 = λ y. LeavesReader (front ++ b ∷ text) y s in
    subst Q (append_assoc body (if is_data r.place then b ∷ [] else []) (body_of (step r b) text)) h

-- the start
pub start_leaves : LeavesReader [] [] start
start_leaves = record {
  digits = [];
  front = record { front = []; chunks = no_chunk; text_is = refl; sum_is = refl };
  all = tt;
  count_is = refl;
  size_is = refl;
  short = lit≤ tt;
  fits = lit< tt;
}

-- what a text has been for a reader that has read it
pub text_leaves : (text : List ℕ) → LeavesReader text (body_of start text) (run start text)
text_leaves text = run_leaves [] [] start text start_leaves
