-- What is read of a piece adds to the text read before; an end or a fault in it is the reading of the text.
use Rattle.std.proofs.Common.{◌≡◌, ℕ, ◌+◌, ◌-◌, ◌<◌, ◌≤◌, List, ◌++◌, length, take, drop, slice_range, sym, ap, ◌∙◌, subst, arith}
use Rattle.std.proofs.Common.{take-take, length-take, length-drop}
use Rattle.std.proofs.lemmas.List.{take-append-drop}
use Rattle.std.proofs.Math.Seq.{take-add}
use Rattle.icap_chunks.specs.declared.reader.ChunkReader.{ChunkReader}
use Rattle.icap_chunks.specs.Machine.{HasRead}
use Rattle.icap_chunks.specs.Faults.{Breaks}
use Rattle.icap_chunks.proofs.Readings.{reads_end, breaks_longer}
use Rattle.icap_chunks.proofs.pieces.Collector.read_to.Goals as goal

-- a piece of a text, and some of its bytes
module _ (text : List ℕ) (at end used : ℕ) (low : at ≤ end) (high : end ≤ length text) (fits : used ≤ end - at) where
  -- the bytes before a piece of a text, and first bytes of the piece, are a prefix of the text
  take_piece : take at text ++ take used (slice_range text at end) ≡ take (at + used) text
  take_piece = ap (λ x. take at text ++ x) (take-take used (end - at) (drop at text) fits) ∙ sym (take-add at used text)

-- the bytes before a piece of a text, and the whole piece, are the text up to the piece's end
whole_piece : (text : List ℕ) (at end : ℕ) → at ≤ end → take at text ++ slice_range text at end ≡ take end text
whole_piece text at end low = let e : end ≡ at + (end - at) = omega arith in sym (ap (λ n. take n text) e ∙ take-add at (end - at) text)

-- a piece of a text has as many bytes as lie between its start and its end
piece_length : (text : List ℕ) (at end : ℕ) → at ≤ end → end ≤ length text → length (slice_range text at end) ≡ end - at
piece_length text at end low high = omega (arith, length-take (end - at) (drop at text), length-drop at text)

-- what is there after a piece
module _ (text old body : List ℕ) (at end used : ℕ) (part : List ℕ) (r : ChunkReader) (low : at < end) (high : end ≤ length text)
    (fits : used ≤ end - at) where
  after_piece : HasRead (take at text ++ take used (slice_range text at end)) (old ++ part) r → body ≡ old ++ part
      → HasRead (take (at + used) text) body r
  after_piece h e =
      let P : List ℕ → Type 0 = λ t. HasRead t (old ++ part) r in
      let Q : List ℕ → Type 0 = λ b. HasRead (take (at + used) text) b r in
      subst Q (sym e) (subst P (take_piece text at end used (omega arith) high fits) h)

pub returns-in-Some-clause-found : goal.returns-in-Some-clause-found
returns-in-Some-clause-found c =
    let text = c.args.text.now in
    let at = c.loop-self.self.at in
    let used = c.in-Ok.fed.used in
    let end = c.args.end in
    let i = c.loop-self.invariant.read in
    let piece_len = piece_length text at end c.loop-self.invariant.within c.requires.high in
    let fits : used ≤ end - at = omega (arith, c.in-Ok.ensures.within.2, piece_len) in
    let h = after_piece text c.loop-self.self.body.items c.extend_from_slice.new.self.items at end used _ c.feed.new.self
    c.loop-self-test.true c.requires.high fits
    (c.in-Ok.ensures.read (take at text) c.loop-self.self.body.items i.read) c.in_ok-extend_from_slice-in-Ok.ensures.items in (
      omega (arith, fits, c.requires.high),
      reads_end (take (at + used) text) c.extend_from_slice.new.self.items c.feed.new.self c.in-Some.ieof h
          (sym c.in-Ok.ensures.ended ∙ c.in-Some.is),
    )

pub loop-self-preserved : goal.loop-self-preserved
loop-self-preserved c =
    let text = c.args.text.now in
    let at = c.loop-self.self.at in
    let used = c.in-Ok.fed.used in
    let end = c.args.end in
    let i = c.loop-self.invariant.read in
    let piece_len = piece_length text at end c.loop-self.invariant.within c.requires.high in
    let fits : used ≤ end - at = omega (arith, c.in-Ok.ensures.within.2, piece_len) in
    record {
      within = omega (arith, fits, c.loop-self.invariant.within);
      read = record {
        within = omega (arith, fits, c.requires.high);
        read = after_piece text c.loop-self.self.body.items c.extend_from_slice.new.self.items at end used _ c.feed.new.self
            c.loop-self-test.true c.requires.high fits
            (c.in-Ok.ensures.read (take at text) c.loop-self.self.body.items i.read) c.in_ok-extend_from_slice-in-Ok.ensures.items;
        no_end = sym c.in-Ok.ensures.ended ∙ c.in_default.is;
        sound = c.in-Ok.ensures.no_fault;
      };
    }

pub returns-in-Err-clause-found : goal.returns-in-Err-clause-found
returns-in-Err-clause-found c =
    let text = c.args.text.now in
    let at = c.loop-self.self.at in
    let end = c.args.end in
    let P : List ℕ → Type 0 = λ t. Breaks t c.loop-self.self.body.items c.in-Err.fault in
    let here = c.in-Err.ensures.fault (take at text) c.loop-self.self.body.items c.loop-self.invariant.read.read in
    let front = subst P (whole_piece text at end c.loop-self.invariant.within) here in
    subst P (take-append-drop end text) (breaks_longer (take end text) (drop end text) c.loop-self.self.body.items c.in-Err.fault front)
