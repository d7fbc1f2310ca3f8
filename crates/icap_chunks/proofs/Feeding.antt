-- What a piece adds to what was read.
use Rattle.std.proofs.Common.{◌≡◌, ℕ, ◌+◌, ◌-◌, ◌<◌, ◌≤◌, Bool, List, [], ◌++◌, length, take, Option, Some, None, sym, ap, ◌∙◌, arith}
use Rattle.std.proofs.Common.{length-append, length-take, take-take, inl, inr}
use Rattle.std.proofs.lemmas.List.{append-nil, take-append-le}
use Rattle.std.proofs.lemmas.Bool.{cases_lt}
use Rattle.std.proofs.Math.Seq.{take-append-add}
use Rattle.std.specs.Prelude.{IfOk, IfErr, OnOk, IfSome, IsOkAnd, Result, Ok, Err, slice_range}
use Rattle.icap_chunks.specs.declared.reader.Fed.{Fed}
use Rattle.icap_chunks.specs.declared.positions.Position.{Position}
use Rattle.icap_chunks.specs.declared.positions.Position.TheVariants.{Ended, Faulted}
use Rattle.icap_chunks.proofs.Endings.{some_none, end_stays, ended_at}
use Rattle.icap_chunks.specs.declared.reader.ChunkReader.{ChunkReader}
use Rattle.icap_chunks.specs.declared.fault.ChunkFault.{ChunkFault}
use Rattle.icap_chunks.specs.Machine.{start, run, body_of, end_of, fault_of, HasRead}
use Rattle.icap_chunks.specs.Faults.{Breaks}
use Rattle.icap_chunks.proofs.Runs.{run-append, body_of-append}
use Rattle.icap_chunks.proofs.Faults.{answers_faults, fault_stays, fault_is}

module _ (text body : List ℕ) (old new : ChunkReader) (h : HasRead text body old) (piece : List ℕ) where
  -- more bytes after a text that was read lead where they lead the reader that has read it
  run_on : (bytes : List ℕ) → run start (text ++ bytes) ≡ run old bytes
  run_on bytes = run-append start text bytes ∙ ap (λ r. run r bytes) h.read

  -- with more bytes, the body is what was found, and what the reader finds in them
  body_on : (bytes : List ℕ) → body_of start (text ++ bytes) ≡ body ++ body_of old bytes
  body_on bytes = body_of-append start text bytes ∙ ap (λ x. x ++ body_of (run start text) bytes) h.found
      ∙ ap (λ r. body ++ body_of r bytes) h.read

  -- a reader that goes on, and meets no end before its last byte, has read the longer text
  pub HasRead-more : (used : ℕ) (part : List ℕ) → used ≤ length piece → new ≡ run old (take used piece)
      → part ≡ body_of old (take used piece)
      → ((k : ℕ) → k < used → end_of (run old (take k piece)) ≡ None) → HasRead (text ++ take used piece) (body ++ part) new
  HasRead-more used part within read part_is first = record {
    read = run_on (take used piece) ∙ sym read;
    found = body_on (take used piece) ∙ ap (λ x. body ++ x) (sym part_is);
    first = λ k l. elim (cases_lt k (length text)) [
      | inl early ↦ ap (λ t. end_of (run start t)) (take-append-le k text (take used piece) (omega arith)) ∙ h.first k early
      | inr late ↦
          let j = k - length text in
          let len = length-append text (take used piece) in
          let cut = length-take used piece in
          let below : j < used = omega arith in
          let index : k ≡ length text + j = omega arith in
          let same : take k (text ++ take used piece) ≡ text ++ take j piece
          = ap (λ i. take i (text ++ take used piece)) index ∙ take-append-add text (take used piece) j
          ∙ ap (λ x. text ++ x) (take-take j used piece (omega arith)) in
          ap (λ t. end_of (run start t)) same ∙ ap end_of (run_on (take j piece)) ∙ first j below
    ];
  }

  -- where a piece brings a fault, and none of its bytes is of the body, text and piece break the grammar
  pub breaks_more : (fault : ChunkFault) → fault_of new ≡ Some fault → new ≡ run old piece → body_of old piece ≡ []
      → Breaks (text ++ piece) body fault
  breaks_more fault is read none =
      (answers_faults (text ++ piece) body fault).0 (
        ap fault_of (run_on piece ∙ sym read) ∙ is,
        body_on piece ∙ ap (λ x. body ++ x) none ∙ append-nil body,
      )

-- ---- the clauses of `feed`, from those of `read_piece`

module _ (old new : ChunkReader) (piece : List ℕ) where
  -- what was fed is read: the text and the used bytes, with the body and the part found
  pub fed_read : (r : Result Fed ChunkFault) → IfOk r (λ fed. (fed.part.0 ≤ fed.part.1) × (fed.part.1 ≤ fed.used)
      × (fed.used ≤ length piece))
      → IfOk r (λ fed. new ≡ run old (take fed.used piece))
      → IfOk r (λ fed. slice_range piece fed.part.0 fed.part.1 ≡ body_of old (take fed.used piece))
      → IfOk r (λ fed. (k : ℕ) → k < fed.used → end_of (run old (take k piece)) ≡ None)
      → IfOk r (λ fed. (text body : List ℕ) → HasRead text body old
      → HasRead (text ++ take fed.used piece) (body ++ slice_range piece fed.part.0 fed.part.1) new)
  fed_read (Ok fed) within read part first = λ text body h. HasRead-more text body old new h piece fed.used _ within.2 read part first
  fed_read (Err fault) within read part first = tt

  -- a piece that is answered with a fault breaks the grammar, after what was read
  pub fed_fault : (r : Result Fed ChunkFault) → IfErr r (λ fault. fault_of new ≡ Some fault) → IfErr r (λ fault. new ≡ run old piece)
      → IfErr r (λ fault. body_of old piece ≡ [])
      → IfErr r (λ fault. (text body : List ℕ) → HasRead text body old → Breaks (text ++ piece) body fault)
  fed_fault (Ok fed) is read none = tt
  fed_fault (Err fault) is read none = λ text body h. breaks_more text body old new h piece fault is read none

  -- two equal answers that hold something hold the same
  same_some : {A : Type 0} {x y : A} → Some x ≡ Some y → x ≡ y
  same_some e = cc

  -- a reader that had a fault before answers it again
  pub fed_faulted : (r : Result Fed ChunkFault) (o : Option ChunkFault) → fault_of old ≡ o
      → IfOk r (λ fed. new ≡ run old (take fed.used piece)) → OnOk r (fault_of new ≡ None)
      → IfErr r (λ fault. fault_of new ≡ Some fault) → IfErr r (λ fault. new ≡ run old piece) → IfSome o (λ fault. r ≡ Err fault)
  fed_faulted r None e read none is read_all = tt
  fed_faulted (Ok fed) (Some fault) e read none is read_all =
      absurd (some_none (sym (ap fault_of (read ∙ (fault_stays old fault (take fed.used piece) e).0) ∙ e) ∙ none))
  fed_faulted (Err x) (Some fault) e read none is read_all =
      ap Err (same_some (sym is ∙ ap fault_of (read_all ∙ (fault_stays old fault piece e).0) ∙ e))

  -- a reader that was at the end stays so: it uses no byte, and says the end again
  pub fed_over : (r : Result Fed ChunkFault) (o : Option Bool) → end_of old ≡ o → IfOk r (λ fed. new ≡ run old (take fed.used piece))
      → IfOk r (λ fed. fed.ended ≡ end_of new)
      → IfOk r (λ fed. (k : ℕ) → k < fed.used → end_of (run old (take k piece)) ≡ None)
      → IfErr r (λ fault. fault_of new ≡ Some fault) → IfErr r (λ fault. new ≡ run old piece)
      → IfSome o (λ ieof. (new ≡ old) × IsOkAnd r (λ fed. (fed.used ≡ 0) × (fed.ended ≡ Some ieof)))
  fed_over r None e read ended first is read_all = tt
  fed_over (Ok fed) (Some ieof) e read ended first is read_all =
      let none : fed.used ≡ 0 = elim (cases_lt 0 fed.used) [
        | inl some ↦ absurd (some_none (sym e ∙ first 0 some))
        | inr zero_used ↦
            omega arith
      ] in
      let same : new ≡ old = read ∙ ap (λ k. run old (take k piece)) none in
      (same, (none, ended ∙ ap end_of same ∙ e))
  fed_over (Err fault) (Some ieof) e read ended first is read_all =
      absurd (no_both new.place ieof fault (ended_at new.place ieof (ap end_of read_all ∙ end_stays old ieof piece e))
      (fault_is new.place fault is))
    where
      no_both : (p : Position) (ieof : Bool) (fault : ChunkFault) → p ≡ Ended ieof → p ≡ Faulted fault → ⊥
      no_both p ieof fault a b = let c : Ended ieof ≡ Faulted fault = sym a ∙ b in cc
