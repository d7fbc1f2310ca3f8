-- What a reader makes of a list of bytes, part by part.
use Rattle.std.proofs.Common.{◌≡◌, ℕ, zero, suc, ◌+◌, ◌-◌, ◌<◌, ◌≤◌, Bool, true, false, List, [], ◌∷◌, ◌++◌, length, get_or, take, drop}
use Rattle.std.proofs.Common.{slice_range, min, None, refl, sym, ap, subst, ◌∙◌, arith, nat_lt, nat_le, append_assoc, inl, inr, ◌⊎◌}
use Rattle.std.proofs.Common.{length-take, length-drop, if◌then◌else◌}
use Rattle.std.proofs.lemmas.Bool.Decides.{nat_tests}
use Rattle.std.proofs.lemmas.Bool.{cases_lt}
use Rattle.std.proofs.Math.Seq.{take-suc, take-add}
use Rattle.std.proofs.lemmas.List.{take_more, take-append-drop}
use Rattle.icap_chunks.specs.declared.positions.Position.{Position}
use Rattle.icap_chunks.specs.declared.positions.Position.TheVariants.{Data, DataEnd, Ended, Faulted}
use Rattle.icap_chunks.specs.declared.reader.ChunkReader.{ChunkReader}
use Rattle.icap_chunks.specs.declared.fault.ChunkFault.{ChunkFault}
use Rattle.icap_chunks.specs.Machine.{step, run, body_of, is_data, pauses_at, end_at, end_of, faulted_at, fault_of, in_data, data_behind}

-- two lists of bytes lead a reader where the second leads it from after the first
pub run-append : (r : ChunkReader) (xs ys : List ℕ) → run r (xs ++ ys) ≡ run (run r xs) ys
run-append r [] ys = refl
run-append r (x ∷ xs) ys = run-append (step r x) xs ys

-- the body in two lists of bytes is that in the first, and then that in the second
pub body_of-append : (r : ChunkReader) (xs ys : List ℕ) → body_of r (xs ++ ys) ≡ body_of r xs ++ body_of (run r xs) ys
body_of-append r [] ys = refl
body_of-append r (x ∷ xs) ys = rw (body_of-append (step r x) xs ys) (sym
    (append_assoc _ (body_of (step r x) xs) (body_of (run (step r x) xs) ys)))

-- a reader after one byte more of a text is one step further
pub run_more : (r : ChunkReader) (xs : List ℕ) (k : ℕ) → k < length xs → run r (take (k + 1) xs) ≡ step (run r (take k xs)) (get_or xs k 0)
run_more r xs k l = ap (run r) (take_more xs k 0 l) ∙ run-append r (take k xs) (get_or xs k 0 ∷ [])

-- where framing does not pause, the next byte is none of the body
pub no_data : (p : Position) → pauses_at p ≡ false → is_data p ≡ false
unfolding pauses_at is_data
no_data p h = grind (arith)

-- where framing does not pause, the body has not ended
pub no_end : (p : Position) → pauses_at p ≡ false → end_at p ≡ None
unfolding pauses_at end_at
no_end p h = grind (arith)

-- framing has no byte of the body
pub framing_body : (r : ChunkReader) (xs : List ℕ) (n : ℕ) → n ≤ length xs
    → ((k : ℕ) → k < n → pauses_at (run r (take k xs)).place ≡ false) → body_of r (take n xs) ≡ []
framing_body r xs zero l h = refl
framing_body r xs (suc n) l h =
    let here = no_data (run r (take n xs)).place (h n (omega arith)) in
    let before = framing_body r xs n (omega arith) (λ k below. h k (omega arith)) in
    let cut : take (suc n) xs ≡ take n xs ++ get_or xs n 0 ∷ [] = take-suc xs n 0 (omega arith) in
    rw cut (body_of-append r (take n xs) (get_or xs n 0 ∷ []) ∙ rw (before, here) refl)

-- a number that is at most another passes the test for that
leb-is-true : (m n : ℕ) → m ≤ n → nat_le m n ≡ true
leb-is-true m n l = grind (arith, nat_tests)

-- a number that is more than another fails the test for at most
leb-is-false : (m n : ℕ) → n < m → nat_le m n ≡ false
leb-is-false m n l = grind (arith, nat_tests)

-- a number that is less than another passes the test for that
ltb-is-true : (m n : ℕ) → m < n → nat_lt m n ≡ true
ltb-is-true m n l = grind (arith, nat_tests)

-- after some bytes of a run, but not all, the reader is in the data
pub behind_more : (sum more n : ℕ) → n ≤ more → data_behind sum more n ≡ record { sum = sum; place = Data (more - n) }
behind_more sum more n l = rw (leb-is-true n more l) refl

-- after all bytes of a run, the reader is just after the data
pub behind_all : (sum more n : ℕ) → more < n → data_behind sum more n ≡ record { sum = sum; place = DataEnd }
behind_all sum more n l = rw (leb-is-false n more l) refl

-- a run with one byte fewer, of which one byte fewer is read, leaves the reader the same
same_behind : (sum more n : ℕ) → 0 < more → data_behind sum (more - 1) n ≡ data_behind sum more (suc n)
same_behind sum more n pos = elim (cases_lt more (suc n)) [
  | inl over ↦ behind_all sum (more - 1) n (omega arith) ∙ sym (behind_all sum more (suc n) over)
  | inr below ↦
      let same : (more - 1) - n ≡ more - suc n = omega arith in
      let P : ℕ → Type 0 = λ k. data_behind sum (more - 1) n ≡ record { sum = sum; place = Data k } in
      let first : data_behind sum (more - 1) n ≡ record { sum = sum; place = Data (more - suc n) } =
      subst P same (behind_more sum (more - 1) n (omega arith)) in
      first ∙ sym (behind_more sum more (suc n) below)
]

-- a byte of a run that has others after it leaves one fewer of them
in_data_more : (more : ℕ) → 0 < more → in_data more ≡ Data (more - 1)
unfolding in_data
in_data_more more pos = rw (ltb-is-true 0 more pos) refl

-- the last byte of a run leaves the reader where the whole run does
last_data : (sum : ℕ) → record { sum = sum; place = in_data 0 } ≡ data_behind sum 0 1
unfolding in_data
last_data sum = refl

-- a run of the body
pub run_data : (sum more : ℕ) (bytes : List ℕ) → length bytes ≤ more + 1
    → run (record { sum = sum; place = Data more }) bytes ≡ data_behind sum more (length bytes)
unfolding step
run_data sum more [] l = let same : more ≡ more - 0 = omega arith in
    ap (λ k. record { sum = sum; place = Data k }) same ∙ sym (behind_more sum more 0 (omega arith))
run_data sum zero (b ∷ []) l = last_data sum
run_data sum zero (b ∷ c ∷ bytes) l = absurd (omega arith)
run_data sum (suc more) (b ∷ bytes) l =
    rw (in_data_more (suc more) (omega arith)) (run_data sum (suc more - 1) bytes (omega arith)
    ∙ same_behind sum (suc more) (length bytes) (omega arith))

-- every byte of such a run is one of the body
pub body_of_data : (sum more : ℕ) (bytes : List ℕ) → length bytes ≤ more + 1
    → body_of (record { sum = sum; place = Data more }) bytes ≡ bytes
unfolding step is_data
body_of_data sum more [] l = refl
body_of_data sum zero (b ∷ []) l = refl
body_of_data sum zero (b ∷ c ∷ bytes) l = absurd (omega arith)
body_of_data sum (suc more) (b ∷ bytes) l =
    rw (in_data_more (suc more) (omega arith)) (ap (λ rest. b ∷ rest) (body_of_data sum (suc more - 1) bytes (omega arith)))

-- a reader at a fault stays at it, whatever bytes come
pub run_faulted : (sum : ℕ) (fault : ChunkFault) (bytes : List ℕ)
    → run (record { sum = sum; place = Faulted fault }) bytes ≡ record { sum = sum; place = Faulted fault }
unfolding step
run_faulted sum fault [] = refl
run_faulted sum fault (b ∷ bytes) = run_faulted sum fault bytes

-- a reader at a fault finds no byte of the body
pub body_of_faulted : (sum : ℕ) (fault : ChunkFault) (bytes : List ℕ) → body_of (record { sum = sum; place = Faulted fault }) bytes ≡ []
unfolding step is_data
body_of_faulted sum fault [] = refl
body_of_faulted sum fault (b ∷ bytes) = body_of_faulted sum fault bytes

-- a place in the data, or just after it, has no end
end_of_choice : (b : Bool) (n : ℕ) → end_at (if b then Data n else DataEnd) ≡ None
unfolding end_at
end_of_choice true n = refl
end_of_choice false n = refl

-- after any bytes of a run, the body has not ended
pub end_of_behind : (sum more n : ℕ) → end_of (data_behind sum more n) ≡ None
end_of_behind sum more n = end_of_choice (nat_le n more) (more - n)

-- a place in the data, or just after it, has no fault
fault_of_choice : (b : Bool) (n : ℕ) → faulted_at (if b then Data n else DataEnd) ≡ None
unfolding faulted_at
fault_of_choice true n = refl
fault_of_choice false n = refl

-- after any bytes of a run, there is no fault
pub fault_of_behind : (sum more n : ℕ) → fault_of (data_behind sum more n) ≡ None
fault_of_behind sum more n = fault_of_choice (nat_le n more) (more - n)

-- after all bytes of a run, the next byte is none of the body
pub no_data_behind : (sum more n : ℕ) → more < n → is_data (data_behind sum more n).place ≡ false
unfolding is_data
no_data_behind sum more n l = ap (λ r. is_data r.place) (behind_all sum more n l)

-- where framing stops, it is at a byte of the body, at the end or at a fault
pub pauses_cases : (p : Position) → pauses_at p ≡ true
    → ((more : ℕ) × (p ≡ Data more)) ⊎ (((ieof : Bool) × (p ≡ Ended ieof)) ⊎ ((fault : ChunkFault) × (p ≡ Faulted fault)))
unfolding pauses_at
pauses_cases p h = grind (arith)

-- a place that is that of no fault has none
pub no_fault_here : (p : Position) → ((fault : ChunkFault) → p ≡ Faulted fault → ⊥) → faulted_at p ≡ None
unfolding faulted_at
no_fault_here p h = grind (arith)

-- a place that is that of no end has none
pub no_end_here : (p : Position) → ((ieof : Bool) → p ≡ Ended ieof → ⊥) → end_at p ≡ None
unfolding end_at
no_end_here p h = grind (arith)

-- a reader is its sum, and the place at which it is
pub at_place : (r : ChunkReader) (p : Position) → r.place ≡ p → r ≡ record { sum = r.sum; place = p }
at_place r p at = ap (λ q. record { sum = r.sum; place = q }) at

-- what `read_framing` leaves
pub record Framing (old : ChunkReader) (piece : List ℕ) (n : ℕ) (new : ChunkReader) : Type 0 where
  pub within : n ≤ length piece
  pub read : new ≡ run old (take n piece)
  pub framing : (k : ℕ) → k < n → pauses_at (run old (take k piece)).place ≡ false
  pub stops : n < length piece → pauses_at new.place ≡ true

module _ (old : ChunkReader) (piece : List ℕ) (n : ℕ) (mid : ChunkReader) (f : Framing old piece n mid) where
  -- the bytes of the body in framing are none, as in the empty range of the piece where the framing stops
  pub framing_part : slice_range piece n n ≡ body_of old (take n piece)
  framing_part = let none : n - n ≡ 0 = omega arith in
      ap (λ k. take k (drop n piece)) none ∙ sym (framing_body old piece n f.within f.framing)

  -- before all of the framing is read, the body has not ended
  pub framing_end_first : (k : ℕ) → k < n → end_of (run old (take k piece)) ≡ None
  framing_end_first k below = no_end (run old (take k piece)).place (f.framing k below)

  -- where framing stops at a fault, the reader is as after the whole piece
  pub fault_read : (fault : ChunkFault) → mid.place ≡ Faulted fault → mid ≡ run old piece
  fault_read fault at =
      let mid-is = at_place mid (Faulted fault) at in
      mid-is ∙ sym (run_faulted mid.sum fault (drop n piece)) ∙ ap (λ r. run r (drop n piece)) (sym mid-is ∙ f.read)
      ∙ sym (run-append old (take n piece) (drop n piece)) ∙ ap (run old) (take-append-drop n piece)

  -- where framing stops at a fault, the whole piece has no byte of the body
  pub fault_part : (fault : ChunkFault) → mid.place ≡ Faulted fault → body_of old piece ≡ []
  fault_part fault at =
      let mid-is = at_place mid (Faulted fault) at in
      ap (body_of old) (sym (take-append-drop n piece)) ∙ body_of-append old (take n piece) (drop n piece)
      ∙ rw (framing_body old piece n f.within f.framing) (ap (λ r. body_of r (drop n piece)) (sym f.read ∙ mid-is)
      ∙ body_of_faulted mid.sum fault (drop n piece))

  module _ (left : ℕ) (at : mid.place ≡ Data left) (m : ℕ) (count : m ≡ min (left + 1) (length piece - n)) where
    mid-data : run old (take n piece) ≡ record { sum = mid.sum; place = Data left }
    mid-data = sym f.read ∙ at_place mid (Data left) at

    short : (k : ℕ) → k ≤ m → length (take k (drop n piece)) ≡ k
    short k l = omega (arith, length-take k (drop n piece), length-drop n piece, count)

    pub run_at : (k : ℕ) → k ≤ m → run old (take (n + k) piece) ≡ data_behind mid.sum left k
    run_at k l =
        let len = short k l in
        ap (run old) (take-add n k piece) ∙ run-append old (take n piece) (take k (drop n piece))
        ∙ ap (λ r. run r (take k (drop n piece))) mid-data
        ∙ run_data mid.sum left (take k (drop n piece)) (omega arith) ∙ ap (data_behind mid.sum left) len

    pub data_part : slice_range piece n (n + m) ≡ body_of old (take (n + m) piece)
    data_part =
        let len = short m (omega arith) in
        let width : m ≡ (n + m) - n = omega arith in
        sym (ap (body_of old) (take-add n m piece) ∙ body_of-append old (take n piece) (take m (drop n piece))
        ∙ rw (framing_body old piece n f.within f.framing) (ap (λ r. body_of r (take m (drop n piece))) mid-data
        ∙ body_of_data mid.sum left (take m (drop n piece)) (omega arith) ∙ ap (λ k. take k (drop n piece)) width))

    pub data_end_first : (k : ℕ) → k < n + m → end_of (run old (take k piece)) ≡ None
    data_end_first k below = elim (cases_lt k n) [
      | inl early ↦ framing_end_first k early
      | inr late ↦
          let index : k ≡ n + (k - n) = omega arith in
          let here : run old (take k piece) ≡ data_behind mid.sum left (k - n) =
          ap (λ j. run old (take j piece)) index ∙ run_at (k - n) (omega arith) in
          ap end_of here ∙ end_of_behind mid.sum left (k - n)
    ]
