-- Each text has a reading.
use Rattle.std.proofs.Common.{◌≡◌, ℕ, zero, suc, ◌+◌, ◌<◌, ◌≤◌, ◌⊎◌, Bool, List, length, take, Option, Some, None, refl, sym, ap, ◌∙◌}
use Rattle.std.proofs.Common.{subst, arith, take_all, take-take, length-take-le, inl, inr}
use Rattle.std.proofs.lemmas.Bool.{cases_lt}
use Rattle.icap_chunks.specs.declared.fault.ChunkFault.{ChunkFault}
use Rattle.icap_chunks.specs.declared.pieces.Outcome.{Outcome}
use Rattle.icap_chunks.specs.declared.pieces.Outcome.TheVariants.{More, Ended, Faulted}
use Rattle.icap_chunks.specs.Machine.{start, run, body_of, end_of, fault_of}
use Rattle.icap_chunks.specs.Reading.{IsReading}
use Rattle.icap_chunks.proofs.Endings.{reads_chunked}
use Rattle.icap_chunks.proofs.Faults.{answers_faults}
use Rattle.icap_chunks.proofs.Readings.{reads_more}

-- no prefix of fewer bytes ends a body
abbrev NoneEnds : List ℕ → ℕ → Type 0
NoneEnds text n = (k : ℕ) → k < n → end_of (run start (take k text)) ≡ None

abbrev FirstEnds : List ℕ → ℕ → Type 0
FirstEnds text n = (k : ℕ) × (ieof : Bool) × (k < n) × (end_of (run start (take k text)) ≡ Some ieof) × NoneEnds text k

-- there is an end, with or without `ieof`, or there is none
kinds : (o : Option Bool) → ((ieof : Bool) × (o ≡ Some ieof)) ⊎ (o ≡ None)
kinds None = inr refl
kinds (Some ieof) = inl (ieof, refl)

-- there is a fault, or there is none
fault_kinds : (o : Option ChunkFault) → ((fault : ChunkFault) × (o ≡ Some fault)) ⊎ (o ≡ None)
fault_kinds None = inr refl
fault_kinds (Some fault) = inl (fault, refl)

-- the last of more numbers is the new one, or an older one
last_or : (P : ℕ → Type 0) (n k : ℕ) → k < suc n → ((j : ℕ) → j < n → P j) → P n → P k
last_or P n k l before at = elim (below n k l) [
  | inl less ↦ before k less
  | inr same ↦ let Q : ℕ → Type 0 = P in subst Q (sym same) at
]
  where
    below : (n k : ℕ) → k < suc n → (k < n) ⊎ (k ≡ n)
    below n k l = elim (cases_lt k n) [ inl less ↦ inl less | inr more ↦ inr (omega arith) ]

-- the shortest prefix that ends a body, if one does
first_end : (text : List ℕ) (n : ℕ) → FirstEnds text n ⊎ NoneEnds text n
first_end text zero = inr (λ k l. absurd (omega arith))
first_end text (suc n) = elim (first_end text n) [
  | inl found ↦ inl (found.0, found.1, (let l = found.2 in omega arith), found.3, found.4)
  | inr none ↦ elim (kinds (end_of (run start (take n text)))) [
    | inl ended ↦ inl (n, ended.0, omega arith, ended.1, none)
    | inr open_end ↦ inr (λ k l. last_or (λ j. end_of (run start (take j text)) ≡ None) n k l none open_end)
  ]
]

-- a body and what is left over, a fault, or a prefix of a body
pub some_reading : (text : List ℕ) → (body : List ℕ) × (outcome : Outcome) × IsReading text body outcome
some_reading text = elim (first_end text (length text + 1)) [
  | inl found ↦ ended found.0 found.1 (let l = found.2 in omega arith) found.3 found.4
  | inr none ↦ elim (fault_kinds (fault_of (run start text))) [
    | inl broken ↦ (body_of start text, Faulted broken.0, (answers_faults text (body_of start text) broken.0).0 (broken.1, refl))
    | inr sound ↦ (
      body_of start text,
      More,
      reads_more text (body_of start text) (run start text)
          (record { read = refl; found = refl; first = λ k l. none k (omega arith) }) (at_all none) sound,
    )
  ]
]
  where
    at_all : NoneEnds text (length text + 1) → end_of (run start text) ≡ None
    at_all none = ap (λ t. end_of (run start t)) (sym (take_all (length text) text (omega arith))) ∙ none (length text) (omega arith)

    ended : (k : ℕ) (ieof : Bool) → k ≤ length text → end_of (run start (take k text)) ≡ Some ieof → NoneEnds text k
        → (body : List ℕ) × (outcome : Outcome) × IsReading text body outcome
    ended k ieof inside e none =
        let n = length-take-le k text inside in
        let front = take k text in
        let is = (reads_chunked front (body_of start front) ieof).0 (
          record {
            ended = e;
            first = λ j l. ap (λ t. end_of (run start t)) (take-take j k text (omega (arith, n)))
                ∙ none j (omega (arith, n));
          },
          refl,
        ) in
        (body_of start front, Ended ieof k, (inside, is))
