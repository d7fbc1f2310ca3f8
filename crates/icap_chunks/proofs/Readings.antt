-- A text has one reading: what a reader says of it.
use Rattle.std.proofs.Common.{◌≡◌, ℕ, ◌<◌, ◌≤◌, Bool, List, [], ◌++◌, length, take, drop, Some, None, refl, sym, ap, ◌∙◌, subst, arith}
use Rattle.std.proofs.Common.{take-take, length-take-le, append_assoc, take_all, inl, inr}
use Rattle.std.proofs.lemmas.List.{take-append-drop}
use Rattle.std.proofs.lemmas.Bool.{cases_lt}
use Rattle.icap_chunks.specs.declared.fault.ChunkFault.{ChunkFault}
use Rattle.icap_chunks.specs.declared.positions.Position.{Position}
use Rattle.icap_chunks.specs.declared.positions.Position.TheVariants.{Ended as AtEnd, Faulted as AtFault}
use Rattle.icap_chunks.specs.declared.pieces.Outcome.{Outcome}
use Rattle.icap_chunks.specs.declared.pieces.Outcome.TheVariants.{More, Ended, Faulted}
use Rattle.icap_chunks.specs.declared.reader.ChunkReader.{ChunkReader}
use Rattle.icap_chunks.specs.Grammar.{IsChunked}
use Rattle.icap_chunks.specs.Machine.{start, run, body_of, end_of, fault_of, HasRead}
use Rattle.icap_chunks.specs.Faults.{Part, EndsIn, Breaks}
use Rattle.icap_chunks.specs.Collected.{HasReadTo}
use Rattle.icap_chunks.specs.Reading.{IsReading}
use Rattle.icap_chunks.specs.declared.pieces.Collector.{Collector}
use Rattle.icap_chunks.proofs.Endings.{chunked_ends, end_stays, ended_at, some_none, reads_chunked}
use Rattle.icap_chunks.proofs.Faults.{answers_faults, breaks_fault, fault_is, leaves_walk}
use Rattle.icap_chunks.proofs.Parts.{part_place, place_part}
use Rattle.icap_chunks.proofs.Runs.{run-append}
use Rattle.icap_chunks.proofs.Leaves.{text_leaves}
use Rattle.icap_chunks.proofs.Written.{one_reading}

-- ---- what a reader says

-- a prefix of a body leaves a reader in the midst of it
record Open (text body : List ℕ) : Type 0 where
  no_end : end_of (run start text) ≡ None
  no_fault : fault_of (run start text) ≡ None
  found : body_of start text ≡ body

-- a text that ends in a part leaves its reader at no end and no fault, with the part's body found
more_open : (text body : List ℕ) (part : Part) → EndsIn text body part → Open text body
more_open text body part ends =
    let p = part_place text body part ends in
    let w = leaves_walk text body p.sum p.place p.quiet p.sound p.stands in
    record { no_end = ap end_of w.reads ∙ p.quiet; no_fault = ap fault_of w.reads ∙ p.sound; found = w.finds }

-- a reader stays at the end
ended_run : (text body : List ℕ) (ieof : Bool) (used : ℕ) → IsChunked (take used text) body ieof → end_of (run start text) ≡ Some ieof
ended_run text body ieof used is =
    let ends = (chunked_ends (take used text) body ieof is).0.ended in
    ap (λ t. end_of (run start t)) (sym (take-append-drop used text)) ∙ ap end_of (run-append start (take used text) (drop used text))
    ∙ end_stays (run start (take used text)) ieof (drop used text) ends

-- a reader isn't both at the end and at a fault
not_both : (r : ChunkReader) (ieof : Bool) (fault : ChunkFault) → end_of r ≡ Some ieof → fault_of r ≡ Some fault → ⊥
not_both r ieof fault e f = apart r.place (ended_at r.place ieof e) (fault_is r.place fault f)
  where
    apart : (p : Position) → p ≡ AtEnd ieof → p ≡ AtFault fault → ⊥
    apart p a b = let c : AtEnd ieof ≡ AtFault fault = sym a ∙ b in cc

-- a body ends at one place
not_before : (text a b : List ℕ) (i j : Bool) (u v : ℕ) → v ≤ length text → IsChunked (take u text) a i → IsChunked (take v text) b j
    → u < v → ⊥
not_before text a b i j u v within x y l =
    let ends = (chunked_ends (take u text) a i x).0.ended in
    let cut : take u (take v text) ≡ take u text = take-take u v text (omega arith) in
    let len : length (take v text) ≡ v = search (arith, length-take-le v text within) in
    let none = (chunked_ends (take v text) b j y).0.first u (omega (arith, len)) in
    some_none (sym ends ∙ ap (λ t. end_of (run start t)) (sym cut) ∙ none)

-- two prefixes of one text that are whole bodies are equally long
same_use : (text a b : List ℕ) (i j : Bool) (u v : ℕ) → u ≤ length text → v ≤ length text → IsChunked (take u text) a i
    → IsChunked (take v text) b j → u ≡ v
same_use text a b i j u v uw vw x y = elim (cases_lt u v) [
  | inl l ↦ absurd (not_before text a b i j u v vw x y l)
  | inr ge ↦ elim (cases_lt v u) [
    | inl l ↦ absurd (not_before text b a j i v u uw y x l)
    | inr le ↦ omega arith
  ]
]

-- what two answers hold is the same where the answers are equal
same_some : {A : Type 0} {x y : A} → Some x ≡ Some y → x ≡ y
same_some e = cc

-- two readings of a text have the same body and the same outcome
pub one_outcome : (text a b : List ℕ) (p q : Outcome) → IsReading text a p → IsReading text b q → (a ≡ b) × (p ≡ q)
one_outcome text a b (Ended i u) (Ended j v) x y =
    let at = same_use text a b i j u v x.0 y.0 x.1 y.1 in
    let P : ℕ → Type 0 = λ n. IsChunked (take n text) b j in
    let same = one_reading (take u text) a b i j x.1 (subst P (sym at) y.1) in
    (same.0, ap (λ k. Ended k u) same.1 ∙ ap (λ n. Ended j n) at)
one_outcome text a b (Faulted f) (Faulted g) x y =
    let s = breaks_fault text a f x in
    let t = breaks_fault text b g y in
    (sym s.1 ∙ t.1, ap Faulted (same_some (sym s.0 ∙ t.0)))
one_outcome text a b More More x y = (sym (more_open text a x.0 x.1).found ∙ (more_open text b y.0 y.1).found, refl)
one_outcome text a b (Ended i u) (Faulted g) x y = absurd (not_both (run start text) i g (ended_run text a i u x.1)
    (breaks_fault text b g y).0)
one_outcome text a b (Faulted f) (Ended j v) x y = absurd (not_both (run start text) j f (ended_run text b j v y.1)
    (breaks_fault text a f x).0)
one_outcome text a b (Ended i u) More x y = absurd (some_none (sym (ended_run text a i u x.1) ∙ (more_open text b y.0 y.1).no_end))
one_outcome text a b More (Ended j v) x y = absurd (some_none (sym (ended_run text b j v y.1) ∙ (more_open text a x.0 x.1).no_end))
one_outcome text a b (Faulted f) More x y = absurd (some_none (sym (breaks_fault text a f x).0 ∙ (more_open text b y.0 y.1).no_fault))
one_outcome text a b More (Faulted g) x y = absurd (some_none (sym (breaks_fault text b g y).0 ∙ (more_open text a x.0 x.1).no_fault))

-- ---- what a reader has read

-- a reader that has read a text, and is at no end and no fault, has read a prefix of a body
pub reads_more : (text body : List ℕ) (r : ChunkReader) → HasRead text body r → end_of r ≡ None → fault_of r ≡ None
    → IsReading text body More
reads_more text body r h no_end no_fault =
    let stands = text_leaves text in
    let p = place_part text (body_of start text) (run start text).sum (run start text).place stands (ap end_of h.read ∙ no_end)
    (ap fault_of h.read ∙ no_fault) in
    let P : List ℕ → Type 0 = λ b. (part : Part) × EndsIn text b part in
    subst P h.found (p.part, p.ends)

-- a text whose reader is at the end, and wasn't before its last byte, is a whole body
pub reads_end : (text body : List ℕ) (r : ChunkReader) (ieof : Bool) → HasRead text body r → end_of r ≡ Some ieof → IsChunked text body ieof
reads_end text body r ieof h e = (reads_chunked text body ieof).0 (record { ended = ap end_of h.read ∙ e; first = h.first }, h.found)

-- a reader before its first byte has read the empty text
pub reads_nothing : end_of start ≡ None → HasRead [] [] start
reads_nothing none = record { read = refl; found = refl; first = λ k l. absurd (omega arith) }

-- a text that breaks the grammar breaks it in the same way with more bytes after it
pub breaks_longer : (text more body : List ℕ) (fault : ChunkFault) → Breaks text body fault → Breaks (text ++ more) body fault
breaks_longer text more body fault b = record {
  good = b.good;
  byte = b.byte;
  rest = b.rest ++ more;
  part = b.part;
  ends = b.ends;
  breaks = b.breaks;
  text_is = ap (λ t. t ++ more) b.text_is ∙ append_assoc b.good _ more;
}

-- a text whose reader has a fault breaks the grammar with that fault
pub reads_fault : (text body : List ℕ) (r : ChunkReader) (fault : ChunkFault) → HasRead text body r → fault_of r ≡ Some fault
    → Breaks text body fault
reads_fault text body r fault h e = (answers_faults text body fault).0 (ap fault_of h.read ∙ e, h.found)

-- a reading whose parts have other names
pub reading_as : (text a b : List ℕ) (p q : Outcome) → IsReading text a p → b ≡ a → q ≡ p → IsReading text b q
reading_as text a b p q h body outcome =
    let P : List ℕ → Type 0 = λ x. IsReading text x p in
    let Q : Outcome → Type 0 = λ o. IsReading text b o in
    subst Q (sym outcome) (subst P (sym body) h)

-- a collector that has read the whole text
pub collected : (text : List ℕ) (collector : Collector) → HasReadTo text collector → length text ≤ collector.at
    → IsReading text collector.body.items More
collected text collector h all =
    let P : List ℕ → Type 0 = λ t. HasRead t collector.body.items collector.reader in
    reads_more text collector.body.items collector.reader (subst P (take_all collector.at text all) h.read) h.no_end h.sound
