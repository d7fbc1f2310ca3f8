-- A text stands in one place, and breaks with one fault, at one byte.
use Rattle.std.proofs.Common.{◌≡◌, ℕ, suc, ◌+◌, ◌-◌, ◌<◌, ◌≤◌, Bool, true, false, List, [], ◌∷◌, ◌++◌, length, Some, None, refl, sym, ap}
use Rattle.std.proofs.Common.{◌∙◌, subst, arith, append_assoc, length-append, if◌then◌else◌}
use Rattle.std.specs.Prelude.{◌↔◌}
use Rattle.std.proofs.lemmas.List.{append-nil}
use Rattle.std.specs.Str.Parse.{digits_value}
use Rattle.icap_chunks.specs.declared.fault.ChunkFault.{ChunkFault}
use Rattle.icap_chunks.specs.declared.extension.Item.{Item}
use Rattle.icap_chunks.specs.declared.extension.Item.TheVariants.{Blank}
use Rattle.icap_chunks.specs.declared.positions.Position.{Position}
use Rattle.icap_chunks.specs.declared.positions.Position.TheVariants.{Digits, Pad, Extension, LineCr, Data, DataEnd, DataCr, TrailerStart}
use Rattle.icap_chunks.specs.declared.positions.Position.TheVariants.{Trailer, TrailerCr, LastCr, Ended, Faulted}
use Rattle.icap_chunks.specs.declared.reader.ChunkReader.{ChunkReader}
use Rattle.adapt_bytes.specs.Text.{is_blank}
use Rattle.icap_chunks.specs.Grammar.{AllPass, SizeLine, print_line, has_ieof, IsSizeLine, Chunks}
use Rattle.icap_chunks.specs.Machine.{start, step, run, body_of, is_data, faulted_at, fault_of, end_at, data_behind}
use Rattle.icap_chunks.proofs.Standing.{Front, InDigits, InPad, InExtension, InLineEnd, InChunk, InTrailers, LeavesAt, extension_behind}
use Rattle.icap_chunks.specs.Faults.{Breaks}
use Rattle.icap_chunks.proofs.Runs.{run_data, body_of_data, behind_more, behind_all, run_faulted, body_of_faulted, at_place}
use Rattle.icap_chunks.proofs.Walks.{Walk, at, stay, on, to, of, finding, chunks_walk, digits_walk, first_blank, blanks_walk}
use Rattle.icap_chunks.proofs.Walks.{digits_extension, pad_extension, extends, extension_walk, line_walk, last_end, size_end, data_end}
use Rattle.icap_chunks.proofs.Walks.{trailers_walk, first_trailer, trailer_bytes, trailer_end, final_end, chunks_fit}
use Rattle.icap_chunks.proofs.Endings.{option_cases, some_none}
use Rattle.icap_chunks.proofs.Parts.{part_place, place_part}
use Rattle.icap_chunks.proofs.Leaves.{step_leaves, start_leaves}

-- ---- a text that stands somewhere leads there

-- where a part after whole chunks leads a reader, chunks and part together lead it from the start
front_walk : (text body part : List ℕ) (sum : ℕ) (f : Front text body part sum) (r : ChunkReader)
    → Walk (at (length body) (Digits 0 0)) part [] r → Walk start text body r
front_walk text body part sum f r w = finding (of (on (chunks_walk f.chunks) w) (sym f.text_is)) (append-nil body)

-- the same for a place whose sum is that of the chunks before it
place_walk : (text body part : List ℕ) (sum : ℕ) (f : Front text body part sum) (p : Position)
    → Walk (at (length body) (Digits 0 0)) part [] (at (length body) p) → Walk start text body (at sum p)
place_walk text body part sum f p w = to (front_walk text body part sum f (at (length body) p) w) (ap (λ n. at n p) (sym f.sum_is))

-- the digits of a size line lead a reader from the line's start to their count and their value
digits_only : (sum count size : ℕ) (ds : List ℕ) → Rattle.std.specs.Str.Parse.AllDigits 16 ds → count ≡ length ds
    → digits_value 16 ds ≡ size → count ≤ 256 → size < 4611686018427387904
    → Walk (at sum (Digits 0 0)) ds [] (at sum (Digits count size))
digits_only sum count size ds all count_is size_is short fits =
    let low : digits_value 16 ds < 4611686018427387904 = rw size_is fits in
    let same : 0 + length ds ≡ count = omega arith in
    to (digits_walk sum 0 0 ds all (omega arith) low) (ap (λ k. at sum (Digits k (digits_value 16 ds))) same
    ∙ ap (λ v. at sum (Digits count v)) size_is)

-- a text that stands in the digits of a size line leads a reader there
digits_stand : (text body : List ℕ) (sum count size : ℕ) → InDigits text body sum count size
    → Walk start text body (at sum (Digits count size))
digits_stand text body sum count size s = place_walk text body s.digits sum s.front (Digits count size)
    (digits_only (length body) count size s.digits s.all s.count_is s.size_is s.short s.fits)

-- digits and one or more blanks lead a reader from the start of a size line into the blanks
pad_part : (sum : ℕ) (digits pad : List ℕ) (size : ℕ) → Rattle.adapt_bytes.specs.Numeral.Writes 16 digits size → AllPass is_blank pad
    → 0 < length pad → length digits + length pad ≤ 256 → size < 4611686018427387904
    → Walk (at sum (Digits 0 0)) (digits ++ pad) [] (at sum (Pad (length digits + length pad) size))
pad_part sum digits [] size w all some short fits = absurd (omega arith)
pad_part sum digits (b ∷ pad) size w all some short fits =
    let pos = w.digits.0 in
    let same : (length digits + 1) + length pad ≡ length digits + suc (length pad) = omega arith in
    to (on (digits_only sum (length digits) size digits w.digits.1 refl w.value (omega arith) fits)
    (on (first_blank sum (length digits) size b pos (omega arith) all.0)
    (blanks_walk sum (length digits + 1) size pad all.1 (omega arith))))
    (ap (λ k. at sum (Pad k size)) same)

-- a text that stands in the blanks of a size line leads a reader there
pad_stand : (text body : List ℕ) (sum count size : ℕ) → InPad text body sum count size → Walk start text body (at sum (Pad count size))
pad_stand text body sum count size s = place_walk text body (s.digits ++ s.pad) sum s.front (Pad count size)
    (to (pad_part (length body) s.digits s.pad size s.writes s.blanks s.some (omega (arith, s.count_is, s.short)) s.fits)
    (ap (λ k. at (length body) (Pad k size)) (sym s.count_is)))

-- digits, blanks and a semicolon lead a reader to the start of an extension
extension_part : (sum : ℕ) (digits pad : List ℕ) (size : ℕ) → Rattle.adapt_bytes.specs.Numeral.Writes 16 digits size → AllPass is_blank pad
    → length digits + length pad < 256 → size < 4611686018427387904
    → Walk (at sum (Digits 0 0)) (digits ++ (pad ++ 59 ∷ [])) [] (extends sum (length digits + length pad + 1) size (Blank, false))
extension_part sum digits [] size w all short fits =
    let same : length digits + 1 ≡ length digits + 0 + 1 = omega arith in
    to (on (digits_only sum (length digits) size digits w.digits.1 refl w.value (omega arith) fits)
    (digits_extension sum (length digits) size w.digits.0 (omega arith)))
    (ap (λ k. extends sum k size (Blank, false)) same)
extension_part sum digits (b ∷ pad) size w all short fits =
    of (on (pad_part sum digits (b ∷ pad) size w all (omega arith) (omega arith) fits)
    (pad_extension sum (length digits + suc (length pad)) size short)) (append_assoc digits (b ∷ pad) (59 ∷ []))

-- a text that stands in an extension leads a reader there, with the item and what was found
extension_stand : (text body : List ℕ) (sum count size : ℕ) (item : Item) (found : Bool) → InExtension text body sum count size item found
    → Walk start text body (at sum (Extension count size item found))
extension_stand text body sum count size item found s =
    let n = length s.digits + length s.pad + 1 in
    let same : n + length s.extension ≡ count = omega (arith, s.count_is) in
    let first = extension_part (length body) s.digits s.pad size s.writes s.blanks (omega (arith, s.count_is, s.short)) s.fits in
    let walk = on first (extension_walk (length body) n size (Blank, false) s.extension s.all (omega (arith, s.short))) in
    let there : extends (length body) (n + length s.extension) size (extension_behind (Blank, false) s.extension)
    ≡ at (length body) (Extension count size item found)
    = ap (λ k. extends (length body) k size (extension_behind (Blank, false) s.extension)) same
    ∙ ap (λ x. extends (length body) count size x) s.behind in
    place_walk text body _ sum s.front (Extension count size item found) (of (to walk there) (simp append_assoc))

-- a text that stands after the CR of a size line leads a reader there
line_end_stand : (text body : List ℕ) (sum size : ℕ) (ieof : Bool) → InLineEnd text body sum size ieof
    → Walk start text body (at sum (LineCr size ieof))
line_end_stand text body sum size ieof s = place_walk text body (print_line s.l ++ 13 ∷ []) sum s.front (LineCr size ieof)
    (to (line_walk (length body) s.l size s.is) (ap (λ x. at (length body) (LineCr size x)) s.ieof_is))

-- some bytes of a run, at most all of them
some_data : (sum size : ℕ) (bytes : List ℕ) (s : ChunkReader) → 0 < size → length bytes ≤ size
    → data_behind sum (size - 1) (length bytes) ≡ s → Walk (at sum (Data (size - 1))) bytes bytes s
some_data sum size bytes s pos short is = record {
  reads = run_data sum (size - 1) bytes (omega arith) ∙ is;
  finds = body_of_data sum (size - 1) bytes (omega arith);
}

-- a text in the data of a chunk, or just after it, leads a reader where the bytes after that data lead it
chunk_part : (text body : List ℕ) (sum left : ℕ) (tail : List ℕ) (s : InChunk text body sum left tail) (p q : Position)
    → data_behind sum (s.size - 1) (length s.bytes) ≡ at sum p
    → Walk (at sum p) tail [] (at sum q) → Walk start text body (at sum q)
chunk_part text body sum left tail s p q is behind =
    let base = length s.done in
    let total = s.sum_is in
    let fits : base + s.size < 4611686018427387904 = omega (arith, s.sum_is, s.sum_fits) in
    let here : Walk (at (base + s.size) (Data (s.size - 1))) s.bytes s.bytes (at sum p)
    = let P : ℕ → Type 0 = λ n. Walk (at n (Data (s.size - 1))) s.bytes s.bytes (at sum p) in
    subst P total (some_data sum s.size s.bytes (at sum p) s.some (omega (arith, s.left_is)) is) in
    let line = of (on (line_walk base s.l s.size s.is) (on (size_end base s.size (has_ieof s.l.extension) s.some fits) (on here behind)))
    (append_assoc (print_line s.l) (13 ∷ []) (10 ∷ (s.bytes ++ tail))) in
    finding (of (on (chunks_walk s.front.chunks) line) (sym s.front.text_is)) (ap (λ x. s.done ++ x) (append-nil s.bytes) ∙ sym s.body_is)

-- a text that stands in the trailers leads a reader where the bytes after whole lines lead it
trailers_part : (text body : List ℕ) (sum count : ℕ) (ieof : Bool) (part : List ℕ) (s : InTrailers text body sum count ieof part)
    (q : Position)
    → Walk (at (length body) (TrailerStart (length s.trailers) ieof)) part [] (at (length body) q) → Walk start text body (at sum q)
trailers_part text body sum count ieof part s q behind =
    let n = length body in
    let start_is = ap (λ x. at n (TrailerStart (length s.trailers) x)) s.ieof_is in
    let lines = to (trailers_walk n (has_ieof s.l.extension) s.lines (omega (arith, s.count_is, s.short))) start_is in
    place_walk text body _ sum s.front q (of (on (line_walk n s.l 0 s.is)
    (on (last_end n (has_ieof s.l.extension) (chunks_fit s.front.chunks)) (on lines behind)))
    (append_assoc (print_line s.l) (13 ∷ []) (10 ∷ (s.trailers ++ part))))

-- the bytes of a trailer line, one or more
trailer_part : (sum count : ℕ) (ieof : Bool) (part : List ℕ) → 0 < length part → AllPass Rattle.icap_chunks.specs.Grammar.is_line_byte part
    → count + length part ≤ 8192
    → Walk (at sum (TrailerStart count ieof)) part [] (at sum (Trailer (count + length part) ieof))
trailer_part sum count ieof [] some all short = absurd (omega arith)
trailer_part sum count ieof (b ∷ part) some all short =
    let same : (count + 1) + length part ≡ count + suc (length part) = omega arith in
    to (on (first_trailer sum ieof count b (omega arith) all.0) (trailer_bytes sum ieof (count + 1) part all.1 (omega arith)))
    (ap (λ k. at sum (Trailer k ieof)) same)

-- a text that stands in a place that isn't the end leads there
pub leaves_walk : (text body : List ℕ) (sum : ℕ) (p : Position) → end_at p ≡ None → faulted_at p ≡ None → LeavesAt text body sum p
    → Walk start text body (at sum p)
unfolding end_at faulted_at
leaves_walk text body sum (Digits count size) e f s = digits_stand text body sum count size s
leaves_walk text body sum (Pad count size) e f s = pad_stand text body sum count size s
leaves_walk text body sum (Extension count size item found) e f s = extension_stand text body sum count size item found s
leaves_walk text body sum (LineCr size ieof) e f s = line_end_stand text body sum size ieof s
leaves_walk text body sum (Data more) e f s =
    let left : (s.size - 1) - length s.bytes ≡ more = omega (arith, s.left_is) in
    chunk_part text body sum (more + 1) [] s (Data more) (Data more)
    (behind_more sum (s.size - 1) (length s.bytes) (omega (arith, s.left_is)) ∙ ap (λ k. at sum (Data k)) left) (stay _)
leaves_walk text body sum DataEnd e f s = chunk_part text body sum 0 [] s DataEnd DataEnd
    (behind_all sum (s.size - 1) (length s.bytes) (omega (arith, s.left_is, s.some))) (stay _)
leaves_walk text body sum DataCr e f s = chunk_part text body sum 0 (13 ∷ []) s DataEnd DataCr
    (behind_all sum (s.size - 1) (length s.bytes) (omega (arith, s.left_is, s.some))) (data_end sum)
leaves_walk text body sum (TrailerStart count ieof) e f s =
    let same : length s.trailers ≡ count = omega (arith, s.count_is) in
    trailers_part text body sum count ieof [] s (TrailerStart count ieof)
    (to (stay _) (ap (λ k. at (length body) (TrailerStart k ieof)) same))
leaves_walk text body sum (Trailer count ieof) e f s =
    trailers_part text body sum count ieof s.0 s.1 (Trailer count ieof)
    (to (trailer_part (length body) (length s.1.trailers) ieof s.0 s.2 s.3 (omega (arith, s.1.count_is, s.1.short)))
    (ap (λ k. at (length body) (Trailer k ieof)) (sym s.1.count_is)))
leaves_walk text body sum (TrailerCr count ieof) e f s =
    let len = length-append s.0 (13 ∷ []) in
    let same : length s.1.trailers + length s.0 + 1 ≡ count = omega (arith, s.1.count_is) in
    trailers_part text body sum count ieof (s.0 ++ 13 ∷ []) s.1 (TrailerCr count ieof)
    (to (on (trailer_part (length body) (length s.1.trailers) ieof s.0 s.2 s.3 (omega (arith, s.1.count_is, s.1.short)))
    (trailer_end (length body) ieof (length s.1.trailers + length s.0) (omega (arith, s.1.short))))
    (ap (λ k. at (length body) (TrailerCr k ieof)) same))
leaves_walk text body sum (LastCr count ieof) e f s =
    let same : length s.trailers + 1 ≡ count = omega (arith, s.count_is) in
    trailers_part text body sum count ieof (13 ∷ []) s (LastCr count ieof)
    (to (final_end (length body) ieof (length s.trailers) (omega (arith, s.count_is, s.short)))
    (ap (λ k. at (length body) (LastCr k ieof)) same))
leaves_walk text body sum (Ended ieof) e f s = absurd (some_none e)
leaves_walk text body sum (Faulted fault) e f s = absurd (some_none f)

-- ---- faults

-- a place that has a fault is the place of that fault
pub fault_is : (p : Position) (fault : ChunkFault) → faulted_at p ≡ Some fault → p ≡ Faulted fault
unfolding faulted_at
fault_is p fault e = grind (arith)

-- nothing is not something
pub none_some : {A : Type 0} {x : A} → None ≡ Some x → ⊥
none_some e = cc

-- a reader at a fault stays as it is, and finds no byte of the body any more
pub fault_stays : (r : ChunkReader) (fault : ChunkFault) (bytes : List ℕ) → fault_of r ≡ Some fault
    → (run r bytes ≡ r) × (body_of r bytes ≡ [])
fault_stays r fault bytes e =
    let is = at_place r (Faulted fault) (fault_is r.place fault e) in
    (ap (λ x. run x bytes) is ∙ run_faulted r.sum fault bytes ∙ sym is, ap (λ x. body_of x bytes) is ∙ body_of_faulted r.sum fault bytes)

-- in the data of a chunk, or just after it, there is no fault
data_place : (t : Bool) (n : ℕ) (fault : ChunkFault) → faulted_at (if t then Data n else DataEnd) ≡ Some fault → ⊥
unfolding faulted_at
data_place true n fault e = none_some e
data_place false n fault e = none_some e

-- a byte of the body, and one after the end, breaks nothing
no_body_breaks : (sum : ℕ) (p : Position) (b : ℕ) (fault : ChunkFault) → fault_of (step (at sum p) b) ≡ Some fault → faulted_at p ≡ None
    → (is_data p ≡ false) × (end_at p ≡ None)
unfolding step Rattle.icap_chunks.specs.Machine.in_data is_data end_at faulted_at
no_body_breaks sum p b fault e none = grind (arith)

-- what breaks the grammar is answered
pub breaks_fault : (text body : List ℕ) (fault : ChunkFault) → Breaks text body fault
    → (fault_of (run start text) ≡ Some fault) × (body_of start text ≡ body)
breaks_fault text body fault x =
    let p = part_place x.good body x.part x.ends in
    let r = at p.sum p.place in
    let breaks : fault_of (step r x.byte) ≡ Some fault = p.same x.byte ∙ x.breaks in
    let here = no_body_breaks p.sum p.place x.byte fault breaks p.sound in
    let w = leaves_walk x.good body p.sum p.place here.1 p.sound p.stands in
    let stays = fault_stays (step r x.byte) fault x.rest breaks in
    let none : body_of r (x.byte ∷ x.rest) ≡ [] = rw here.0 stays.1 in
    let last : Walk r (x.byte ∷ x.rest) [] (step r x.byte) = record { reads = stays.0; finds = none } in
    let all = finding (of (on w last) (sym x.text_is)) (append-nil body) in
    (ap fault_of all.reads ∙ breaks, all.finds)

-- and what is answered breaks it
fault_from : (front body : List ℕ) (r : ChunkReader) (text : List ℕ) (fault : ChunkFault) → LeavesAt front body r.sum r.place
    → fault_of r ≡ None → fault_of (run r text) ≡ Some fault
    → Breaks (front ++ text) (body ++ body_of r text) fault
fault_from front body r [] fault s sound e = absurd (none_some (sym sound ∙ e))
fault_from front body r (b ∷ text) fault s sound e = option_cases (fault_of (step r b)) _ now
    (λ none. finish (fault_from (front ++ b ∷ []) (body ++ (if is_data r.place then b ∷ [] else [])) (step r b) text fault
    (step_leaves front body b r.sum r.place s) none e))
  where
    now : (x : ChunkFault) → fault_of (step r b) ≡ Some x → Breaks (front ++ b ∷ text) (body ++ body_of r (b ∷ text)) fault
    now x here =
        let stays = fault_stays (step r b) x text here in
        let is : Some x ≡ Some fault = sym here ∙ ap fault_of (sym stays.0) ∙ e in
        let quiet = no_body_breaks r.sum r.place b x here sound in
        let none : body_of r (b ∷ text) ≡ [] = rw quiet.0 stays.1 in
        let P : List ℕ → Type 0 = λ y. Breaks (front ++ b ∷ text) y fault in
        let p = place_part front body r.sum r.place s quiet.1 sound in
        subst P (sym (ap (λ y. body ++ y) none ∙ append-nil body))
        (record { good = front; byte = b; rest = text; part = p.part; ends = p.ends; breaks = sym (p.same b) ∙ here ∙ is; text_is = refl })

    finish : Breaks ((front ++ b ∷ []) ++ text) ((body ++ (if is_data r.place then b ∷ [] else [])) ++ body_of (step r b) text) fault
        → Breaks (front ++ b ∷ text) (body ++ body_of r (b ∷ text)) fault
    finish x =
        let d = if is_data r.place then b ∷ [] else [] in
        let P : List ℕ → Type 0 = λ t. Breaks t ((body ++ d) ++ body_of (step r b) text) fault in
        let Q : List ℕ → Type 0 = λ y. Breaks (front ++ b ∷ text) y fault in
        subst Q (append_assoc body d (body_of (step r b) text)) (subst P (append_assoc front (b ∷ []) text) x)

-- before its first byte, a reader has no fault
start_sound : fault_of start ≡ None
unfolding faulted_at
start_sound = refl

-- A reader answers a fault just where the grammar is broken so.
abbrev pub AnswersFaults : Type 0
AnswersFaults = (text body : List ℕ) (fault : ChunkFault)
    → ((fault_of (run start text) ≡ Some fault) × (body_of start text ≡ body)) ↔ Breaks text body fault

-- a reader answers a fault, with these bytes found, just where the text breaks the grammar so
pub answers_faults : AnswersFaults
answers_faults text body fault = (
  λ e. let P : List ℕ → Type 0 = λ x. Breaks text x fault in subst P e.1 (fault_from [] [] start text fault start_leaves start_sound e.0),
  breaks_fault text body fault,
)
