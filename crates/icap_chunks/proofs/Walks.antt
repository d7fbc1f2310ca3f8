-- What a reader makes of each part of a body that the grammar has.
use Rattle.std.proofs.Common.{◌≡◌, ℕ, suc, ◌+◌, ◌-◌, ◌*◌, ◌<◌, ◌≤◌, Bool, true, false, true≢false, ◌||◌, List, [], ◌∷◌, ◌++◌, length}
use Rattle.std.proofs.Common.{Option, Some, None, refl, sym, ap, ◌∙◌, arith, append_assoc, nat_lt, nat_le, if◌then◌else◌, ◌==◌}
use Rattle.std.proofs.Common.{length-append, map, inl, inr, zero-add, add-zero, lit<}
use Rattle.std.proofs.lemmas.List.{append-nil}
use Rattle.std.proofs.lemmas.Bool.{cases_lt}
use Rattle.std.proofs.lemmas.Bool.Decides.{nat_tests}
use Rattle.std.specs.Int.Digits.{number_from_digits_after}
use Rattle.std.proofs.lemmas.Int.Digits.{number_after_ge}
use Rattle.std.specs.Char.{digit_value}
use Rattle.std.specs.Str.Parse.{AllDigits, digits_value_after, digits_value}
use Rattle.icap_chunks.specs.declared.extension.Item.{Item}
use Rattle.icap_chunks.specs.declared.extension.Item.TheVariants.{Blank}
use Rattle.icap_chunks.specs.declared.positions.Position.{Position}
use Rattle.icap_chunks.specs.declared.positions.Position.TheVariants.{Digits, Pad, Extension, LineCr, Data, DataEnd, DataCr, TrailerStart}
use Rattle.icap_chunks.specs.declared.positions.Position.TheVariants.{Trailer, TrailerCr, LastCr, Ended}
use Rattle.icap_chunks.specs.declared.reader.ChunkReader.{ChunkReader}
use Rattle.adapt_bytes.specs.Text.{is_blank}
use Rattle.icap_chunks.specs.Grammar.{crlf, is_line_byte, AllPass, SizeLine, print_line, print_extension, IsExtension, has_ieof, IsSizeLine}
use Rattle.icap_chunks.specs.Grammar.{Chunks, no_chunk, chunk, TrailerLines, no_line, line, IsChunked}
use Rattle.icap_chunks.specs.Machine.{start, step, run, body_of, is_data, item_with, in_digits, in_pad, in_extension, in_line_cr}
use Rattle.icap_chunks.specs.Machine.{in_data_end, in_data_cr, in_trailer_start, in_trailer, in_trailer_cr, in_last_cr, data_behind}
use Rattle.icap_chunks.specs.Machine as machine
use Rattle.icap_chunks.proofs.Runs.{run-append, body_of-append, run_data, body_of_data, behind_all}
use Rattle.icap_chunks.proofs.Standing.{extension_with, extension_behind}
use Rattle.icap_chunks.proofs.Words.{answer, extension_found}

-- the value of digits after a number is that of the numbers for which they stand
after_is : (base n : ℕ) (cs : List ℕ) → digits_value_after base n cs ≡ number_from_digits_after base n (map digit_value cs)
after_is base n [] = refl
after_is base n (c ∷ cs) = after_is base (n * base + digit_value c) cs

-- a number with more digits after it is at least what it was
pub after_ge : (base n : ℕ) (cs : List ℕ) → 0 < base → n ≤ digits_value_after base n cs
after_ge base n cs pos = let e = after_is base n cs in let g = number_after_ge base n (map digit_value cs) pos in omega arith

-- from r the bytes lead to s, and have this body
pub record Walk (r : ChunkReader) (bytes body : List ℕ) (s : ChunkReader) : Type 0 where
  pub reads : run r bytes ≡ s
  pub finds : body_of r bytes ≡ body

-- a reader that gets no byte stays where it is and finds none of the body
pub stay : (r : ChunkReader) → Walk r [] [] r
stay r = record { reads = refl; finds = refl }

-- bytes that lead to a reader, and others that lead on from it, lead where the others do, with both bodies
pub on : {r s t : ChunkReader} {xs ys a b : List ℕ} → Walk r xs a s → Walk s ys b t → Walk r (xs ++ ys) (a ++ b) t
on {r} {s} {t} {xs} {ys} {a} {b} p q = record {
  reads = run-append r xs ys ∙ ap (λ x. run x ys) p.reads ∙ q.reads;
  finds = body_of-append r xs ys ∙ ap (λ x. body_of r xs ++ body_of x ys) p.reads ∙ rw p.finds (ap (λ x. a ++ x) q.finds);
}

-- one byte of framing
pub byte : (r : ChunkReader) (b : ℕ) (s : ChunkReader) → is_data r.place ≡ false → step r b ≡ s → Walk r (b ∷ []) [] s
byte r b s none is = record { reads = is; finds = rw none refl }

abbrev pub at : ℕ → Position → ChunkReader
at sum place = record { sum = sum; place = place }

-- ---- tests

-- different numbers fail the test for equal
pub ne : (m n : ℕ) → (m ≡ n → ⊥) → (m == n) ≡ false
ne m n h = grind (arith, nat_tests)

-- a number less than another passes the test for less
pub lt : (m n : ℕ) → m < n → nat_lt m n ≡ true
lt m n h = grind (arith, nat_tests)

-- a greater number fails the test for at most
pub nle : (m n : ℕ) → n < m → nat_le m n ≡ false
nle m n h = grind (arith, nat_tests)

-- where two tests fail, none of the two holds
pub neither : {a b : Bool} → a ≡ false → b ≡ false → (a || b) ≡ false
neither {a} {b} p q = rw (p, q) refl

-- a byte below the digits has the value of no digit
below_digits : (b : ℕ) → b < 48 → digit_value b ≡ 36
below_digits b l = rw (lt b 48 l) refl

-- a hexadecimal digit is none of the bytes below the digits
pub digit_not : (b c : ℕ) → c < 48 → digit_value b < 16 → b ≡ c → ⊥
digit_not b c l low e = omega (arith, below_digits c l, ap digit_value e)

-- ---- bytes of a size line

-- a byte that isn't LF doesn't break a size line of fewer than 256 bytes
room_left : (b count : ℕ) → (b ≡ 10 → ⊥) → count < 256 → ((b == 10) || nat_le 256 count) ≡ false
room_left b count h l = neither (ne b 10 h) (nle 256 count l)

-- one more digit leads on in the digits, where the line has room and the size fits
pub digit : (sum count size b : ℕ) → count < 256 → digit_value b < 16 → size * 16 + digit_value b < 4611686018427387904
    → Walk (at sum (Digits count size)) (b ∷ []) [] (at sum (Digits (count + 1) (size * 16 + digit_value b)))
unfolding is_data step in_digits
digit sum count size b short low fits = byte _ b _ refl
    (rw (
      ne b 13 (digit_not b 13 (omega arith) low),
      room_left b count (digit_not b 10 (omega arith) low) short,
      lt (digit_value b) 16 low,
      lt (size * 16 + digit_value b) 4611686018427387904 fits,
    ) refl)

-- bytes that lead to a reader lead to any that is the same
pub to : {r s t : ChunkReader} {xs a : List ℕ} → Walk r xs a s → s ≡ t → Walk r xs a t
to w e = record { reads = w.reads ∙ e; finds = w.finds }

-- the same bytes, however they are put together, lead to the same reader
pub of : {r s : ChunkReader} {xs ys a : List ℕ} → Walk r xs a s → xs ≡ ys → Walk r ys a s
of {r} {s} {xs} {ys} {a} w e = record { reads = ap (run r) (sym e) ∙ w.reads; finds = ap (body_of r) (sym e) ∙ w.finds }

-- the body that bytes have may be put together in another way
pub finding : {r s : ChunkReader} {xs a b : List ℕ} → Walk r xs a s → a ≡ b → Walk r xs b s
finding w e = record { reads = w.reads; finds = w.finds ∙ e }

-- digits lead on in the digits to their count and their value, where both fit
pub digits_walk : (sum count size : ℕ) (ds : List ℕ) → AllDigits 16 ds → count + length ds ≤ 256
    → digits_value_after 16 size ds < 4611686018427387904
    → Walk (at sum (Digits count size)) ds [] (at sum (Digits (count + length ds) (digits_value_after 16 size ds)))
digits_walk sum count size [] all short fits = to (stay _) (let same : count ≡ count + 0 = omega arith in
    ap (λ k. at sum (Digits k size)) same)
digits_walk sum count size (d ∷ ds) all short fits =
    let grows = after_ge 16 (size * 16 + digit_value d) ds (omega arith) in
    let same : (count + 1) + length ds ≡ count + suc (length ds) = omega arith in
    to (on (digit sum count size d (omega arith) all.0 (omega arith)) (digits_walk sum (count + 1) (size * 16 + digit_value d) ds all.1
    (omega arith) fits))
    (ap (λ k. at sum (Digits k (digits_value_after 16 (size * 16 + digit_value d) ds))) same)

-- a blank is none of the bytes that are no blanks
blank_not : (b c : ℕ) → is_blank c ≡ false → is_blank b ≡ true → b ≡ c → ⊥
blank_not b c no_blank pass e = let f : true ≡ false = sym pass ∙ ap is_blank e ∙ no_blank in absurd (cc)

-- a blank has the value of no digit
blank_small : (b : ℕ) → is_blank b ≡ true → digit_value b ≡ 36
blank_small b pass = elim (cases_lt b 48) [
  | inl low ↦ below_digits b low
  | inr high ↦ absurd (no_high b high pass)
]
  where
    no_high : (b : ℕ) → 48 ≤ b → is_blank b ≡ true → ⊥
    no_high b high pass = let f : is_blank b ≡ false = neither (ne b 32 (λ e. omega arith)) (ne b 9 (λ e. omega arith)) in
        absurd (true≢false (sym pass ∙ f))

-- a blank after one or more digits leads into the blanks, where the line has room
pub first_blank : (sum count size b : ℕ) → 0 < count → count < 256 → is_blank b ≡ true
    → Walk (at sum (Digits count size)) (b ∷ []) [] (at sum (Pad (count + 1) size))
unfolding is_data step in_digits
first_blank sum count size b pos short pass = byte _ b _ refl
    (rw (
      ne b 13 (blank_not b 13 refl pass),
      room_left b count (blank_not b 10 refl pass) short,
      blank_small b pass,
      ne count 0 (λ e. omega arith),
      pass,
    ) refl)

-- one more blank leads on in the blanks, where the line has room
pub next_blank : (sum count size b : ℕ) → count < 256 → is_blank b ≡ true
    → Walk (at sum (Pad count size)) (b ∷ []) [] (at sum (Pad (count + 1) size))
unfolding is_data step in_pad
next_blank sum count size b short pass = byte _ b _ refl
    (rw (ne b 13 (blank_not b 13 refl pass), room_left b count (blank_not b 10 refl pass) short, pass) refl)

-- any more blanks lead on in the blanks, where the line has room for them all
pub blanks_walk : (sum count size : ℕ) (pad : List ℕ) → AllPass is_blank pad → count + length pad ≤ 256
    → Walk (at sum (Pad count size)) pad [] (at sum (Pad (count + length pad) size))
blanks_walk sum count size [] all short = to (stay _) (let same : count ≡ count + 0 = omega arith in ap (λ k. at sum (Pad k size)) same)
blanks_walk sum count size (b ∷ pad) all short =
    let same : (count + 1) + length pad ≡ count + suc (length pad) = omega arith in
    to (on (next_blank sum count size b (omega arith) all.0) (blanks_walk sum (count + 1) size pad all.1 (omega arith)))
    (ap (λ k. at sum (Pad k size)) same)

-- a byte of a line is none of those that may not stand in one
line_byte_not : (b c : ℕ) → is_line_byte c ≡ false → is_line_byte b ≡ true → b ≡ c → ⊥
line_byte_not b c no_byte pass e = let f : true ≡ false = sym pass ∙ ap is_line_byte e ∙ no_byte in absurd (cc)

-- where an extension stands
abbrev pub extends : ℕ → ℕ → ℕ → Item × Bool → ChunkReader
extends sum count size s = at sum (Extension count size s.0 s.1)

-- a byte of an extension leads on in it, and adds to what the reader keeps, where the line has room
pub extension_byte : (sum count size : ℕ) (s : Item × Bool) (b : ℕ) → count < 256 → is_line_byte b ≡ true
    → Walk (extends sum count size s) (b ∷ []) [] (extends sum (count + 1) size (extension_with s b))
unfolding is_data step in_extension
extension_byte sum count size s b short pass = byte _ b _ refl
    (rw (ne b 13 (line_byte_not b 13 refl pass), room_left b count (line_byte_not b 10 refl pass) short) (by_byte (b == 59)))
  where
    by_byte : (t : Bool) → at sum (if t then Extension (count + 1) size Blank (s.1 || machine.is_word s.0) else Extension (count + 1) size
        (item_with s.0 b) s.1)
        ≡ extends sum (count + 1) size (if t then (Blank, s.1 || machine.is_word s.0) else (item_with s.0 b, s.1))
    by_byte true = refl
    by_byte false = refl

-- all bytes of an extension lead on in it, where the line has room for them
pub extension_walk : (sum count size : ℕ) (s : Item × Bool) (text : List ℕ) → AllPass is_line_byte text → count + length text ≤ 256
    → Walk (extends sum count size s) text [] (extends sum (count + length text) size (extension_behind s text))
extension_walk sum count size s [] all short = to (stay _) (let same : count ≡ count + 0 = omega arith in
    ap (λ k. extends sum k size s) same)
extension_walk sum count size s (b ∷ text) all short =
    let same : (count + 1) + length text ≡ count + suc (length text) = omega arith in
    to (on (extension_byte sum count size s b (omega arith) all.0) (extension_walk sum (count + 1) size (extension_with s b) text all.1
    (omega arith)))
    (ap (λ k. extends sum k size (extension_behind (extension_with s b) text)) same)

-- a CR ends an extension, and leaves the answer whether it has `ieof`
pub extension_end : (sum count size : ℕ) (s : Item × Bool) → Walk (extends sum count size s) (13 ∷ []) [] (at sum (LineCr size (answer s)))
unfolding is_data step in_extension
extension_end sum count size s = byte _ 13 _ refl refl

-- a CR after the blanks ends a size line without `ieof`
pub pad_end : (sum count size : ℕ) → Walk (at sum (Pad count size)) (13 ∷ []) [] (at sum (LineCr size false))
unfolding is_data step in_pad
pad_end sum count size = byte _ 13 _ refl refl

-- a semicolon after the blanks leads into an extension, where the line has room
pub pad_extension : (sum count size : ℕ) → count < 256
    → Walk (at sum (Pad count size)) (59 ∷ []) [] (extends sum (count + 1) size (Blank, false))
unfolding is_data step in_pad
pad_extension sum count size short = byte _ 59 _ refl (rw (nle 256 count short) refl)

-- a CR after one or more digits ends a size line without `ieof`
pub digits_end : (sum count size : ℕ) → 0 < count → Walk (at sum (Digits count size)) (13 ∷ []) [] (at sum (LineCr size false))
unfolding is_data step in_digits
digits_end sum count size pos = byte _ 13 _ refl (rw (ne count 0 (λ e. omega arith)) refl)

-- a semicolon after one or more digits leads into an extension, where the line has room
pub digits_extension : (sum count size : ℕ) → 0 < count → count < 256
    → Walk (at sum (Digits count size)) (59 ∷ []) [] (extends sum (count + 1) size (Blank, false))
unfolding is_data step in_digits
digits_extension sum count size pos short = byte _ 59 _ refl (rw (nle 256 count short, ne count 0 (λ e. omega arith)) refl)

-- what may stand after the digits and the blanks, up to the CR
pub behind_blanks : (sum count size : ℕ) (r : ChunkReader) (ends : Walk r (13 ∷ []) [] (at sum (LineCr size false)))
    (goes : count < 256 → Walk r (59 ∷ []) [] (extends sum (count + 1) size (Blank, false))) (e : Option (List ℕ)) → IsExtension e
    → count + length (print_extension e) ≤ 256 → Walk r (print_extension e ++ 13 ∷ []) [] (at sum (LineCr size (has_ieof e)))
behind_blanks sum count size r ends goes None all short = ends
behind_blanks sum count size r ends goes (Some text) all short =
    to (on (goes (omega arith)) (on (extension_walk sum (count + 1) size (Blank, false) text all (omega arith))
    (extension_end sum (count + 1 + length text) size (extension_behind (Blank, false) text))))
    (ap (λ x. at sum (LineCr size x)) (extension_found text))

-- blanks, an extension and CR after the digits lead to the line's end, with its `ieof`, where the line has room
behind_digits : (sum count size : ℕ) (pad : List ℕ) (e : Option (List ℕ)) → 0 < count → AllPass is_blank pad → IsExtension e
    → count + (length pad + length (print_extension e)) ≤ 256
    → Walk (at sum (Digits count size)) (pad ++ (print_extension e ++ 13 ∷ [])) [] (at sum (LineCr size (has_ieof e)))
behind_digits sum count size [] e pos blanks all short =
    behind_blanks sum count size _ (digits_end sum count size pos) (digits_extension sum count size pos) e all (omega arith)
behind_digits sum count size (b ∷ pad) e pos blanks all short =
    on (first_blank sum count size b pos (omega arith) blanks.0) (on (blanks_walk sum (count + 1) size pad blanks.1 (omega arith))
    (behind_blanks sum (count + 1 + length pad) size _ (pad_end sum _ size) (pad_extension sum (count + 1 + length pad) size) e all
    (omega arith)))

-- a size line, up to its CR
pub line_walk : (sum : ℕ) (l : SizeLine) (size : ℕ) → IsSizeLine l size
    → Walk (at sum (Digits 0 0)) (print_line l ++ 13 ∷ []) [] (at sum (LineCr size (has_ieof l.extension)))
line_walk sum l size is =
    let len = length-append l.digits (l.pad ++ print_extension l.extension) in
    let tail = length-append l.pad (print_extension l.extension) in
    let short = is.short in
    let value = is.digits.value in
    let low : digits_value_after 16 0 l.digits < 4611686018427387904 = rw value is.fits in
    let first = digits_walk sum 0 0 l.digits is.digits.digits.1 (omega arith) low in
    let same : at sum (Digits (0 + length l.digits) (digits_value_after 16 0 l.digits)) ≡ at sum (Digits (length l.digits) size)
    = ap (λ k. at sum (Digits k (digits_value 16 l.digits))) (zero-add (length l.digits))
    ∙ ap (λ v. at sum (Digits (length l.digits) v)) value in
    of (on (to first same) (behind_digits sum (length l.digits) size l.pad l.extension is.digits.digits.0 is.pad is.extension
    (omega arith)))
    (simp append_assoc)

-- ---- after a size line

-- an LF after a size line of one or more bytes leads into the data, with the size in the sum, where that fits
pub size_end : (sum size : ℕ) (ieof : Bool) → 0 < size → sum + size < 4611686018427387904
    → Walk (at sum (LineCr size ieof)) (10 ∷ []) [] (at (sum + size) (Data (size - 1)))
unfolding is_data step in_line_cr
size_end sum size ieof pos fits = byte _ 10 _ refl (rw (lt (sum + size) 4611686018427387904 fits, ne size 0 (λ e. omega arith)) refl)

-- an LF after a size line whose size is zero leads to the start of the trailers, where the sum fits
pub last_end : (sum : ℕ) (ieof : Bool) → sum < 4611686018427387904
    → Walk (at sum (LineCr 0 ieof)) (10 ∷ []) [] (at sum (TrailerStart 0 ieof))
unfolding is_data step in_line_cr
last_end sum ieof fits = byte _ 10 _ refl (rw (add-zero sum, lt sum 4611686018427387904 fits) refl)

-- all data of a chunk leads just after it, and is all of the body
pub data_walk : (sum : ℕ) (bytes : List ℕ) → 0 < length bytes → Walk (at sum (Data (length bytes - 1))) bytes bytes (at sum DataEnd)
data_walk sum bytes pos = record {
  reads = run_data sum (length bytes - 1) bytes (omega arith) ∙ behind_all sum (length bytes - 1) (length bytes) (omega arith);
  finds = body_of_data sum (length bytes - 1) bytes (omega arith);
}

-- a CR after the data of a chunk leads to the place after that CR
pub data_end : (sum : ℕ) → Walk (at sum DataEnd) (13 ∷ []) [] (at sum DataCr)
unfolding is_data step in_data_end
data_end sum = byte _ 13 _ refl refl

-- an LF after the data of a chunk and CR leads to the start of a size line
pub data_cr : (sum : ℕ) → Walk (at sum DataCr) (10 ∷ []) [] (at sum (Digits 0 0))
unfolding is_data step in_data_cr
data_cr sum = byte _ 10 _ refl refl

-- a whole chunk, whose sum fits, leads from the start of a size line to the next, with its bytes in body and sum
pub chunk_walk : (sum : ℕ) (l : SizeLine) (bytes : List ℕ) → IsSizeLine l (length bytes) → 0 < length bytes
    → sum + length bytes < 4611686018427387904
    → Walk (at sum (Digits 0 0)) (print_line l ++ (13 ∷ 10 ∷ (bytes ++ crlf))) bytes (at (sum + length bytes) (Digits 0 0))
chunk_walk sum l bytes is pos fits =
    let found = on (line_walk sum l (length bytes) is) (on (size_end sum (length bytes) (has_ieof l.extension) pos fits)
    (on (data_walk (sum + length bytes) bytes pos)
    (on (data_end (sum + length bytes)) (data_cr (sum + length bytes))))) in
    finding (of found (append_assoc (print_line l) (13 ∷ []) (10 ∷ (bytes ++ crlf)))) (append-nil bytes)

-- whole chunks
pub chunks_walk : {text body : List ℕ} → Chunks text body → Walk start text body (at (length body) (Digits 0 0))
chunks_walk no_chunk = stay _
chunks_walk (chunk {text} {body} c l bytes is pos fits) =
    to (on (chunks_walk c) (chunk_walk (length body) l bytes is pos fits)) (ap (λ k. at k (Digits 0 0)) (sym (length-append body bytes)))

-- the body of whole chunks stays below the bound on the sum
pub chunks_fit : {text body : List ℕ} → Chunks text body → length body < 4611686018427387904
chunks_fit no_chunk = lit< tt
chunks_fit (chunk {text} {body} c l bytes is pos fits) = omega (arith, length-append body bytes)

-- ---- trailers

module _ (sum : ℕ) (ieof : Bool) where
  -- a byte that isn't LF doesn't break trailers of fewer than 8,192 bytes
  trailer_room : (b count : ℕ) → (b ≡ 10 → ⊥) → count < 8192 → ((b == 10) || nat_le 8192 count) ≡ false
  trailer_room b count h l = neither (ne b 10 h) (nle 8192 count l)

  -- the first byte of a trailer line leads into it, where the trailers have room
  pub first_trailer : (count b : ℕ) → count < 8192 → is_line_byte b ≡ true
      → Walk (at sum (TrailerStart count ieof)) (b ∷ []) [] (at sum (Trailer (count + 1) ieof))
  unfolding is_data step in_trailer_start
  first_trailer count b short pass = byte _ b _ refl (rw (
    trailer_room b count (line_byte_not b 10 refl pass) short,
    ne b 13 (line_byte_not b 13 refl pass),
  ) refl)

  -- one more byte of a trailer line leads on in it, where the trailers have room
  pub next_trailer : (count b : ℕ) → count < 8192 → is_line_byte b ≡ true
      → Walk (at sum (Trailer count ieof)) (b ∷ []) [] (at sum (Trailer (count + 1) ieof))
  unfolding is_data step in_trailer
  next_trailer count b short pass = byte _ b _ refl (rw (
    trailer_room b count (line_byte_not b 10 refl pass) short,
    ne b 13 (line_byte_not b 13 refl pass),
  ) refl)

  -- any more bytes of a trailer line lead on in it, where the trailers have room for them all
  pub trailer_bytes : (count : ℕ) (bytes : List ℕ) → AllPass is_line_byte bytes → count + length bytes ≤ 8192
      → Walk (at sum (Trailer count ieof)) bytes [] (at sum (Trailer (count + length bytes) ieof))
  trailer_bytes count [] all short = to (stay _) (let same : count ≡ count + 0 = omega arith in ap (λ k. at sum (Trailer k ieof)) same)
  trailer_bytes count (b ∷ bytes) all short =
      let same : (count + 1) + length bytes ≡ count + suc (length bytes) = omega arith in
      to (on (next_trailer count b (omega arith) all.0) (trailer_bytes (count + 1) bytes all.1 (omega arith)))
      (ap (λ k. at sum (Trailer k ieof)) same)

  -- a CR after the bytes of a trailer line leads to the place after it, where the trailers have room
  pub trailer_end : (count : ℕ) → count < 8192 → Walk (at sum (Trailer count ieof)) (13 ∷ []) [] (at sum (TrailerCr (count + 1) ieof))
  unfolding is_data step in_trailer
  trailer_end count short = byte _ 13 _ refl (rw (nle 8192 count short) refl)

  -- an LF after a trailer line and CR leads to the start of the next one, where the trailers have room
  pub trailer_cr : (count : ℕ) → count < 8192 → Walk (at sum (TrailerCr count ieof)) (10 ∷ []) [] (at sum (TrailerStart (count + 1) ieof))
  unfolding is_data step in_trailer_cr
  trailer_cr count short = byte _ 10 _ refl (rw (lt count 8192 short) refl)

  -- a whole trailer line with CR LF leads from its start to that of the next one, where the trailers have room
  pub trailer_walk : (count : ℕ) (bytes : List ℕ) → 0 < length bytes → AllPass is_line_byte bytes → count + length bytes + 2 ≤ 8192
      → Walk (at sum (TrailerStart count ieof)) (bytes ++ crlf) [] (at sum (TrailerStart (count + length bytes + 2) ieof))
  trailer_walk count [] pos all short = absurd (omega arith)
  trailer_walk count (b ∷ bytes) pos all short =
      let same : (count + 1) + length bytes + 1 + 1 ≡ count + suc (length bytes) + 2 = omega arith in
      to (on (first_trailer count b (omega arith) all.0) (on (trailer_bytes (count + 1) bytes all.1 (omega arith))
      (on (trailer_end (count + 1 + length bytes) (omega arith)) (trailer_cr (count + 1 + length bytes + 1) (omega arith)))))
      (ap (λ k. at sum (TrailerStart k ieof)) same)

  -- whole trailer lines of at most 8,192 bytes lead from the first one's start to the start of a line after them
  pub trailers_walk : {text : List ℕ} → TrailerLines text → length text ≤ 8192
      → Walk (at sum (TrailerStart 0 ieof)) text [] (at sum (TrailerStart (length text) ieof))
  trailers_walk no_line short = stay _
  trailers_walk (line {text} t bytes pos all) short =
      let len = length-append text (bytes ++ crlf) in
      let len2 = length-append bytes crlf in
      let same : length text + length bytes + 2 ≡ length (text ++ (bytes ++ crlf)) = omega arith in
      to (on (trailers_walk t (omega arith)) (trailer_walk (length text) bytes pos all (omega arith)))
      (ap (λ k. at sum (TrailerStart k ieof)) same)

  -- a CR at the start of a trailer line leads to the place after the last CR, where the trailers have room
  pub final_end : (count : ℕ) → count < 8192 → Walk (at sum (TrailerStart count ieof)) (13 ∷ []) [] (at sum (LastCr (count + 1) ieof))
  unfolding is_data step in_trailer_start
  final_end count short = byte _ 13 _ refl (rw (nle 8192 count short) refl)

  -- an LF after the last CR ends the body, where the trailers have room
  pub final_feed : (count : ℕ) → count < 8192 → Walk (at sum (LastCr count ieof)) (10 ∷ []) [] (at sum (Ended ieof))
  unfolding is_data step in_last_cr
  final_feed count short = byte _ 10 _ refl (rw (lt count 8192 short) refl)

-- a body but for its last byte
abbrev pub all_but_last : {text body : List ℕ} {ieof : Bool} → IsChunked text body ieof → List ℕ
all_but_last w = w.front ++ (print_line w.last ++ (13 ∷ 10 ∷ (w.trailers ++ 13 ∷ [])))

-- a body but for its last byte leads to the last CR, with all its bytes found
pub open_walk : (text body : List ℕ) (ieof : Bool) (w : IsChunked text body ieof)
    → Walk start (all_but_last w) body (at (length body) (LastCr (length w.trailers + 1) ieof))
open_walk text body ieof w =
    let fits = chunks_fit w.chunks in
    let sum = length body in
    let found = has_ieof w.last.extension in
    let last = on (line_walk sum w.last 0 w.is_last) (on (last_end sum found fits)
    (on (trailers_walk sum found w.lines (omega (arith, w.short)))
    (final_end sum found (length w.trailers) (omega (arith, w.short))))) in
    let all = on (chunks_walk w.chunks) (of last (append_assoc (print_line w.last) (13 ∷ []) (10 ∷ (w.trailers ++ 13 ∷ [])))) in
    finding (to all (ap (λ x. at sum (LastCr (length w.trailers + 1) x)) w.ieof_is)) (append-nil body)

-- a whole body is all but its last byte, and LF
pub all_but_last-is : (text body : List ℕ) (ieof : Bool) (w : IsChunked text body ieof) → text ≡ all_but_last w ++ 10 ∷ []
all_but_last-is text body ieof w = w.text_is ∙ sym (append_assoc w.front (print_line w.last ++ (13 ∷ 10 ∷ (w.trailers ++ 13 ∷ [])))
    (10 ∷ [])
    ∙ ap (λ x. w.front ++ x) (append_assoc (print_line w.last) (13 ∷ 10 ∷ (w.trailers ++ 13 ∷ [])) (10 ∷ [])
    ∙ ap (λ x. print_line w.last ++ (13 ∷ 10 ∷ x)) (append_assoc w.trailers (13 ∷ []) (10 ∷ []))))

-- a whole body
pub whole_walk : (text body : List ℕ) (ieof : Bool) → IsChunked text body ieof → Walk start text body (at (length body) (Ended ieof))
whole_walk text body ieof w = finding (of (on (open_walk text body ieof w)
    (final_feed (length body) ieof (length w.trailers + 1) (omega (arith, w.short)))) (sym (all_but_last-is text body ieof w)))
    (append-nil body)
