-- Where a reader stands after one byte more of a size line.
use Rattle.std.proofs.Common.{◌≡◌, ℕ, ◌+◌, ◌-◌, ◌*◌, ◌<◌, Bool, true, false, true≢false, ◌||◌, List, [], ◌∷◌, ◌++◌, Some, None, refl, sym}
use Rattle.std.proofs.Common.{ap, ◌∙◌, arith, append_assoc, nat_lt, nat_le, if◌then◌else◌, ◌==◌, length-append, lit<, lit≤}
use Rattle.std.proofs.lemmas.List.{append-nil}
use Rattle.std.proofs.lemmas.Bool.Decides.{nat_tests}
use Rattle.std.specs.Char.{digit_value}
use Rattle.std.proofs.lemmas.Int.Digits.{digits_push, digits_value_push}
use Rattle.adapt_bytes.specs.Numeral.{Writes}
use Rattle.icap_chunks.specs.declared.extension.Item.{Item}
use Rattle.icap_chunks.specs.declared.extension.Item.TheVariants.{Blank}
use Rattle.icap_chunks.specs.declared.positions.Position.{Position}
use Rattle.icap_chunks.specs.declared.positions.Position.TheVariants.{Extension}
use Rattle.icap_chunks.specs.declared.reader.ChunkReader.{ChunkReader}
use Rattle.adapt_bytes.specs.Text.{is_blank}
use Rattle.icap_chunks.specs.Grammar.{is_line_byte, AllPass, print_line, IsSizeLine, no_line}
use Rattle.icap_chunks.specs.Machine.{start, step, run, body_of, is_data, item_with, in_digits, in_pad, in_extension, in_line_cr, in_data}
use Rattle.icap_chunks.specs.Machine.{in_data_end, in_data_cr, in_trailer_start, in_trailer, in_trailer_cr, in_last_cr}
use Rattle.icap_chunks.specs.Machine as machine
use Rattle.icap_chunks.proofs.Standing.{Front, InDigits, InPad, InExtension, InLineEnd, InChunk, InTrailers, LeavesAt, extension_with}
use Rattle.icap_chunks.proofs.Words.{extension_behind-append, answer, extension_found}

-- ---- one byte more

-- with a byte more, a text has the same whole chunks, and the part after them has the byte more
pub Front_more : {text body part : List ℕ} {sum : ℕ} (b : ℕ) → Front text body part sum → Front (text ++ b ∷ []) body (part ++ b ∷ []) sum
Front_more {text} {body} {part} {sum} b f = record {
  front = f.front;
  chunks = f.chunks;
  sum_is = f.sum_is;
  text_is = ap (λ t. t ++ b ∷ []) f.text_is ∙ append_assoc f.front part (b ∷ []);
}

-- with a byte more, a text is its whole chunks, the part and that byte
pub Front_text : {text body part : List ℕ} {sum : ℕ} (b : ℕ) (f : Front text body part sum) → text ++ b ∷ [] ≡ f.front ++ (part ++ b ∷ [])
Front_text {text} {body} {part} {sum} b f = ap (λ t. t ++ b ∷ []) f.text_is ∙ append_assoc f.front part (b ∷ [])

-- a part that is equal to another stands after the same whole chunks
pub Front_as : {text body part other : List ℕ} {sum : ℕ} → Front text body part sum → part ≡ other → Front text body other sum
Front_as f e = record { front = f.front; chunks = f.chunks; sum_is = f.sum_is; text_is = f.text_is ∙ ap (λ p. f.front ++ p) e }

-- bytes that pass, and one more that passes, all pass
pub All_push : (test : ℕ → Bool) (bytes : List ℕ) (b : ℕ) → AllPass test bytes → test b ≡ true → AllPass test (bytes ++ b ∷ [])
All_push test [] b all pass = (pass, tt)
All_push test (c ∷ bytes) b all pass = (all.0, All_push test bytes b all.1 pass)

-- what holds of both places of a choice, each under its test, holds of the choice
pub choose : (P : Position → Type 0) (t : Bool) (x y : Position) → (t ≡ true → P x) → (t ≡ false → P y) → P (if t then x else y)
choose P true x y p q = p refl
choose P false x y p q = q refl

-- a number that isn't zero is more than zero
pub pos_from : (n : ℕ) → (n == 0) ≡ false → 0 < n
pos_from n e = grind (arith, nat_tests)

-- where neither of two tests holds, the first doesn't
pub or_left : (a b : Bool) → (a || b) ≡ false → a ≡ false
or_left false b e = refl
or_left true b e = absurd (true≢false e)

-- where neither of two tests holds, the second doesn't
pub or_right : (a b : Bool) → (a || b) ≡ false → b ≡ false
or_right false b e = e
or_right true b e = absurd (true≢false e)

-- where the test for at most fails, the second number is the smaller
pub is_nle : (m n : ℕ) → nat_le m n ≡ false → n < m
is_nle m n e = grind (arith, nat_tests)

-- numbers that pass the test for equal are equal
pub is_eq : (m n : ℕ) → (m == n) ≡ true → m ≡ n
is_eq m n e = grind (arith, nat_tests)

-- a number that passes the test for less than another is less than it
pub is_lt : (m n : ℕ) → nat_lt m n ≡ true → m < n
is_lt m n e = grind (arith, nat_tests)

module _ (text body : List ℕ) (sum count size b : ℕ) (s : InDigits text body sum count size) where
  -- one more digit, where the line has room and the size fits, is one of the digits of the size line
  digits_one : digit_value b < 16 → count < 256 → size * 16 + digit_value b < 4611686018427387904
      → InDigits (text ++ b ∷ []) body sum (count + 1) (size * 16 + digit_value b)
  digits_one low room fits = record {
    digits = s.digits ++ b ∷ [];
    front = Front_more b s.front;
    all = digits_push 16 s.digits b s.all low;
    count_is = omega (arith, s.count_is, length-append s.digits (b ∷ []));
    size_is = digits_value_push 16 s.digits b ∙ ap (λ v. v * 16 + digit_value b) s.size_is;
    short = omega arith;
    fits = fits;
  }

  -- one or more digits in which a text stands write the size
  writes : 0 < count → Writes 16 s.digits size
  writes pos = record { digits = (omega (arith, s.count_is), s.all); value = s.size_is }

  -- a blank after one or more digits is the first of the blanks, where the line has room
  digits_blank : 0 < count → count < 256 → is_blank b ≡ true → InPad (text ++ b ∷ []) body sum (count + 1) size
  digits_blank pos room pass = record {
    digits = s.digits;
    pad = b ∷ [];
    front = Front_more b s.front;
    writes = writes pos;
    blanks = (pass, tt);
    some = lit< tt;
    count_is = omega (arith, s.count_is);
    short = omega arith;
    fits = s.fits;
  }

  -- a semicolon after one or more digits starts an extension, where the line has room
  digits_extension : b ≡ 59 → 0 < count → count < 256 → InExtension (text ++ b ∷ []) body sum (count + 1) size Blank false
  digits_extension e pos room = record {
    digits = s.digits;
    pad = [];
    extension = [];
    front = Front_as (Front_more b s.front) (ap (λ c. s.digits ++ c ∷ []) e);
    writes = writes pos;
    blanks = tt;
    all = tt;
    behind = refl;
    count_is = omega (arith, s.count_is);
    short = omega arith;
    fits = s.fits;
  }

  -- a CR after one or more digits ends a size line that has no extension
  digits_end : b ≡ 13 → 0 < count → InLineEnd (text ++ b ∷ []) body sum size false
  digits_end e pos = record {
    l = record { digits = s.digits; pad = []; extension = None };
    front = Front_as (Front_more b s.front) (ap (λ c. s.digits ++ c ∷ []) e ∙ ap (λ d. d ++ 13 ∷ []) (sym (append-nil s.digits)));
    is = record {
      digits = writes pos;
      pad = tt;
      extension = tt;
      short = omega (arith, s.count_is, s.short, length-append s.digits []);
      fits = s.fits;
    };
    ieof_is = refl;
  }

  -- in the digits, a byte leaves a reader in the size line, after its CR, or at a fault
  pub digits_step : LeavesAt (text ++ b ∷ []) body sum (in_digits count size b)
  unfolding in_digits
  digits_step = let G = LeavesAt (text ++ b ∷ []) body sum in choose G (b == 13) _ _
      (λ e. choose G (count == 0) _ _ (λ _. tt) (λ pos. digits_end (is_eq b 13 e) (pos_from count pos)))
      (λ _. choose G ((b == 10) || nat_le 256 count) _ _ (λ _. tt) (λ go. let room = is_nle 256 count (or_right (b == 10) _ go) in
      choose G (nat_lt (digit_value b) 16) _ _ (λ low. choose G (nat_lt (size * 16 + digit_value b) 4611686018427387904) _ _
      (λ fits. digits_one (is_lt (digit_value b) 16 low) room (is_lt _ _ fits)) (λ _. tt))
      (λ _. choose G (count == 0) _ _ (λ _. tt) (λ pos. choose G (is_blank b) _ _ (λ pass. digits_blank (pos_from count pos) room pass)
      (λ _. choose G (b == 59) _ _ (λ e. digits_extension (is_eq b 59 e) (pos_from count pos) room) (λ _. tt))))))

module _ (text body : List ℕ) (sum count size b : ℕ) (s : InPad text body sum count size) where
  -- one more blank after the digits is one of the blanks, where the line has room
  pad_blank : count < 256 → is_blank b ≡ true → InPad (text ++ b ∷ []) body sum (count + 1) size
  pad_blank room pass = record {
    digits = s.digits;
    pad = s.pad ++ b ∷ [];
    front = Front_as (Front_more b s.front) (append_assoc s.digits s.pad (b ∷ []));
    writes = s.writes;
    blanks = All_push is_blank s.pad b s.blanks pass;
    some = omega (arith, length-append s.pad (b ∷ []));
    count_is = omega (arith, s.count_is, length-append s.pad (b ∷ []));
    short = omega arith;
    fits = s.fits;
  }

  -- a semicolon after the blanks starts an extension, where the line has room
  pad_extension : b ≡ 59 → count < 256 → InExtension (text ++ b ∷ []) body sum (count + 1) size Blank false
  pad_extension e room = record {
    digits = s.digits;
    pad = s.pad;
    extension = [];
    front = Front_as (Front_more b s.front) (append_assoc s.digits s.pad (b ∷ []) ∙ ap (λ c. s.digits ++ (s.pad ++ c ∷ [])) e);
    writes = s.writes;
    blanks = s.blanks;
    all = tt;
    behind = refl;
    count_is = omega (arith, s.count_is);
    short = omega arith;
    fits = s.fits;
  }

  -- a CR after the blanks ends a size line that has no extension
  pad_end : b ≡ 13 → InLineEnd (text ++ b ∷ []) body sum size false
  pad_end e = record {
    l = record { digits = s.digits; pad = s.pad; extension = None };
    front = Front_as (Front_more b s.front) (ap (λ c. (s.digits ++ s.pad) ++ c ∷ []) e
        ∙ ap (λ d. (s.digits ++ d) ++ 13 ∷ []) (sym (append-nil s.pad)));
    is = record {
      digits = s.writes;
      pad = s.blanks;
      extension = tt;
      short = omega (arith, s.count_is, s.short, length-append s.digits (s.pad ++ []), length-append s.pad []);
      fits = s.fits;
    };
    ieof_is = refl;
  }

  -- in the blanks, a byte leaves a reader in the size line, after its CR, or at a fault
  pub pad_step : LeavesAt (text ++ b ∷ []) body sum (in_pad count size b)
  unfolding in_pad
  pad_step = let G = LeavesAt (text ++ b ∷ []) body sum in choose G (b == 13) _ _ (λ e. pad_end (is_eq b 13 e))
      (λ _. choose G ((b == 10) || nat_le 256 count) _ _ (λ _. tt) (λ go. let room = is_nle 256 count (or_right (b == 10) _ go) in
      choose G (is_blank b) _ _ (λ pass. pad_blank room pass)
      (λ _. choose G (b == 59) _ _ (λ e. pad_extension (is_eq b 59 e) room) (λ _. tt))))

-- a byte that is neither CR nor LF may stand in an extension or a trailer line
pub line_byte_from : (b : ℕ) → (b == 13) ≡ false → (b == 10) ≡ false → is_line_byte b ≡ true
line_byte_from b p q = rw (p, q) refl

module _ (text body : List ℕ) (sum count size : ℕ) (item : Item) (found : Bool) (b : ℕ)
    (s : InExtension text body sum count size item found) where
  extension_one : count < 256 → is_line_byte b ≡ true
      → InExtension (text ++ b ∷ []) body sum (count + 1) size (extension_with (item, found) b).0 (extension_with (item, found) b).1
  extension_one room pass = record {
    digits = s.digits;
    pad = s.pad;
    extension = s.extension ++ b ∷ [];
    front = Front_as (Front_more b s.front) (simp append_assoc);
    writes = s.writes;
    blanks = s.blanks;
    all = All_push is_line_byte s.extension b s.all pass;
    behind = extension_behind-append (Blank, false) s.extension (b ∷ []) ∙ ap (λ x. extension_with x b) s.behind;
    count_is = omega (arith, s.count_is, length-append s.extension (b ∷ []));
    short = omega arith;
    fits = s.fits;
  }

  extension_end : b ≡ 13 → InLineEnd (text ++ b ∷ []) body sum size (found || machine.is_word item)
  extension_end e = record {
    l = record { digits = s.digits; pad = s.pad; extension = Some s.extension };
    front = Front_as (Front_more b s.front) (ap (λ c. (s.digits ++ (s.pad ++ 59 ∷ s.extension)) ++ c ∷ []) e);
    is = record {
      digits = s.writes;
      pad = s.blanks;
      extension = s.all;
      short = omega (
        arith,
        s.count_is,
        s.short,
        length-append s.digits (s.pad ++ 59 ∷ s.extension),
        length-append s.pad (59 ∷ s.extension),
      );
      fits = s.fits;
    };
    ieof_is = sym (extension_found s.extension) ∙ ap answer s.behind;
  }

  by_byte : (t : Bool) → (let x : Item × Bool = if t then (Blank, found || machine.is_word item) else (item_with item b, found) in
      InExtension (text ++ b ∷ []) body sum (count + 1) size x.0 x.1)
      → LeavesAt (text ++ b ∷ []) body sum (if t then Extension (count + 1) size Blank (found || machine.is_word item) else Extension
      (count + 1) size (item_with item b) found)
  by_byte true x = x
  by_byte false x = x

  pub extension_step : LeavesAt (text ++ b ∷ []) body sum (in_extension count size item found b)
  unfolding in_extension
  extension_step = let G = LeavesAt (text ++ b ∷ []) body sum in choose G (b == 13) _ _ (λ e. extension_end (is_eq b 13 e))
      (λ cr. choose G ((b == 10) || nat_le 256 count) _ _ (λ _. tt) (λ go.
      by_byte (b == 59) (extension_one (is_nle 256 count (or_right (b == 10) _ go)) (line_byte_from b cr (or_left (b == 10) _ go)))))

-- the text leaves this reader
abbrev pub LeavesReader : List ℕ → List ℕ → ChunkReader → Type 0
LeavesReader text body r = LeavesAt text body r.sum r.place

-- what holds of both readers of a choice, each under its test, holds of the choice
pub choose_reader : (P : ChunkReader → Type 0) (t : Bool) (x y : ChunkReader) → (t ≡ true → P x) → (t ≡ false → P y)
    → P (if t then x else y)
choose_reader P true x y p q = p refl
choose_reader P false x y p q = q refl

module _ (text body : List ℕ) (sum size : ℕ) (ieof : Bool) (b : ℕ) (s : InLineEnd text body sum size ieof) where
  -- after the LF of a size line, the line with its CR LF is all that stands after the whole chunks
  line_front : b ≡ 10 → Front (text ++ b ∷ []) body (print_line s.l ++ (13 ∷ 10 ∷ ([] ++ []))) sum
  line_front e = Front_as (Front_more b s.front) (append_assoc (print_line s.l) (13 ∷ []) (b ∷ [])
      ∙ ap (λ c. print_line s.l ++ (13 ∷ c ∷ [])) e)

  -- the LF of a size line whose size is zero begins the trailers
  last_one : b ≡ 10 → size ≡ 0 → InTrailers (text ++ b ∷ []) body (sum + size) 0 ieof []
  last_one e none = record {
    l = s.l;
    trailers = [];
    front = let f = line_front e in record { front = f.front; chunks = f.chunks; text_is = f.text_is; sum_is = omega (arith, f.sum_is) };
    is = let h : IsSizeLine s.l size = s.is in rw none at h;
    ieof_is = s.ieof_is;
    lines = no_line;
    count_is = refl;
    short = lit≤ tt;
  }

  -- the LF of a size line of one or more bytes, whose sum fits, begins the data of a chunk
  first_data : b ≡ 10 → 0 < size → sum + size < 4611686018427387904 → InChunk (text ++ b ∷ []) body (sum + size) (size - 1 + 1) []
  first_data e some fits = record {
    done = body;
    bytes = [];
    l = s.l;
    size = size;
    front = let f = line_front e in record { front = f.front; chunks = f.chunks; text_is = f.text_is; sum_is = refl };
    is = s.is;
    body_is = sym (append-nil body);
    sum_is = ap (λ n. n + size) s.front.sum_is;
    sum_fits = fits;
    left_is = omega arith;
    some = some;
  }

  -- after the CR of a size line, a byte leaves a reader in the data, at the trailers, or at a fault
  pub line_end_step : LeavesReader (text ++ b ∷ []) body (in_line_cr sum size ieof b)
  unfolding in_line_cr
  line_end_step = let G = LeavesReader (text ++ b ∷ []) body in choose_reader G (b == 10) _ _
      (λ e. choose_reader G (nat_lt (sum + size) 4611686018427387904) _ _
      (λ fits. choose (LeavesAt (text ++ b ∷ []) body (sum + size)) (size == 0) _ _ (λ none. last_one (is_eq b 10 e) (is_eq size 0 none))
      (λ some. first_data (is_eq b 10 e) (pos_from size some) (is_lt _ _ fits)))
      (λ _. tt))
      (λ _. tt)
