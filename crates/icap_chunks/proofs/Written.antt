-- What is written is a body in chunks, with the bytes that were handed in; and a text has one reading.
use Rattle.std.proofs.Common.{◌≡◌, ℕ, ◌+◌, ◌<◌, Bool, true, false, List, [], ◌∷◌, ◌++◌, length, Some, None, refl, sym, ap, ◌∙◌, subst}
use Rattle.std.proofs.Common.{arith, append_assoc, length-append, lit<, lit≤}
use Rattle.std.proofs.lemmas.List.{append-nil}
use Rattle.adapt_bytes.specs.Numeral.{numeral}
use Rattle.adapt_bytes.specs.Text.{trim}
use Rattle.adapt_bytes.proofs.Written.{Writes-numeral, length-numeral-le}
use Rattle.icap_chunks.specs.Grammar.{crlf, SizeLine, print_line, IsSizeLine, Chunks, chunk, no_line, IsChunked, chunk_head, last_chunk}
use Rattle.icap_chunks.specs.Grammar.{has_ieof}
use Rattle.icap_chunks.proofs.Endings.{chunked_ends}

abbrev pub plain_line : ℕ → SizeLine
plain_line n = record { digits = numeral 16 n; pad = []; extension = None }

-- the numeral of a size that fits is a size line
pub IsSizeLine-plain : (n : ℕ) → n < 4611686018427387904 → IsSizeLine (plain_line n) n
IsSizeLine-plain n fits =
    let short = length-numeral-le 16 n 16 (lit≤ tt) (lit< tt) (omega arith) in
    record {
      digits = Writes-numeral 16 n (lit≤ tt) (lit≤ tt);
      pad = tt;
      extension = tt;
      short = omega (arith, length-append (numeral 16 n) []);
      fits = fits;
    }

-- a chunk as it is written
abbrev pub written_chunk : List ℕ → List ℕ
written_chunk bytes = chunk_head (length bytes) ++ (bytes ++ crlf)

-- a chunk as it is written, of one or more bytes whose sum fits, is one more of the whole chunks
pub chunk_written : (front body bytes : List ℕ) → Chunks front body → 0 < length bytes → length body + length bytes < 4611686018427387904
    → Chunks (front ++ written_chunk bytes) (body ++ bytes)
chunk_written front body bytes c some fits =
    let P : List ℕ → Type 0 = λ t. Chunks t (body ++ bytes) in
    let whole = chunk c (plain_line (length bytes)) bytes (IsSizeLine-plain (length bytes) (omega arith)) some fits in
    subst P (ap (λ t. front ++ t) (regroup (numeral 16 (length bytes)) (bytes ++ crlf))) whole
  where
    regroup : (a b : List ℕ) → (a ++ ([] ++ [])) ++ (13 ∷ 10 ∷ b) ≡ (a ++ crlf) ++ b
    regroup a b = simp (append_assoc, append-nil)

abbrev last_line : Bool → SizeLine
last_line true = record { digits = 48 ∷ []; pad = []; extension = Some (32 ∷ 105 ∷ 101 ∷ 111 ∷ 102 ∷ []) }
last_line false = record { digits = 48 ∷ []; pad = []; extension = None }

-- the last size line, with or without `ieof`, has the size zero
last_is : (ieof : Bool) → IsSizeLine (last_line ieof) 0
last_is true = record {
  digits = record { digits = (lit< tt, (lit< tt, tt)); value = refl };
  pad = tt;
  extension = (refl, (refl, (refl, (refl, (refl, tt)))));
  short = lit≤ tt;
  fits = lit< tt;
}
last_is false = record {
  digits = record { digits = (lit< tt, (lit< tt, tt)); value = refl };
  pad = tt;
  extension = tt;
  short = lit≤ tt;
  fits = lit< tt;
}

-- the last size line, and an empty line after it, are what is written last
last_text : (ieof : Bool) → print_line (last_line ieof) ++ (13 ∷ 10 ∷ ([] ++ crlf)) ≡ last_chunk ieof
last_text true = refl
last_text false = refl

-- the last size line has `ieof` just where it is asked for
last_ieof : (ieof : Bool) → has_ieof (last_line ieof).extension ≡ ieof
unfolding trim
last_ieof true = refl
last_ieof false = refl

-- whole chunks, and the last one as it is written, are a whole body
pub last_written : (front body : List ℕ) (ieof : Bool) → Chunks front body → IsChunked (front ++ last_chunk ieof) body ieof
last_written front body ieof c = record {
  front = front;
  last = last_line ieof;
  trailers = [];
  chunks = c;
  is_last = last_is ieof;
  lines = no_line;
  short = lit≤ tt;
  ieof_is = last_ieof ieof;
  text_is = ap (λ t. front ++ t) (sym (last_text ieof));
}

-- A text has one reading.
pub one_reading : (text a b : List ℕ) (i j : Bool) → IsChunked text a i → IsChunked text b j → (a ≡ b) × (i ≡ j)
one_reading text a b i j x y =
    let p = chunked_ends text a i x in
    let q = chunked_ends text b j y in
    (sym p.1 ∙ q.1, same (sym p.0.ended ∙ q.0.ended))
  where
    same : {x y : Bool} → Some x ≡ Some y → x ≡ y
    same e = cc
