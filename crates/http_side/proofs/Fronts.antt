-- What lies in a prefix of a text is the same in the prefix.
use Rattle.std.proofs.Common.{◌≡◌, ℕ, ◌+◌, ◌-◌, ◌≤◌, List, [], ◌∷◌, map, take, drop, zero, suc, refl, ap, ap₂, arith}
use Rattle.std.specs.Prelude.{All, slice_range}
use Rattle.std.proofs.lemmas.List.Elements.{All-tail}
use Rattle.httparse.specs.Spans.{IsWithin, IsHeaderWithin, span_bytes, header_bytes}
use Rattle.httparse.specs.declared.spans.Span.{Span}
use Rattle.httparse.specs.declared.spans.HeaderSpan.{HeaderSpan}

-- a prefix of a longer prefix of a text is a prefix of the text
front_take : (n k : ℕ) (xs : List ℕ) → k ≤ n → take k (take n xs) ≡ take k xs
front_take n zero xs l = refl
front_take zero (suc k) xs l = absurd (omega arith)
front_take (suc n) (suc k) [] l = refl
front_take (suc n) (suc k) (x ∷ xs) l = ap (λ t. x ∷ t) (front_take n k xs (omega arith))

-- bytes that lie within a prefix of a text, from some place on, are those of the whole
front_drop : (n a k : ℕ) (xs : List ℕ) → a + k ≤ n → take k (drop a (take n xs)) ≡ take k (drop a xs)
front_drop n zero k xs l = front_take n k xs (omega arith)
front_drop zero (suc a) k xs l = absurd (omega arith)
front_drop (suc n) (suc a) k [] l = refl
front_drop (suc n) (suc a) k (x ∷ xs) l = front_drop n a k xs (omega arith)

-- a range within a prefix of a text is the same in the whole
front_range : (n a b : ℕ) (xs : List ℕ) → a ≤ b → b ≤ n → slice_range (take n xs) a b ≡ slice_range xs a b
front_range n a b xs l m = front_drop n a (b - a) xs (omega arith)

-- the bytes at a span within a prefix are those in the whole text
pub front_span : (n : ℕ) (buf : List ℕ) (s : Span) → IsWithin n s → span_bytes (take n buf) s ≡ span_bytes buf s
front_span n buf s h = front_range n s.start s.end buf h.0 h.1

-- a field at offsets within a prefix has its name and value in the whole text
front_header : (n : ℕ) (buf : List ℕ) (h : HeaderSpan) → IsHeaderWithin n h → header_bytes (take n buf) h ≡ header_bytes buf h
front_header n buf h w = ap₂ (λ a b. (a, b)) (front_span n buf h.name w.0) (front_span n buf h.value w.1)

-- all fields at offsets within a prefix are those in the whole text
pub front_headers : (n : ℕ) (buf : List ℕ) (lines : List HeaderSpan) → All (IsHeaderWithin n) lines
    → map (header_bytes (take n buf)) lines ≡ map (header_bytes buf) lines
front_headers n buf [] all = refl
front_headers n buf (h ∷ lines) all = ap₂ ◌∷◌ (front_header n buf h (all 0 h (omega arith)))
    (front_headers n buf lines (All-tail (IsHeaderWithin n) h lines all))

-- spans in a prefix lie in the whole
pub wider : (n m : ℕ) (lines : List HeaderSpan) → n ≤ m → All (IsHeaderWithin n) lines → All (IsHeaderWithin m) lines
wider n m lines l all = λ k d lt. let h = all k d lt in ((h.0.0, omega (arith, h.0.1)), (h.1.0, omega (arith, h.1.1)))
