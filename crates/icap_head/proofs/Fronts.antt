-- What lies in a prefix of a text is the same in the prefix.
use Rattle.std.proofs.Common.{◌≡◌, ℕ, ◌+◌, ◌-◌, ◌≤◌, List, [], ◌∷◌, ◌++◌, length, map, take, drop, zero, suc, refl, sym, ap, ap₂, ◌∙◌}
use Rattle.std.proofs.Common.{subst, arith, append_assoc, append-nil, length-append}
use Rattle.std.specs.Prelude.{All, slice_range, Bool, true, false, if◌then◌else◌}
use Rattle.std.proofs.lemmas.List.{take_at, drop_at, map-append}
use Rattle.std.proofs.lemmas.List.Elements.{All-append, All-cons, All-nil, All-tail}
use Rattle.httparse.specs.Spans.{IsWithin, IsHeaderWithin, span_bytes, header_bytes}
use Rattle.httparse.specs.declared.spans.Span.{Span}
use Rattle.httparse.specs.declared.spans.HeaderSpan.{HeaderSpan}

-- a shorter prefix of a prefix is that prefix of the text
front_take : (n k : ℕ) (xs : List ℕ) → k ≤ n → take k (take n xs) ≡ take k xs
front_take n zero xs l = refl
front_take zero (suc k) xs l = absurd (omega arith)
front_take (suc n) (suc k) [] l = refl
front_take (suc n) (suc k) (x ∷ xs) l = ap (λ t. x ∷ t) (front_take n k xs (omega arith))

-- bytes after an offset that end within a prefix are the same in the prefix
front_drop : (n a k : ℕ) (xs : List ℕ) → a + k ≤ n → take k (drop a (take n xs)) ≡ take k (drop a xs)
front_drop n zero k xs l = front_take n k xs (omega arith)
front_drop zero (suc a) k xs l = absurd (omega arith)
front_drop (suc n) (suc a) k [] l = refl
front_drop (suc n) (suc a) k (x ∷ xs) l = front_drop n a k xs (omega arith)

-- the bytes of a span within a prefix are the same in the prefix
front_span : (n : ℕ) (text : List ℕ) (s : Span) → IsWithin n s → span_bytes (take n text) s ≡ span_bytes text s
front_span n text s h = front_drop n s.start (s.end - s.start) text (omega (arith, h.0, h.1))

-- the name and the value of a header within a prefix are the same in the prefix
front_header : (n : ℕ) (text : List ℕ) (h : HeaderSpan) → IsHeaderWithin n h → header_bytes (take n text) h ≡ header_bytes text h
front_header n text h w = ap₂ (λ a b. (a, b)) (front_span n text h.name w.0) (front_span n text h.value w.1)

-- the fields at places within a prefix are the same in the prefix
pub front_headers : (n : ℕ) (text : List ℕ) (lines : List HeaderSpan) → All (IsHeaderWithin n) lines
    → map (header_bytes (take n text)) lines ≡ map (header_bytes text) lines
front_headers n text [] all = refl
front_headers n text (h ∷ lines) all = ap₂ ◌∷◌ (front_header n text h (all 0 h (omega arith)))
    (front_headers n text lines (All-tail (IsHeaderWithin n) h lines all))

-- ---- a text that grows

-- the fields of a text are the same in a longer one
pub longer_headers : (text more : List ℕ) (lines : List HeaderSpan) → All (IsHeaderWithin (length text)) lines
    → map (header_bytes (text ++ more)) lines ≡ map (header_bytes text) lines
longer_headers text more lines all =
    sym (front_headers (length text) (text ++ more) lines all) ∙ ap (λ t. map (header_bytes t) lines) (take_at text more (length text) refl)

-- places within some first bytes are within more of them
wider : (n m : ℕ) (lines : List HeaderSpan) → n ≤ m → All (IsHeaderWithin n) lines → All (IsHeaderWithin m) lines
wider n m lines l all = λ k d lt. let h = all k d lt in ((h.0.0, omega (arith, h.0.1)), (h.1.0, omega (arith, h.1.1)))

-- a piece between others is what the offsets of its ends cover
piece : (before bytes behind : List ℕ) (start end : ℕ) → start ≡ length before → end ≡ length before + length bytes
    → slice_range (before ++ (bytes ++ behind)) start end ≡ bytes
piece before bytes behind start end s e =
    ap (take (end - start)) (drop_at before (bytes ++ behind) start (sym s)) ∙ take_at bytes behind (end - start) (omega (arith, s, e))

-- a field after the others, its name and its value added to the text
pub record IsAdded (text name value longer : List ℕ) (line : HeaderSpan) : Type 0 where
  pub longer_is : longer ≡ text ++ (name ++ value)
  pub name_start : line.name.start ≡ length text
  pub name_end : line.name.end ≡ length text + length name
  pub value_start : line.value.start ≡ length text + length name
  pub value_end : line.value.end ≡ length text + length name + length value

-- the places of lines and of one that is added after them lie within the longer text
added_inside : (text name value longer : List ℕ) (lines : List HeaderSpan) (line : HeaderSpan) → IsAdded text name value longer line
    → All (IsHeaderWithin (length text)) lines → All (IsHeaderWithin (length longer)) (lines ++ line ∷ [])
added_inside text name value longer lines line added all =
    let size : length longer ≡ length text + length name + length value =
    ap length added.longer_is ∙ omega (arith, length-append text (name ++ value), length-append name value) in
    All-append (IsHeaderWithin (length longer)) lines (line ∷ []) (wider (length text) (length longer) lines (omega (arith, size)) all)
    (All-cons (IsHeaderWithin (length longer)) line [] (
      (omega (arith, added.name_start, added.name_end), omega (arith, added.name_end, size)),
      (omega (arith, added.value_start, added.value_end), omega (arith, added.value_end, size)),
    )
    (All-nil (IsHeaderWithin (length longer))))

-- the fields of a longer text are those of the text and then the one that is added
pub added_fields : (text name value longer : List ℕ) (lines : List HeaderSpan) (line : HeaderSpan) → IsAdded text name value longer line
    → All (IsHeaderWithin (length text)) lines → map (header_bytes longer) (lines ++ line ∷ []) ≡ map (header_bytes text) lines
    ++ (name, value) ∷ []
added_fields text name value longer lines line added all =
    let whole = added.longer_is in
    let first : span_bytes longer line.name ≡ name =
    ap (λ t. slice_range t line.name.start line.name.end) whole ∙ piece text name value line.name.start line.name.end added.name_start
    added.name_end in
    let cut : text ++ (name ++ value) ≡ (text ++ name) ++ (value ++ []) = simp (append_assoc, append-nil) in
    let front : length (text ++ name) ≡ length text + length name = length-append text name in
    let second : span_bytes longer line.value ≡ value =
    ap (λ t. slice_range t line.value.start line.value.end) (whole ∙ cut)
    ∙ piece (text ++ name) value [] line.value.start line.value.end (omega (arith, added.value_start, front))
    (omega (arith, added.value_end, front)) in
    map-append (header_bytes longer) lines (line ∷ [])
    ∙ ap₂ ◌++◌ (ap (λ t. map (header_bytes t) lines) whole ∙ longer_headers text (name ++ value) lines all)
    (ap₂ (λ a b. (a, b) ∷ []) first second)

-- the same of two parts added in turn
pub is_added : (text name value first second : List ℕ) (a b : Span) → (a.start ≡ length text) × (a.end ≡ length first)
    → first ≡ text ++ name
    → (b.start ≡ length first) × (b.end ≡ length second) → second ≡ first ++ value
    → IsAdded text name value second (record { name = a; value = b })
is_added text name value first second a b at_name name_is at_value value_is =
    let size = ap length name_is ∙ length-append text name in
    let whole = ap length value_is ∙ length-append first value in
    record {
      longer_is = value_is ∙ ap (λ t. t ++ value) name_is ∙ append_assoc text name value;
      name_start = at_name.0;
      name_end = omega (arith, at_name.1, size);
      value_start = omega (arith, at_value.0, size);
      value_end = omega (arith, at_value.1, size, whole);
    }

-- whether or not there was room for the line, the lines lie within the text
pub either_inside : (text name value longer : List ℕ) (lines new : List HeaderSpan) (line : HeaderSpan) (pushed : Bool)
    → IsAdded text name value longer line
    → All (IsHeaderWithin (length text)) lines → new ≡ (if pushed then lines ++ line ∷ [] else lines)
    → All (IsHeaderWithin (length longer)) new
either_inside text name value longer lines new line true added all e =
    subst (All (IsHeaderWithin (length longer))) (sym e) (added_inside text name value longer lines line added all)
either_inside text name value longer lines new line false added all e =
    let size : length longer ≡ length text + length (name ++ value) = ap length added.longer_is ∙ length-append text (name ++ value) in
    subst (All (IsHeaderWithin (length longer))) (sym e) (wider (length text) (length longer) lines (omega (arith, size)) all)
