-- Bytes on pages.
use Rattle.std.proofs.Common.{◌≡◌, ℕ, ◌+◌, ◌-◌, ◌*◌, ◌/◌, ◌%◌, ◌≤◌, ◌<◌, min, List, [], ◌∷◌, ◌++◌, length, take, drop, refl, sym, ap, ◌∙◌}
use Rattle.std.proofs.Common.{subst, arith, length-append, append_assoc, append-nil, suc, inl, inr}
use Rattle.std.specs.Prelude.{nat_lt, true, if◌then◌else◌}
use Rattle.std.proofs.lemmas.Bool.Decides.{leb_tells}
use Rattle.span_bank.specs.Chain.{text_of, down_of}
use Rattle.span_tape.specs.Tape.{Tape, end_of, from_place}
use Rattle.std.proofs.lemmas.List.{drop-drop, drop_at, take_at, drop-append-le, drop-take, take-take, length-take, length-drop, take_all}
use Rattle.std.proofs.lemmas.List.{take-append-drop, take-append-le}
use Rattle.std.proofs.Math.Seq.{take-append-add, drop-append-add}

abbrev tape_of : ℕ → ℕ → List ℕ → Tape
tape_of b s l = record { base = b; start = s; bytes = l }

-- after a whole page of a text its bytes go on from the next page
pub next_page : (T p r : List ℕ) (i : ℕ) → length p ≡ 4096 → p ++ r ≡ drop (4096 * i) T → r ≡ drop (4096 * (i + 1)) T
next_page T p r i n e =
    let more : 4096 * i + 4096 ≡ 4096 * (i + 1) = omega arith in
    sym (drop_at p r 4096 n) ∙ ap (λ l. drop 4096 l) e ∙ drop-drop 4096 (4096 * i) T ∙ ap (λ k. drop k T) more

-- a part of what lies between two places
between : (T : List ℕ) (start len gone : ℕ) → gone ≤ len → drop gone (take len (drop start T)) ≡ take (len - gone) (drop (start + gone) T)
between T start len gone le =
    let parts : len ≡ gone + (len - gone) = omega (arith, le) in
    ap (λ k. drop gone (take k (drop start T))) parts ∙ drop-take gone (len - gone) (drop start T)
    ∙ ap (λ l. take (len - gone) l) (drop-drop gone start T)

-- a part of a text without its first bytes begins on the page of the byte after them
pub dropped : (T : List ℕ) (start len gone : ℕ) → gone ≤ len
    → take (len - gone) (drop ((start + gone) % 4096) (drop (4096 * ((start + gone) / 4096)) T)) ≡ drop gone (take len (drop start T))
dropped T start len gone le =
    let whole : 4096 * ((start + gone) / 4096) + (start + gone) % 4096 ≡ start + gone = omega arith in
    ap (λ l. take (len - gone) l) (drop-drop ((start + gone) % 4096) (4096 * ((start + gone) / 4096)) T ∙ ap (λ k. drop k T) whole)
    ∙ sym (between T start len gone le)

-- bytes of a part of a text, after some that are skipped, are those of the text at their place
pub copied : (T : List ℕ) (start len skipped count : ℕ) → skipped ≤ len → count ≤ len - skipped
    → take count (drop (start + skipped) T) ≡ take count (drop skipped (take len (drop start T)))
copied T start len skipped count le few =
    sym (ap (λ l. take count l) (between T start len skipped le) ∙ take-take count (len - skipped) (drop (start + skipped) T) few)

-- bytes put after the filled part of a text stand after what lies in it from a place on
pub appended : (old new more : List ℕ) (start len : ℕ) → start + len ≤ length old
    → take (start + len + length more) new ≡ take (start + len) old ++ more
    → take (len + length more) (drop start new) ≡ take len (drop start old) ++ more
appended old new more start len le e =
    let there : start + (len + length more) ≡ start + len + length more = omega arith in
    let long : start ≤ length (take (start + len) old) = omega (arith, length-take (start + len) old, le) in
    sym (drop-take start (len + length more) new) ∙ ap (λ k. drop start (take k new)) there ∙ ap (λ l. drop start l) e
    ∙ drop-append-le start (take (start + len) old) more long ∙ ap (λ l. l ++ more) (drop-take start len old)

-- what comes after a place, of a tape that is known by its parts
pub copied_of : (v : Tape) (base start len from count : ℕ) (T : List ℕ)
    → record { base = base; start = start; bytes = take len (drop start T) } ≡ v → from ≤ end_of v → count ≤ len - (from - base)
    → take count (drop (start + (from - base)) T) ≡ take count (drop (from - v.base) v.bytes)
copied_of v base start len from count T e high few =
    let P : Tape → Type 0 = λ x. take count (drop (start + (from - base)) T) ≡ take count (drop (from - x.base) x.bytes) in
    let Q : Tape → Type 0 = λ x. from ≤ end_of x in
    let there : from ≤ base + length (take len (drop start T)) = subst Q (sym e) high in
    let le : from - base ≤ len = omega (arith, there, length-take len (drop start T)) in
    subst P e (copied T start len (from - base) count le few)

-- the tape from a place on, of one that is known by its parts
pub dropped_of : (v : Tape) (base start len place : ℕ) (T new : List ℕ)
    → record { base = base; start = start; bytes = take len (drop start T) } ≡ v
    → place - base ≤ len → nat_lt place (base + length (take len (drop start T))) ≡ true
    → new ≡ drop (4096 * ((start + (place - base)) / 4096)) T
    → tape_of place ((start + (place - base)) % 4096) (take (len - (place - base)) (drop ((start + (place - base)) % 4096) new))
    ≡ from_place v place
dropped_of v base start len place T new e le lt is =
    let gone = place - base in
    let old : Tape = record { base = base; start = start; bytes = take len (drop start T) } in
    let P : Tape → Type 0 = λ x. tape_of place ((start + gone) % 4096) (take (len - gone) (drop ((start + gone) % 4096) new))
    ≡ from_place x place in
    let bytes : take (len - gone) (drop ((start + gone) % 4096) new) ≡ drop gone (take len (drop start T)) =
    ap (λ l. take (len - gone) (drop ((start + gone) % 4096) l)) is ∙ dropped T start len gone le in
    let first : (if nat_lt place (base + length (take len (drop start T))) then (start + gone) % 4096 else 0) ≡ (start + gone) % 4096 =
    ap (λ b. if b then (start + gone) % 4096 else 0) lt in
    let Q : ℕ → List ℕ → Tape = λ n l. record { base = place; start = n; bytes = l } in
    subst P e (ap (λ l. Q ((start + gone) % 4096) l) bytes ∙ sym (ap (λ n. Q n (drop gone (take len (drop start T)))) first))

-- a part of a page more, after bytes that fill theirs
pub another_page : (T D rest bytes : List ℕ) (at w n : ℕ) → at + w ≡ length D → w + n ≤ length bytes
    → take (at + w) D ≡ take at T ++ take w bytes
    → take (at + (w + n)) (D ++ (take n (drop w bytes) ++ rest)) ≡ take at T ++ take (w + n) bytes
another_page T D rest bytes at w n full le e =
    let piece = take n (drop w bytes) in
    let size : length piece ≡ n = omega (arith, length-take n (drop w bytes), length-drop w bytes, le) in
    let ends : length (D ++ piece) ≡ at + (w + n) = omega (arith, length-append D piece, size, full) in
    let whole : take (at + w) D ≡ D = take_all (at + w) D (omega (arith, full)) in
    let front : w ≤ w + n = omega arith in
    let more : take w bytes ++ piece ≡ take (w + n) bytes =
    ap (λ l. l ++ piece) (sym (take-take w (w + n) bytes front)) ∙ ap (λ l. take w (take (w + n) bytes) ++ l) (sym (drop-take w n bytes))
    ∙ take-append-drop w (take (w + n) bytes) in
    ap (λ l. take (at + (w + n)) l) (sym (append_assoc D piece rest)) ∙ take_at (D ++ piece) rest (at + (w + n)) ends
    ∙ ap (λ l. l ++ piece) (sym whole ∙ e) ∙ append_assoc (take at T) (take w bytes) piece ∙ ap (λ l. take at T ++ l) more

-- a place before a tape's end
pub before_end : (T : List ℕ) (base start len place : ℕ) → start + len ≤ length T → place - base < len
    → nat_lt place (base + length (take len (drop start T))) ≡ true
before_end T base start len place long lt =
    let size : length (take len (drop start T)) ≡ len = omega (arith, length-take len (drop start T), length-drop start T, long) in
    elim (leb_tells (suc place) (base + length (take len (drop start T)))) [
      | inl e ↦ e.0
      | inr e ↦ let no : ⊥ = omega (arith, e.1, size, lt) in absurd no
    ]

-- the first bytes of a list, with those right after them, are its first bytes, as many as both
take_on : (xs : List ℕ) (w n : ℕ) → take w xs ++ take n (drop w xs) ≡ take (w + n) xs
take_on xs w n =
    let front : w ≤ w + n = omega arith in
    ap (λ l. l ++ take n (drop w xs)) (sym (take-take w (w + n) xs front))
    ∙ ap (λ l. take w (take (w + n) xs) ++ l) (sym (drop-take w n xs)) ∙ take-append-drop w (take (w + n) xs)

-- a part of a page is copied after what was copied before
pub another_copied : (T P N out more : List ℕ) (at from done m : ℕ) → length P ≡ 4096 → from + m ≤ 4096
    → drop from (P ++ N) ≡ drop (at + done) T → take done out ≡ take done (drop at T)
    → more ≡ take done out ++ take m (drop from P) → more ≡ take (done + m) (drop at T)
another_copied T P N out more at from done m size fits e before is =
    let low : from ≤ length P = omega (arith, size, fits) in
    let few : m ≤ length (drop from P) = omega (arith, length-drop from P, size, fits) in
    let here : take m (drop from P) ≡ take m (drop done (drop at T)) =
    sym (take-append-le m (drop from P) N few) ∙ ap (λ l. take m l) (sym (drop-append-le from P N low) ∙ e ∙ sym (drop-drop done at T)) in
    is ∙ ap (λ l. l ++ take m (drop from P)) before ∙ ap (λ l. take done (drop at T) ++ l) here ∙ take_on (drop at T) done m

-- where bytes of a text fill the rest of a page, the text goes on at the next page's first byte
pub next_text : (T P N : List ℕ) (at from done m : ℕ) → length P ≡ 4096 → from + m ≡ 4096 → drop from (P ++ N) ≡ drop (at + done) T
    → drop 0 N ≡ drop (at + (done + m)) T
next_text T P N at from done m size full e =
    let whole : length P ≡ from + m = omega (arith, size, full) in
    let on : at + done + m ≡ at + (done + m) = omega arith in
    sym (drop_at P N (from + m) whole) ∙ sym (drop-drop m from (P ++ N)) ∙ ap (λ l. drop m l) e ∙ drop-drop m (at + done) T
    ∙ ap (λ k. drop k T) on

-- bytes on a page that is filled in part
pub first_page : (D page piece rest : List ℕ) (at used : ℕ) → length D + used ≡ at → used ≤ length page
    → take (at + length piece) (D ++ (take used page ++ (piece ++ rest))) ≡ take at (D ++ page) ++ piece
first_page D page piece rest at used e low =
    let front = D ++ take used page in
    let size : length front ≡ at = omega (arith, length-append D (take used page), length-take used page, low, e) in
    let ends : length (front ++ piece) ≡ at + length piece = omega (arith, length-append front piece, size) in
    let split : D ++ page ≡ front ++ drop used page =
    ap (λ l. D ++ l) (sym (take-append-drop used page)) ∙ sym (append_assoc D (take used page) (drop used page)) in
    ap (λ l. take (at + length piece) l) (sym (append_assoc D (take used page) (piece ++ rest)) ∙ sym (append_assoc front piece rest))
    ∙ take_at (front ++ piece) rest (at + length piece) ends
    ∙ ap (λ l. l ++ piece) (sym (take_at front (drop used page) at size) ∙ ap (λ l. take at l) (sym split))

-- the bytes are as many in either order
pub length_down : (ps : List (List ℕ)) → length (down_of ps) ≡ length (text_of ps)
length_down [] = refl
length_down (p ∷ ps) = omega (arith, length-append (down_of ps) p, length-append p (text_of ps), length_down ps)

-- the last of some first pages, and what lies before it
pub before_last : (D N P : List ℕ) (R n : ℕ) → length N ≡ n → n ≤ R → N ++ P ≡ take R D → N ≡ take n D
before_last D N P R n size le e = sym (take_at N P n size) ∙ ap (λ l. take n l) e ∙ take-take n R D le

-- bytes on the last of some first pages are those of the whole text at their place
on_last_page : (D N P : List ℕ) (R p n j : ℕ) → N ++ P ≡ take R D → p ≡ length N + j → p + n ≤ R → take n (drop j P) ≡ take n (drop p D)
on_last_page D N P R p n j e at le =
    let rest = R - (p + n) in
    let whole : R ≡ p + (n + rest) = omega (arith, le) in
    let few : n ≤ n + rest = omega arith in
    ap (λ l. take n l)
    (sym (drop-append-add N P j) ∙ ap (λ k. drop k (N ++ P)) (sym at) ∙ ap (λ l. drop p l) e
    ∙ ap (λ k. drop p (take k D)) whole ∙ drop-take p (n + rest) D)
    ∙ take-take n (n + rest) (drop p D) few

-- a part of a page is copied before what was copied already
pub copied_before : (D N P out done : List ℕ) (R at todo left m j n : ℕ) → N ++ P ≡ take R D → left + n ≡ todo → todo ≤ m
    → at + left ≡ length N + j → at + todo ≤ R
    → done ≡ take (m - todo) (drop (at + todo) D) → out ≡ take n (drop j P) ++ done → out ≡ take (m - left) (drop (at + left) D)
copied_before D N P out done R at todo left m j n e parts most place within before is =
    let X = drop (at + left) D in
    let on : at + left + n ≡ at + todo = omega (arith, parts) in
    let more : n + (m - todo) ≡ m - left = omega (arith, parts, most) in
    let low : at + left + n ≤ R = omega (arith, parts, within) in
    let behind : drop (at + todo) D ≡ drop n X = sym (drop-drop n (at + left) D ∙ ap (λ k. drop k D) on) in
    is ∙ ap (λ l. l ++ done) (on_last_page D N P R (at + left) n j e place low)
    ∙ ap (λ l. take n X ++ l) (before ∙ ap (λ l. take (m - todo) l) behind)
    ∙ take_on X n (m - todo) ∙ ap (λ k. take k X) more

-- what is added to the pages after the first ones is added to all
pub joined : (F old new more : List ℕ) (at before n : ℕ) → length F ≡ before → before ≤ at
    → take (at - before + n) new ≡ take (at - before) old ++ more → take (at + n) (F ++ new) ≡ take at (F ++ old) ++ more
joined F old new more at before n size le e =
    let a = at - before in
    let long : at + n ≡ length F + (a + n) = omega (arith, size, le) in
    let short : at ≡ length F + a = omega (arith, size, le) in
    ap (λ k. take k (F ++ new)) long ∙ take-append-add F new (a + n) ∙ ap (λ l. F ++ l) e ∙ sym (append_assoc F (take a old) more)
    ∙ ap (λ l. l ++ more) (sym (ap (λ k. take k (F ++ old)) short ∙ take-append-add F old a))

-- bytes are copied from the first pages as far as they reach, and then from those after them
pub both_parts : (F B : List ℕ) (at some m : ℕ) → at ≤ length F → some ≡ min (length F - at) m
    → take some (drop at F) ++ take (m - some) B ≡ take m (drop at (F ++ B))
both_parts F B at some m le least =
    let X = drop at F in
    let size : length X ≡ length F - at = length-drop at F in
    let all : drop at (F ++ B) ≡ X ++ B = drop-append-le at F B le in
    elim (leb_tells m (length F - at)) [
      | inl e ↦
          let few : m ≤ length X = omega (arith, size, e.1) in
          let is : some ≡ m = omega (arith, least, e.1) in
          let none : m - some ≡ 0 = omega (arith, is) in
          ap (λ k. take k X ++ take (m - some) B) is ∙ ap (λ k. take m X ++ take k B) none ∙ append-nil (take m X)
          ∙ sym (take-append-le m X B few) ∙ ap (λ l. take m l) (sym all)
      | inr e ↦
          let is : some ≡ length X = omega (arith, least, size, e.1) in
          let long : m ≡ length X + (m - some) = omega (arith, is, size, least, e.1) in
          let whole : take some X ≡ X = take_all some X (omega (arith, is)) in
          ap (λ l. l ++ take (m - some) B) whole ∙ sym (take-append-add X B (m - some)) ∙ ap (λ k. take k (X ++ B)) (sym long)
          ∙ ap (λ l. take m l) (sym all)
    ]
