-- Folds change no length, and what follows a head changes nothing in it.
use Rattle.std.proofs.Common.{◌≡◌, ◌≢◌, ℕ, suc, ◌+◌, ◌-◌, ◌<◌, ◌≤◌, ◌⊎◌, inl, inr, Bool, true, false, List, [], ◌∷◌, ◌++◌, length, take}
use Rattle.std.proofs.Common.{drop, get_or, refl, sym, ap, ap₂, ◌∙◌, subst, arith, rules, codes, append_assoc, append-nil, length-append}
use Rattle.std.proofs.Common.{length-take, length-take-le, take-append-drop, take_all, nat_lt, if◌then◌else◌, eqb, All}
use Rattle.std.specs.List.{flat_map}
use Rattle.std.proofs.lemmas.Bool.{cases_lt, cases_eq, ne_eqb}
use Rattle.std.proofs.lemmas.List.{take_more, take-append-le, take-take, take_at, get_or_at, append_cancel_left}
use Rattle.adapt_bytes.specs.Text.{Lacks, is_blank}
use Rattle.adapt_bytes.specs.Fields.{FieldList}
use Rattle.httparse.specs.Grammar.{LineEnd, crlf, lf, print_end, Field as Line, print_field, IsField, print_section, IsToken, is_token_byte}
use Rattle.httparse.specs.Grammar.{is_value_byte, AllPass}
use Rattle.icap_head.specs.declared.folds.HeadByte.{HeadByte}
use Rattle.icap_head.specs.declared.folds.HeadByte.TheVariants as bytes
use Rattle.icap_head.specs.declared.folds.HeadPlace.{HeadPlace}
use Rattle.icap_head.specs.declared.folds.HeadPlace.TheVariants.{StartLine, LineStart, BareReturn, Text, Return, Feed, ReturnFeed, Over}
use Rattle.icap_head.specs.Folds.{head_byte, place_after, held, is_held, settled, added, place_behind, all_added, unfolded}
use Rattle.icap_head.specs.declared.reading.HeadFault.{HeadFault}
use Rattle.icap_head.specs.declared.reading.HeadFault.TheVariants.{More}
use Rattle.icap_head.specs.Heads.{ReadsHead, HasHead, RefusesIcapHead}
use Rattle.icap_head.proofs.Follows.{fault_stays, front_is_more}
use Rattle.icap_head.proofs.Readings.{has_head-append}
use Rattle.icap_head.proofs.Sections.{longer_front}

-- ---- texts one after the other

-- the place after two texts is the one that the second leads to from the place after the first
pub place-append : (p : HeadPlace) (xs ys : List ℕ) → place_behind p (xs ++ ys) ≡ place_behind (place_behind p xs) ys
place-append p [] ys = refl
place-append p (x ∷ xs) ys = place-append (place_after p (head_byte x)) xs ys

-- two texts together add what the first does and then what the second does from the place after it
pub added-append : (p : HeadPlace) (xs ys : List ℕ) → all_added p (xs ++ ys) ≡ all_added p xs ++ all_added (place_behind p xs) ys
added-append p [] ys = refl
added-append p (x ∷ xs) ys =
    let q = place_after p (head_byte x) in
    ap (λ t. added p x ++ t) (added-append q xs ys) ∙ sym (append_assoc (added p x) (all_added q xs) (all_added (place_behind q xs) ys))

-- ---- lengths

-- what one byte adds, with what is held after it, is a byte longer than what was held before
one_length : (p : HeadPlace) (k : HeadByte) (b : ℕ)
    → length (if is_held (place_after p k) then [] else settled p k ++ b ∷ []) + length (held (place_after p k)) ≡ length (held p) + 1
one_length StartLine bytes.Feed b = refl
one_length StartLine k b = refl
one_length LineStart bytes.Feed b = refl
one_length LineStart bytes.Return b = refl
one_length LineStart k b = refl
one_length BareReturn bytes.Feed b = refl
one_length BareReturn k b = refl
one_length Text bytes.Feed b = refl
one_length Text bytes.Return b = refl
one_length Text k b = refl
one_length Return bytes.Feed b = refl
one_length Return k b = refl
one_length Feed bytes.Feed b = refl
one_length Feed bytes.Return b = refl
one_length Feed bytes.Blank b = refl
one_length Feed k b = refl
one_length ReturnFeed bytes.Feed b = refl
one_length ReturnFeed bytes.Return b = refl
one_length ReturnFeed bytes.Blank b = refl
one_length ReturnFeed k b = refl
one_length Over k b = refl

-- what bytes add, with what is held after them, is as long as they and what was held before
pub lengths : (p : HeadPlace) (xs : List ℕ) → length (all_added p xs) + length (held (place_behind p xs)) ≡ length (held p) + length xs
lengths p [] = omega arith
lengths p (x ∷ xs) =
    let q = place_after p (head_byte x) in
    let one = one_length p (head_byte x) x in
    let rest = lengths q xs in
    omega (arith, one, rest, length-append (added p x) (all_added q xs))

-- what stands for a held line end is as long
pub settled_length : (p : HeadPlace) (k : HeadByte) → length (settled p k) ≡ length (held p)
settled_length StartLine k = refl
settled_length LineStart k = refl
settled_length BareReturn k = refl
settled_length Text k = refl
settled_length Return k = refl
settled_length Feed bytes.Blank = refl
settled_length Feed k = refl
settled_length ReturnFeed bytes.Blank = refl
settled_length ReturnFeed k = refl
settled_length Over k = refl

-- with one byte more
pub place_more : (p : HeadPlace) (xs : List ℕ) (k : ℕ) → k < length xs
    → place_behind p (take (k + 1) xs) ≡ place_after (place_behind p (take k xs)) (head_byte (get_or xs k 0))
place_more p xs k l = ap (place_behind p) (take_more xs k 0 l) ∙ place-append p (take k xs) (get_or xs k 0 ∷ [])

-- a prefix longer by a byte adds what the shorter one adds, and then what that byte adds at the place after it
pub added_more : (p : HeadPlace) (xs : List ℕ) (k : ℕ) → k < length xs
    → all_added p (take (k + 1) xs) ≡ all_added p (take k xs) ++ added (place_behind p (take k xs)) (get_or xs k 0)
added_more p xs k l =
    ap (all_added p) (take_more xs k 0 l) ∙ added-append p (take k xs) (get_or xs k 0 ∷ [])
    ∙ ap (λ t. all_added p (take k xs) ++ t) (append-nil (added (place_behind p (take k xs)) (get_or xs k 0)))

-- ---- the judged bytes

-- what is read of a text below 16,384 bytes is what its bytes add
pub unfolded_short : (text : List ℕ) → length text < 16384 → unfolded text ≡ all_added StartLine text
unfolding unfolded
unfolded_short text short =
    let is : nat_lt (length text) 16384 ≡ true = search rules in
    let all = take_all 16384 text (omega arith) in
    rw (is, all) (append-nil (all_added StartLine text))

-- of 16,384 bytes or more, what the first 16,384 add is read, and the line end that is held after them
pub unfolded_long : (text : List ℕ) → 16384 ≤ length text
    → unfolded text ≡ all_added StartLine (take 16384 text) ++ held (place_behind StartLine (take 16384 text))
unfolding unfolded
unfolded_long text long = let is : nat_lt (length text) 16384 ≡ false = search rules in rw is refl

-- as many bytes of a text, or fewer by those of a line end
pub unfolded_length : (text : List ℕ) → length (unfolded text) ≤ length text
unfolded_length text =
    elim (cases_lt (length text) 16384) [
      | inl short ↦
          let e = ap length (unfolded_short text short) in
          let n = lengths StartLine text in
          omega (arith, e, n)
      | inr long ↦
          let seen = take 16384 text in
          let e = ap length (unfolded_long text long) in
          let n = lengths StartLine seen in
          let sum = length-append (all_added StartLine seen) (held (place_behind StartLine seen)) in
          omega (arith, e, n, sum, length-take 16384 text)
    ]

-- of a text of 16,384 bytes or more, 16,384 bytes are read
pub long_length : (text : List ℕ) → 16384 ≤ length text → length (unfolded text) ≡ 16384
long_length text long =
    let seen = take 16384 text in
    let e = ap length (unfolded_long text long) in
    let n = lengths StartLine seen in
    let sum = length-append (all_added StartLine seen) (held (place_behind StartLine seen)) in
    omega (arith, e, n, sum, length-take-le 16384 text long)

-- ---- what follows

-- of a short text, what more bytes add to it
pub more_added : List ℕ → List ℕ → List ℕ
more_added text more = all_added (place_behind StartLine text) (take (16384 - length text) more)
    ++ (if nat_lt (length (text ++ more)) 16384 then [] else held (place_behind StartLine (take 16384 (text ++ more))))

-- a prefix past the end of a text is the text and a prefix of what follows
take_both : (n : ℕ) (text more : List ℕ) → length text ≤ n → take n (text ++ more) ≡ text ++ take (n - length text) more
take_both n text more short =
    let sum : n ≡ length text + (n - length text) = omega (arith, short) in
    ap (λ k. take k (text ++ more)) sum ∙ take_past text more (n - length text)
  where
    take_past : (xs ys : List ℕ) (k : ℕ) → take (length xs + k) (xs ++ ys) ≡ xs ++ take k ys
    take_past [] ys k = let none : 0 + k ≡ k = omega arith in ap (λ j. take j ys) none
    take_past (x ∷ xs) ys k =
        let one : length (x ∷ xs) + k ≡ suc (length xs + k) = omega arith in
        ap (λ j. take j (x ∷ (xs ++ ys))) one ∙ ap (λ t. x ∷ t) (take_past xs ys k)

-- more bytes change nothing in what is read of a short text, and what they add comes after it
pub short_more : (text more : List ℕ) → length text < 16384 → unfolded (text ++ more) ≡ unfolded text ++ more_added text more
unfolding unfolded more_added
short_more text more short =
    let seen : take 16384 (text ++ more) ≡ text ++ take (16384 - length text) more = take_both 16384 text more (omega (arith, short)) in
    let rest = if nat_lt (length (text ++ more)) 16384 then [] else held (place_behind StartLine (take 16384 (text ++ more))) in
    let here = unfolded_short text short in
    ap (λ t. all_added StartLine t ++ rest) seen
    ∙ ap (λ t. t ++ rest) (added-append StartLine text (take (16384 - length text) more))
    ∙ append_assoc (all_added StartLine text) (all_added (place_behind StartLine text) (take (16384 - length text) more)) rest
    ∙ ap (λ t. t ++ more_added text more) (sym here)

-- bytes after a text of 16,384 or more change nothing in what is read of it
pub long_more : (text more : List ℕ) → 16384 ≤ length text → unfolded (text ++ more) ≡ unfolded text
long_more text more long =
    let same = take-append-le 16384 text more long in
    let len = length-append text more in
    unfolded_long (text ++ more) (omega (arith, len, long)) ∙ ap (λ t. all_added StartLine t ++ held (place_behind StartLine t)) same
    ∙ sym (unfolded_long text long)

-- what is read of a text is read of it whatever follows
pub unfolded_more : (text more : List ℕ) → (rest : List ℕ) × (unfolded (text ++ more) ≡ unfolded text ++ rest)
unfolded_more text more = elim (cases_lt (length text) 16384) [
  | inl short ↦ (more_added text more, short_more text more short)
  | inr long ↦ ([], long_more text more long ∙ sym (append-nil (unfolded text)))
]

-- ---- a head without folds stays as it is

-- a byte that is no LF, and one that is no CR either
no_feed_byte : (b : ℕ) → b ≢ 10 → (head_byte b ≡ bytes.Return) ⊎ ((head_byte b ≡ bytes.Blank) ⊎ (head_byte b ≡ bytes.Other))
no_feed_byte b no_feed =
    let off : eqb b 10 ≡ false = ne_eqb b 10 no_feed in
    rw off (by_return (eqb b 13) (is_blank b))
  where
    by_blank : (q : Bool) → ((if q then bytes.Blank else bytes.Other) ≡ bytes.Return)
        ⊎ (((if q then bytes.Blank else bytes.Other) ≡ bytes.Blank) ⊎ ((if q then bytes.Blank else bytes.Other) ≡ bytes.Other))
    by_blank true = inr (inl refl)
    by_blank false = inr (inr refl)

    by_return : (p q : Bool) → ((if p then bytes.Return else (if q then bytes.Blank else bytes.Other)) ≡ bytes.Return)
        ⊎ (((if p then bytes.Return else (if q then bytes.Blank else bytes.Other)) ≡ bytes.Blank)
        ⊎ ((if p then bytes.Return else (if q then bytes.Blank else bytes.Other)) ≡ bytes.Other))
    by_return true q = inl refl
    by_return false q = by_blank q

-- a byte that is neither CR nor LF counts as a blank or as any other
line_byte : (b : ℕ) → b ≢ 10 → b ≢ 13 → (head_byte b ≡ bytes.Blank) ⊎ (head_byte b ≡ bytes.Other)
line_byte b no_feed no_return = elim (no_feed_byte b no_feed) [
  | inl is ↦ absurd (no_return_kind is)
  | inr is ↦ is
]
  where
    no_return_kind : head_byte b ≡ bytes.Return → ⊥
    no_return_kind =
        let off : eqb b 10 ≡ false = ne_eqb b 10 no_feed in
        let none : eqb b 13 ≡ false = ne_eqb b 13 no_return in
        rw (off, none) (by_blank (is_blank b))
      where
        by_blank : (q : Bool) → (if q then bytes.Blank else bytes.Other) ≡ bytes.Return → ⊥
        by_blank true e = cc
        by_blank false e = cc

-- a byte that is neither CR nor LF nor blank counts as any other
name_byte : (b : ℕ) → b ≢ 10 → b ≢ 13 → is_blank b ≡ false → head_byte b ≡ bytes.Other
name_byte b no_feed no_return no_blank =
    let off : eqb b 10 ≡ false = ne_eqb b 10 no_feed in
    let none : eqb b 13 ≡ false = ne_eqb b 13 no_return in
    rw (off, none, no_blank) refl

-- the bytes lead from one place to another, and leave, with the line end that is held, what there was before them and them
pub record Passes (p q : HeadPlace) (xs : List ℕ) : Type 0 where
  pub place : place_behind p xs ≡ q
  pub adds : all_added p xs ++ held q ≡ held p ++ xs

-- two texts that each pass unchanged, the second from where the first leads, pass so together
passes_then : (p q r : HeadPlace) (xs ys : List ℕ) → Passes p q xs → Passes q r ys → Passes p r (xs ++ ys)
passes_then p q r xs ys f g = record {
  place = place-append p xs ys ∙ ap (λ a. place_behind a ys) f.place ∙ g.place;
  adds = ap (λ t. t ++ held r) (added-append p xs ys ∙ ap (λ a. all_added p xs ++ all_added a ys) f.place)
      ∙ append_assoc (all_added p xs) (all_added q ys) (held r) ∙ ap (λ t. all_added p xs ++ t) g.adds
      ∙ sym (append_assoc (all_added p xs) (held q) ys) ∙ ap (λ t. t ++ ys) f.adds ∙ append_assoc (held p) xs ys;
}

-- an empty text passes unchanged, and the place stays the same
passes_none : (p : HeadPlace) → Passes p p []
passes_none p = record { place = refl; adds = sym (append-nil (held p)) }

-- a byte within a line that is neither CR nor LF stays in the line unchanged
text_byte : (b : ℕ) → b ≢ 10 → b ≢ 13 → Passes Text Text (b ∷ [])
text_byte b no_feed no_return = elim (line_byte b no_feed no_return) [
  | inl is ↦ record { place = rw is refl; adds = rw is refl }
  | inr is ↦ record { place = rw is refl; adds = rw is refl }
]

-- bytes of the start line without LF stay in it unchanged
start_line : (raw : List ℕ) → Lacks 10 raw → Passes StartLine StartLine raw
start_line [] lacks = passes_none StartLine
start_line (b ∷ raw) lacks =
    passes_then StartLine StartLine StartLine (b ∷ []) raw (one (no_feed_byte b (lacks 0 (omega arith))))
    (start_line raw (λ k inside is. lacks (suc k) (omega arith) is))
  where
    one : (head_byte b ≡ bytes.Return) ⊎ ((head_byte b ≡ bytes.Blank) ⊎ (head_byte b ≡ bytes.Other)) → Passes StartLine StartLine (b ∷ [])
    one (inl is) = record { place = rw is refl; adds = rw is refl }
    one (inr (inl is)) = record { place = rw is refl; adds = rw is refl }
    one (inr (inr is)) = record { place = rw is refl; adds = rw is refl }

-- a text within a line that has neither CR nor LF stays in the line unchanged
in_text : (xs : List ℕ) → Lacks 10 xs → Lacks 13 xs → Passes Text Text xs
in_text [] feed return_lacks = passes_none Text
in_text (b ∷ xs) feeds returns =
    passes_then Text Text Text (b ∷ []) xs (text_byte b (feeds 0 (omega arith)) (returns 0 (omega arith)))
    (in_text xs (λ k inside is. feeds (suc k) (omega arith) is) (λ k inside is. returns (suc k) (omega arith) is))

-- a line may begin here
abbrev MayBegin : HeadPlace → Type 0
MayBegin p = (p ≡ LineStart) ⊎ ((p ≡ Feed) ⊎ (p ≡ ReturnFeed))

-- a line's first byte
first_byte : (p : HeadPlace) (b : ℕ) → MayBegin p → head_byte b ≡ bytes.Other → Passes p Text (b ∷ [])
first_byte p b (inl e) is = let P : HeadPlace → Type 0 = λ q. Passes q Text (b ∷ []) in
    subst P (sym e) (record { place = rw is refl; adds = rw is refl })
first_byte p b (inr (inl e)) is = let P : HeadPlace → Type 0 = λ q. Passes q Text (b ∷ []) in
    subst P (sym e) (record { place = rw is refl; adds = rw is refl })
first_byte p b (inr (inr e)) is = let P : HeadPlace → Type 0 = λ q. Passes q Text (b ∷ []) in
    subst P (sym e) (record { place = rw is refl; adds = rw is refl })

-- false isn't true
false_true : false ≡ true → ⊥
false_true e = cc

-- an LF is no byte of a field's name
feed_no_name : is_token_byte 10 ≡ false
unfolding is_token_byte
feed_no_name = refl

-- a CR is no byte of a field's name
return_no_name : is_token_byte 13 ≡ false
unfolding is_token_byte
return_no_name = refl

-- a space is no byte of a field's name
space_no_name : is_token_byte 32 ≡ false
unfolding is_token_byte
space_no_name = refl

-- a tab is no byte of a field's name
tab_no_name : is_token_byte 9 ≡ false
unfolding is_token_byte
tab_no_name = refl

-- a byte of a token is another than one that is no byte of a token
no_name : (b c : ℕ) → is_token_byte b ≡ true → is_token_byte c ≡ false → b ≢ c
no_name b c is none e = false_true (sym none ∙ ap is_token_byte (sym e) ∙ is)

-- a byte of a token is neither CR nor LF nor blank
token_byte : (b : ℕ) → is_token_byte b ≡ true → head_byte b ≡ bytes.Other
token_byte b is =
    let space : eqb b 32 ≡ false = ne_eqb b 32 (no_name b 32 is space_no_name) in
    let tab : eqb b 9 ≡ false = ne_eqb b 9 (no_name b 9 is tab_no_name) in
    name_byte b (no_name b 10 is feed_no_name) (no_name b 13 is return_no_name) (rw (space, tab) refl)

-- the bytes pass the test, and none of them is this one
lacks_by : (test : ℕ → Bool) (c : ℕ) (xs : List ℕ) → test c ≡ false → AllPass test xs → Lacks c xs
lacks_by test c xs none pass k inside is = false_true (sym none ∙ ap test (sym is) ∙ pass k 0 inside)

-- a field line
field_passes : (p : HeadPlace) (f : Line) → MayBegin p → IsField f → (q : HeadPlace) × MayBegin q × Passes p q (print_field f)
field_passes p f at h =
    let found = cut f.name h.name in
    let P : List ℕ → Type 0 = λ t. Passes p found.0 t in
    (found.0, found.1, subst P (sym (append_assoc f.name (58 ∷ f.raw) (print_end f.end))) found.2)
  where
    ends : (e : LineEnd) → (q : HeadPlace) × MayBegin q × Passes Text q (print_end e)
    ends crlf = (ReturnFeed, inr (inr refl), record { place = refl; adds = refl })
    ends lf = (Feed, inr (inl refl), record { place = refl; adds = refl })

    cut : (name : List ℕ) → IsToken name → (q : HeadPlace) × MayBegin q × Passes p q (name ++ 58 ∷ (f.raw ++ print_end f.end))
    cut [] token = absurd (omega (arith, token.0))
    cut (b ∷ name) token =
        let rest = ends f.end in
        let one = first_byte p b at (token_byte b (token.1 0 0 (omega arith))) in
        let pass : AllPass is_token_byte name = λ k d inside. token.1 (suc k) d (omega arith) in
        let more = in_text name (lacks_by is_token_byte 10 name feed_no_name pass) (lacks_by is_token_byte 13 name return_no_name pass) in
        let colon : Passes Text Text (58 ∷ []) = record { place = refl; adds = refl } in
        let value = in_text f.raw (lacks_by is_value_byte 10 f.raw refl h.raw) (lacks_by is_value_byte 13 f.raw refl h.raw) in (
          rest.0,
          rest.1,
          passes_then p Text rest.0 (b ∷ []) (name ++ 58 ∷ (f.raw ++ print_end f.end)) one
              (passes_then Text Text rest.0 name (58 ∷ (f.raw ++ print_end f.end)) more
              (passes_then Text Text rest.0 (58 ∷ []) (f.raw ++ print_end f.end) colon
              (passes_then Text Text rest.0 f.raw (print_end f.end) value rest.2))),
        )

-- valid field lines pass unchanged from a place where a line may begin to another such place
fields_pass : (p : HeadPlace) (fields : List Line) → MayBegin p → All IsField fields
    → (q : HeadPlace) × MayBegin q × Passes p q (flat_map print_field fields)
fields_pass p [] at all = (p, at, passes_none p)
fields_pass p (f ∷ fields) at all =
    let one = field_passes p f at (all 0 f (omega arith)) in
    let rest = fields_pass one.0 fields one.1 (λ k d inside. all (suc k) d (omega arith)) in
    (rest.0, rest.1, passes_then p one.0 rest.0 (print_field f) (flat_map print_field fields) one.2 rest.2)

-- the empty line
last_passes : (p : HeadPlace) (last : LineEnd) → MayBegin p → Passes p Over (print_end last)
last_passes p crlf (inl e) = let P : HeadPlace → Type 0 = λ q. Passes q Over (13 ∷ 10 ∷ []) in
    subst P (sym e) (record { place = refl; adds = refl })
last_passes p crlf (inr (inl e)) = let P : HeadPlace → Type 0 = λ q. Passes q Over (13 ∷ 10 ∷ []) in
    subst P (sym e) (record { place = refl; adds = refl })
last_passes p crlf (inr (inr e)) = let P : HeadPlace → Type 0 = λ q. Passes q Over (13 ∷ 10 ∷ []) in
    subst P (sym e) (record { place = refl; adds = refl })
last_passes p lf (inl e) = let P : HeadPlace → Type 0 = λ q. Passes q Over (10 ∷ []) in
    subst P (sym e) (record { place = refl; adds = refl })
last_passes p lf (inr (inl e)) = let P : HeadPlace → Type 0 = λ q. Passes q Over (10 ∷ []) in
    subst P (sym e) (record { place = refl; adds = refl })
last_passes p lf (inr (inr e)) = let P : HeadPlace → Type 0 = λ q. Passes q Over (10 ∷ []) in
    subst P (sym e) (record { place = refl; adds = refl })

-- a whole head
pub head_passes : (S : List ℕ → Type 0) (head : List ℕ) (fields : FieldList) → ReadsHead S head fields [] → Passes StartLine Over head
head_passes S head fields h =
    let s = h.section in
    let lines = flat_map print_field s.0 in
    let feed : Passes StartLine LineStart (10 ∷ []) = record { place = refl; adds = refl } in
    let all = fields_pass LineStart s.0 (inl refl) s.2.0 in
    let last = last_passes all.0 s.1 all.1 in
    let P : List ℕ → Type 0 = λ t. Passes StartLine Over t in
    let behind : h.behind ≡ lines ++ print_end s.1 = s.2.1 ∙ append-nil (print_section s.0 s.1) in
    subst P (sym (h.first.cut ∙ ap (λ t. h.first.raw ++ 10 ∷ t) behind))
    (passes_then StartLine StartLine Over h.first.raw (10 ∷ (lines ++ print_end s.1)) (start_line h.first.raw h.first.no_feed)
    (passes_then StartLine LineStart Over (10 ∷ []) (lines ++ print_end s.1) feed
    (passes_then LineStart all.0 Over lines (print_end s.1) all.2 last)))

-- and so it stays where others follow
pub head_stays : (S : List ℕ → Type 0) (text : List ℕ) (fields : FieldList) (n : ℕ) → HasHead S text fields n
    → HasHead S (unfolded text) fields n
head_stays S text fields n h =
    let head = take n text in
    let size = length-take-le n text h.inside in
    let passes = head_passes S head fields h.head in
    let same : unfolded head ≡ head = elim (cases_lt n 16384) [
      | inl short ↦ unfolded_short head (omega (arith, short, size)) ∙ sym (append-nil (all_added StartLine head)) ∙ passes.adds
      | inr long ↦
          let all = take_all 16384 head (omega (arith, size, h.within)) in
          unfolded_long head (omega (arith, long, size)) ∙ ap (λ t. all_added StartLine t ++ held (place_behind StartLine t)) all
          ∙ ap (λ q. all_added StartLine head ++ held q) passes.place ∙ passes.adds
    ] in
    let rest = unfolded_more head (drop n text) in
    let whole : unfolded text ≡ head ++ rest.0 = ap unfolded (sym (take-append-drop n text)) ∙ rest.1 ∙ ap (λ t. t ++ rest.0) same in
    let len = ap length whole in
    let front : take n (unfolded text) ≡ head = ap (take n) whole ∙ take_at head rest.0 n size in
    record {
      inside = omega (arith, len, size, length-append head rest.0);
      within = h.within;
      few = h.few;
      head = subst (λ t. ReadsHead S t fields []) (sym front) h.head;
    }

-- ---- a head is read of its own bytes alone

-- the place after what was added, with nothing held
free : HeadPlace → HeadPlace
free Return = Text
free Feed = Text
free ReturnFeed = Text
free StartLine = StartLine
free LineStart = LineStart
free BareReturn = BareReturn
free Text = Text
free Over = Over

-- what one byte adds leads to the place after that byte, with nothing held
one_free : (p : HeadPlace) (k : HeadByte) (b : ℕ) → head_byte b ≡ k
    → place_behind (free p) (if is_held (place_after p k) then [] else settled p k ++ b ∷ []) ≡ free (place_after p k)
unfolding free
one_free StartLine bytes.Feed b e = rw e refl
one_free StartLine bytes.Return b e = rw e refl
one_free StartLine bytes.Blank b e = rw e refl
one_free StartLine bytes.Other b e = rw e refl
one_free LineStart bytes.Feed b e = rw e refl
one_free LineStart bytes.Return b e = rw e refl
one_free LineStart bytes.Blank b e = rw e refl
one_free LineStart bytes.Other b e = rw e refl
one_free BareReturn bytes.Feed b e = rw e refl
one_free BareReturn bytes.Return b e = rw e refl
one_free BareReturn bytes.Blank b e = rw e refl
one_free BareReturn bytes.Other b e = rw e refl
one_free Text bytes.Feed b e = refl
one_free Text bytes.Return b e = refl
one_free Text bytes.Blank b e = rw e refl
one_free Text bytes.Other b e = rw e refl
one_free Return bytes.Feed b e = refl
one_free Return bytes.Return b e = rw e refl
one_free Return bytes.Blank b e = rw e refl
one_free Return bytes.Other b e = rw e refl
one_free Feed bytes.Feed b e = rw e refl
one_free Feed bytes.Return b e = rw e refl
one_free Feed bytes.Blank b e = rw e refl
one_free Feed bytes.Other b e = rw e refl
one_free ReturnFeed bytes.Feed b e = rw e refl
one_free ReturnFeed bytes.Return b e = rw e refl
one_free ReturnFeed bytes.Blank b e = rw e refl
one_free ReturnFeed bytes.Other b e = rw e refl
one_free Over bytes.Feed b e = refl
one_free Over bytes.Return b e = refl
one_free Over bytes.Blank b e = refl
one_free Over bytes.Other b e = refl

-- what was added leads where the bytes did
all_free : (p : HeadPlace) (xs : List ℕ) → place_behind (free p) (all_added p xs) ≡ free (place_behind p xs)
all_free p [] = refl
all_free p (x ∷ xs) =
    let q = place_after p (head_byte x) in
    place-append (free p) (added p x) (all_added q xs) ∙ ap (λ a. place_behind a (all_added q xs)) (one_free p (head_byte x) x refl)
    ∙ all_free q xs

-- within a line one byte isn't the end of the head, and two are only if the first is an LF
text_one : (k : HeadByte) → place_after Text k ≡ Over → ⊥
text_one bytes.Feed e = cc
text_one bytes.Return e = cc
text_one bytes.Blank e = cc
text_one bytes.Other e = cc

-- two bytes within a line don't end the head where the first is no LF
text_two : (j k : HeadByte) → (j ≡ bytes.Feed → ⊥) → place_after (place_after Text j) k ≡ Over → ⊥
text_two bytes.Feed k other e = other refl
text_two bytes.Return bytes.Feed other e = cc
text_two bytes.Return bytes.Return other e = cc
text_two bytes.Return bytes.Blank other e = cc
text_two bytes.Return bytes.Other other e = cc
text_two bytes.Blank k other e = text_one k e
text_two bytes.Other k other e = text_one k e

-- what is read for a held CR LF and the byte after it doesn't begin with an LF
no_first_feed : (b : ℕ) (rest : List ℕ) (k : HeadByte) → head_byte b ≡ k → (x : ℕ) (tail : List ℕ)
    → (settled ReturnFeed k ++ b ∷ []) ++ rest ≡ x ∷ tail → head_byte x ≡ bytes.Feed → ⊥
no_first_feed b rest bytes.Blank e x tail cut is = let same : x ≡ 32 = cc in let P : ℕ → Type 0 = λ y. head_byte y ≡ bytes.Feed in
    let now : head_byte 32 ≡ bytes.Feed = subst P same is in cc
no_first_feed b rest bytes.Feed e x tail cut is = let same : x ≡ 13 = cc in let P : ℕ → Type 0 = λ y. head_byte y ≡ bytes.Feed in
    let now : head_byte 13 ≡ bytes.Feed = subst P same is in cc
no_first_feed b rest bytes.Return e x tail cut is = let same : x ≡ 13 = cc in let P : ℕ → Type 0 = λ y. head_byte y ≡ bytes.Feed in
    let now : head_byte 13 ≡ bytes.Feed = subst P same is in cc
no_first_feed b rest bytes.Other e x tail cut is = let same : x ≡ 13 = cc in let P : ℕ → Type 0 = λ y. head_byte y ≡ bytes.Feed in
    let now : head_byte 13 ≡ bytes.Feed = subst P same is in cc

-- no line end is held after the byte that follows a CR LF
return_feed_goes_on : (k : HeadByte) → is_held (place_after ReturnFeed k) ≡ false
return_feed_goes_on bytes.Feed = refl
return_feed_goes_on bytes.Return = refl
return_feed_goes_on bytes.Blank = refl
return_feed_goes_on bytes.Other = refl

-- the bytes after a held line end don't end the head within what it holds
held_goes_on : (p : HeadPlace) (d q tail flush : List ℕ) → all_added p d ++ flush ≡ q ++ tail → (d ≡ [] → flush ≡ [])
    → 0 < length (held p) → length q ≡ length (held p) → place_behind (free p) q ≡ Over → ⊥
unfolding free
held_goes_on Return d (x ∷ []) tail flush e none some size over = text_one (head_byte x) over
held_goes_on Feed d (x ∷ []) tail flush e none some size over = text_one (head_byte x) over
held_goes_on ReturnFeed [] (x ∷ y ∷ []) tail flush e none some size over = let nothing = none refl in let n = ap length (sym nothing ∙ e) in
    omega (arith, n)
held_goes_on ReturnFeed (b ∷ d) (x ∷ y ∷ []) tail flush e none some size over =
    let going = return_feed_goes_on (head_byte b) in
    let one : added ReturnFeed b ≡ settled ReturnFeed (head_byte b) ++ b ∷ [] = rw going refl in
    let after = place_after ReturnFeed (head_byte b) in
    let cut = ap (λ t. t ++ (all_added after d ++ flush)) (sym one) ∙ sym (append_assoc (added ReturnFeed b) (all_added after d) flush)
    ∙ e in
    text_two (head_byte x) (head_byte y) (no_first_feed b (all_added after d ++ flush) (head_byte b) refl x (y ∷ tail) cut) over
held_goes_on p d q tail flush e none some size over = absurd (omega (arith, some, size))

-- a text of no bytes is empty
empty : (xs : List ℕ) → length xs ≤ 0 → xs ≡ []
empty [] none = refl
empty (x ∷ xs) none = absurd (omega arith)

-- the test finds a number less that is less
less_true : (a b : ℕ) → a < b → nat_lt a b ≡ true
less_true a b less = search rules

-- what is before the end of a head isn't held
nothing_held : (S : List ℕ → Type 0) (text : List ℕ) (fields : FieldList) (n : ℕ) → HasHead S (unfolded text) fields n → n < 16384
    → held (place_behind StartLine (take n text)) ≡ []
unfolding more_added free
nothing_held S text fields n h short =
    let head = take n text in
    let more = drop n text in
    let p = place_behind StartLine head in
    let size = length-take-le n text (omega (arith, h.inside, unfolded_length text)) in
    let sum = lengths StartLine head in
    let none : length (held StartLine) ≡ 0 = refl in
    let d = take (16384 - length head) more in
    let flush = if nat_lt (length (head ++ more)) 16384 then [] else held (place_behind StartLine (take 16384 (head ++ more))) in
    let fits : length head < 16384 = omega (arith, size, short) in
    let cut : unfolded text ≡ all_added StartLine head ++ (all_added p d ++ flush) =
    ap unfolded (sym (take-append-drop n text)) ∙ short_more head more fits
    ∙ ap (λ t. t ++ (all_added p d ++ flush)) (unfolded_short head fits) in
    elim (cases_lt 0 (length (held p))) [
      | inr free_end ↦ empty (held p) free_end
      | inl some ↦
          let front = take n (unfolded text) in
          let tail = drop n (unfolded text) in
          let size_is = length-take-le n (unfolded text) h.inside in
          let parts = longer_front front tail (all_added StartLine head) (all_added p d ++ flush) (take-append-drop n (unfolded text) ∙ cut)
          (omega (arith, size_is, sum, size, none)) in
          let q = parts.0 in
          let passes = head_passes S front fields h.head in
          let over : place_behind (free p) q ≡ Over =
          ap (λ a. place_behind a q) (sym (all_free StartLine head)) ∙ sym (place-append StartLine (all_added StartLine head) q)
          ∙ ap (place_behind StartLine) (sym parts.1) ∙ passes.place in
          let long = ap length parts.1 in
          let rest : all_added p d ++ flush ≡ q ++ tail =
          append_cancel_left (all_added StartLine head) (all_added p d ++ flush) (q ++ tail)
          (sym cut ∙ sym (take-append-drop n (unfolded text)) ∙ ap (λ t. t ++ tail) parts.1
          ∙ append_assoc (all_added StartLine head) q tail) in
          let nothing_more : d ≡ [] → flush ≡ [] = λ e.
          let few = ap length e in
          let cut_size = length-take (16384 - length head) more in
          let all = length-append head more in
          let is : nat_lt (length (head ++ more)) 16384 ≡ true =
          less_true (length (head ++ more)) 16384 (omega (arith, all, few, cut_size, size, short)) in
          rw is refl in
          absurd (held_goes_on p d q tail flush rest nothing_more some (omega
          (arith, long, size_is, sum, size, none, length-append (all_added StartLine head) q)) over)
    ]

-- of a text that begins with a head, its bytes alone give the same
pub head_alone : (S : List ℕ → Type 0) (text : List ℕ) (fields : FieldList) (n : ℕ) → HasHead S (unfolded text) fields n
    → all_added StartLine (take n text) ++ held (place_behind StartLine (take n text)) ≡ take n (unfolded text)
head_alone S text fields n h =
    let head = take n text in
    let p = place_behind StartLine head in
    let inside : n ≤ length text = omega (arith, h.inside, unfolded_length text) in
    let size = length-take-le n text inside in
    elim (cases_lt n 16384) [
      | inr limit ↦
          let is : n ≡ 16384 = omega (arith, limit, h.within) in
          let long : 16384 ≤ length text = omega (arith, is, inside) in
          let all : take n (unfolded text) ≡ unfolded text = take_all n (unfolded text) (omega (arith, is, long_length text long)) in
          sym (all ∙ unfolded_long text long ∙ ap (λ k. all_added StartLine (take k text) ++ held (place_behind StartLine (take k text)))
          (sym is))
      | inl short ↦
          let nothing = nothing_held S text fields n h short in
          let fits : length head < 16384 = omega (arith, size, short) in
          let rest = unfolded_more head (drop n text) in
          let cut : unfolded text ≡ all_added StartLine head ++ rest.0 =
          ap unfolded (sym (take-append-drop n text)) ∙ rest.1 ∙ ap (λ t. t ++ rest.0) (unfolded_short head fits) in
          let sum = lengths StartLine head in
          let none : length (held StartLine) ≡ 0 = refl in
          let zero_held = ap length nothing in
          ap (λ t. all_added StartLine head ++ t) nothing ∙ append-nil (all_added StartLine head)
          ∙ sym (ap (take n) cut ∙ take_at (all_added StartLine head) rest.0 n (omega (arith, sum, size, none, zero_held)))
    ]

-- so they are that head
pub front_alone : (S : List ℕ → Type 0) (text : List ℕ) (fields : FieldList) (n : ℕ) → HasHead S (unfolded text) fields n
    → unfolded (take n text) ≡ take n (unfolded text)
front_alone S text fields n h =
    let head = take n text in
    let size = length-take-le n text (omega (arith, h.inside, unfolded_length text)) in
    let alone = head_alone S text fields n h in
    elim (cases_lt n 16384) [
      | inr limit ↦
          let all = take_all 16384 head (omega (arith, size, h.within)) in
          unfolded_long head (omega (arith, limit, size)) ∙ ap (λ t. all_added StartLine t ++ held (place_behind StartLine t)) all ∙ alone
      | inl short ↦
          let nothing = nothing_held S text fields n h short in
          unfolded_short head (omega (arith, size, short)) ∙ sym (append-nil (all_added StartLine head))
          ∙ ap (λ t. all_added StartLine head ++ t) (sym nothing) ∙ alone
    ]

-- the bytes of a head alone, without folds, begin with that head
pub head_of_front : (S : List ℕ → Type 0) (text : List ℕ) (fields : FieldList) (n : ℕ) → HasHead S (unfolded text) fields n
    → HasHead S (unfolded (take n text)) fields n
head_of_front S text fields n h =
    let same = front_alone S text fields n h in
    let len = ap length same in
    let size = length-take-le n (unfolded text) h.inside in
    record {
      inside = omega (arith, len, size);
      within = h.within;
      few = h.few;
      head = subst (λ t. ReadsHead S t fields []) (sym (ap (take n) same ∙ take-take n n (unfolded text) (omega arith))) h.head;
    }

-- a text that begins with a head, without folds, does so with more bytes after it
pub has_folded-append : (S : List ℕ → Type 0) (text more : List ℕ) (fields : FieldList) (n : ℕ) → HasHead S (unfolded text) fields n
    → HasHead S (unfolded (text ++ more)) fields n
has_folded-append S text more fields n h =
    let rest = unfolded_more text more in
    let P : List ℕ → Type 0 = λ t. HasHead S t fields n in
    subst P (sym rest.1) (has_head-append S (unfolded text) rest.0 fields n h)

-- and any longer prefix of the text begins with it
pub in_front : (S : List ℕ → Type 0) (text : List ℕ) (fields : FieldList) (n k : ℕ) → n ≤ k → HasHead S (unfolded text) fields n
    → HasHead S (unfolded (take k text)) fields n
in_front S text fields n k less h =
    let front = take k text in
    let P : List ℕ → Type 0 = λ t. HasHead S (unfolded t) fields n in
    let whole : take n text ++ drop n front ≡ front =
    ap (λ t. t ++ drop n front) (sym (take-take n k text less)) ∙ take-append-drop n front in
    subst P whole (has_folded-append S (take n text) (drop n front) fields n (head_of_front S text fields n h))

-- ---- a head ends in LF

-- a byte that counts as an LF is an LF
feed_is : (b : ℕ) → head_byte b ≡ bytes.Feed → b ≡ 10
feed_is b e = elim (cases_eq b 10) [
  | inl is ↦ is
  | inr other ↦ elim (no_feed_byte b other) [
    | inl is ↦ absurd (let bad : bytes.Return ≡ bytes.Feed = sym is ∙ e in cc)
    | inr (inl is) ↦ absurd (let bad : bytes.Blank ≡ bytes.Feed = sym is ∙ e in cc)
    | inr (inr is) ↦ absurd (let bad : bytes.Other ≡ bytes.Feed = sym is ∙ e in cc)
  ]
]

-- a byte that counts as a CR is a CR
return_is : (b : ℕ) → head_byte b ≡ bytes.Return → b ≡ 13
return_is b e = elim (cases_eq b 13) [
  | inl is ↦ is
  | inr other ↦ elim (cases_eq b 10) [
    | inl feed ↦ absurd (let on : head_byte b ≡ bytes.Feed = ap head_byte feed in let bad : bytes.Feed ≡ bytes.Return = sym on ∙ e in cc)
    | inr no_feed ↦ elim (line_byte b no_feed other) [
      | inl is ↦ absurd (let bad : bytes.Blank ≡ bytes.Return = sym is ∙ e in cc)
      | inr is ↦ absurd (let bad : bytes.Other ≡ bytes.Return = sym is ∙ e in cc)
    ]
  ]
]

-- what is added, with what is held, ends in the last byte
one_last : (p : HeadPlace) (b : ℕ) (k : HeadByte) → head_byte b ≡ k
    → (front : List ℕ) × ((if is_held (place_after p k) then [] else settled p k ++ b ∷ []) ++ held (place_after p k) ≡ front ++ b ∷ [])
one_last StartLine b bytes.Feed e = ([], refl)
one_last StartLine b k e = ([], refl)
one_last LineStart b bytes.Feed e = ([], refl)
one_last LineStart b bytes.Return e = ([], refl)
one_last LineStart b k e = ([], refl)
one_last BareReturn b bytes.Feed e = ([], refl)
one_last BareReturn b k e = ([], refl)
one_last Text b bytes.Feed e = ([], ap (λ c. c ∷ []) (sym (feed_is b e)))
one_last Text b bytes.Return e = ([], ap (λ c. c ∷ []) (sym (return_is b e)))
one_last Text b k e = ([], refl)
one_last Return b bytes.Feed e = (13 ∷ [], ap (λ c. 13 ∷ c ∷ []) (sym (feed_is b e)))
one_last Return b k e = (13 ∷ [], refl)
one_last Feed b bytes.Feed e = (10 ∷ [], refl)
one_last Feed b bytes.Return e = (10 ∷ [], refl)
one_last Feed b bytes.Blank e = (32 ∷ [], refl)
one_last Feed b k e = (10 ∷ [], refl)
one_last ReturnFeed b bytes.Feed e = (13 ∷ 10 ∷ [], refl)
one_last ReturnFeed b bytes.Return e = (13 ∷ 10 ∷ [], refl)
one_last ReturnFeed b bytes.Blank e = (32 ∷ 32 ∷ [], refl)
one_last ReturnFeed b k e = (13 ∷ 10 ∷ [], refl)
one_last Over b k e = ([], refl)

-- what a text adds, with what is held after it, ends in the last byte of the text
all_last : (p : HeadPlace) (init : List ℕ) (b : ℕ) → (front : List ℕ) ×
    (all_added p (init ++ b ∷ []) ++ held (place_behind p (init ++ b ∷ [])) ≡ front ++ b ∷ [])
all_last p init b =
    let q = place_behind p init in
    let k = head_byte b in
    let one = one_last q b k refl in
    let place : place_behind p (init ++ b ∷ []) ≡ place_after q k = place-append p init (b ∷ []) in (
      all_added p init ++ one.0,
      ap₂ (λ t a. t ++ held a) (added-append p init (b ∷ []) ∙ ap (λ t. all_added p init ++ t) (append-nil (added q b))) place
          ∙ append_assoc (all_added p init) (added q b) (held (place_after q k)) ∙ ap (λ t. all_added p init ++ t) one.1
          ∙ sym (append_assoc (all_added p init) one.0 (b ∷ [])),
    )

-- a text of one byte or more is some bytes and then a last one
last_of : (xs : List ℕ) → 0 < length xs → (init : List ℕ) × (b : ℕ) × (xs ≡ init ++ b ∷ [])
last_of [] some = absurd (omega (arith, some))
last_of (x ∷ []) some = ([], x, refl)
last_of (x ∷ y ∷ xs) some = let rest = last_of (y ∷ xs) (omega arith) in (x ∷ rest.0, rest.1, ap (λ t. x ∷ t) rest.2)

-- equal texts have the same last byte
same_last : (xs ys : List ℕ) (a b : ℕ) → xs ++ a ∷ [] ≡ ys ++ b ∷ [] → a ≡ b
same_last xs ys a b e =
    let n = ap length e in
    let long : length xs ≡ length ys = omega (arith, n, length-append xs (a ∷ []), length-append ys (b ∷ [])) in
    sym (get_or_at xs a [] 0 (length xs) refl) ∙ ap (λ t. get_or t (length xs) 0) e ∙ get_or_at ys b [] 0 (length xs) (sym long)

-- a text that is a whole head ends in an LF
reads_ends : (S : List ℕ → Type 0) (text : List ℕ) (fields : FieldList) → ReadsHead S text fields []
    → (front : List ℕ) × (text ≡ front ++ 10 ∷ [])
reads_ends S text fields h =
    let s = h.section in
    let end = end_feed s.1 in
    let lines = flat_map print_field s.0 in
    let raw = h.first.raw in (
      raw ++ 10 ∷ (lines ++ end.0),
      h.first.cut ∙ (ap (λ t. raw ++ 10 ∷ t) (s.2.1 ∙ (append-nil (print_section s.0 s.1)
          ∙ (ap (λ t. lines ++ t) end.1 ∙ sym (append_assoc lines end.0 (10 ∷ [])))))
          ∙ sym (append_assoc raw (10 ∷ (lines ++ end.0)) (10 ∷ []))),
    )
  where
    end_feed : (last : LineEnd) → (front : List ℕ) × (print_end last ≡ front ++ 10 ∷ [])
    end_feed crlf = (13 ∷ [], refl)
    end_feed lf = ([], refl)

-- the bytes of a head, folds and all, end in an LF
pub head_ends : (S : List ℕ → Type 0) (text : List ℕ) (fields : FieldList) (n : ℕ) → HasHead S (unfolded text) fields n
    → (front : List ℕ) × (take n text ≡ front ++ 10 ∷ [])
head_ends S text fields n h =
    let head = take n text in
    let size = length-take-le n text (omega (arith, h.inside, unfolded_length text)) in
    let front_size = length-take-le n (unfolded text) h.inside in
    let ends = reads_ends S (take n (unfolded text)) fields h.head in
    let some = ap length ends.1 in
    let cut = last_of head (omega (arith, size, front_size, some, length-append ends.0 (10 ∷ []))) in
    let whole = all_last StartLine cut.0 cut.1 in
    let same : cut.1 ≡ 10 = same_last whole.0 ends.0 cut.1 10
    (sym whole.1 ∙ ap (λ t. all_added StartLine t ++ held (place_behind StartLine t)) (sym cut.2) ∙ head_alone S text fields n h
    ∙ ends.1) in
    (cut.0, cut.2 ∙ ap (λ b. cut.0 ++ b ∷ []) same)

-- ---- faults

-- a fault but More of a text without its folds stands whatever bytes follow
pub folded_fault_stays : (Form : List ℕ → List ℕ → Type 0) (fault : HeadFault) (text more : List ℕ) → fault ≢ More
    → RefusesIcapHead Form fault (unfolded text) → RefusesIcapHead Form fault (unfolded (text ++ more))
folded_fault_stays Form fault text more other s =
    let rest = unfolded_more text more in
    let P : List ℕ → Type 0 = λ t. RefusesIcapHead Form fault t in
    subst P (sym rest.1) (fault_stays Form fault (unfolded text) rest.0 other s)

-- fewer bytes of a text than its head has want more, once their folds are read
pub folded_front_is_more : (Form : List ℕ → List ℕ → Type 0) (S : List ℕ → Type 0)
    → ((line : List ℕ) → S line → Form (codes "ICAP/1.0") line)
    → (text : List ℕ) (fields : FieldList) (size n : ℕ) → HasHead S (unfolded text) fields size → n < size
    → RefusesIcapHead Form More (unfolded (take n text))
folded_front_is_more Form S forms text fields size n h less =
    let front = take n text in
    let rest = unfolded_more front (drop n text) in
    let whole : unfolded text ≡ unfolded front ++ rest.0 = ap unfolded (sym (take-append-drop n text)) ∙ rest.1 in
    let k = length (unfolded front) in
    let few = unfolded_length front in
    let cut = length-take n text in
    let same : take k (unfolded text) ≡ unfolded front = ap (take k) whole ∙ take_at (unfolded front) rest.0 k refl in
    let P : List ℕ → Type 0 = λ t. RefusesIcapHead Form More t in
    subst P same (front_is_more Form S forms (unfolded text) fields size k h (omega (arith, few, cut, less)))

-- a head that isn't whole is shorter than the limit
pub folded_more_is_short : (text : List ℕ) → length (unfolded text) < 16384 → length text < 16384
folded_more_is_short text short = elim (cases_lt (length text) 16384) [
  | inl less ↦ less
  | inr long ↦ let n = long_length text long in absurd (omega (arith, n, short))
]
