-- How a reader finds `ieof` in an extension.
use Rattle.std.proofs.Common.{◌≡◌, ℕ, Bool, true, false, ◌||◌, ◌&&◌, List, [], ◌∷◌, ◌++◌, map, reverse, refl, sym, ap, ◌∙◌, if◌then◌else◌}
use Rattle.std.proofs.Common.{◌==◌, eqb-true, bytes_eq, codes}
use Rattle.std.specs.List.{list_any, onto_first}
use Rattle.std.specs.Char.{to_ascii_lowercase}
use Rattle.std.specs.Str.{str_eq_ignore_ascii_case}
use Rattle.std.proofs.lemmas.List.{reverse-append}
use Rattle.icap_chunks.specs.declared.extension.Item.{Item}
use Rattle.icap_chunks.specs.declared.extension.Item.TheVariants.{Blank, I, Ie, Ieo, Ieof, Other}
use Rattle.adapt_bytes.specs.Text.{is_blank, skip_blanks, trim}
use Rattle.icap_chunks.specs.Grammar.{items, is_ieof}
use Rattle.icap_chunks.proofs.Standing.{extension_with, extension_behind}
use Rattle.icap_chunks.specs.Machine as machine

-- the item after these bytes
abbrev pub item_behind : Item → List ℕ → Item
item_behind i [] = i
item_behind i (b ∷ bytes) = item_behind (machine.item_with i b) bytes

abbrev tells : Item → List ℕ → Bool
tells i bytes = machine.is_word (item_behind i bytes)

-- an item that is another word stays so, whatever bytes come
other : (bytes : List ℕ) → tells Other bytes ≡ false
unfolding machine.item_with machine.is_word
other [] = refl
other (b ∷ bytes) = other bytes

-- a byte before a text without blanks at its end; the byte is a blank, or it isn't
abbrev kept : Bool → ℕ → List ℕ → List ℕ
kept blank b [] = if blank then [] else b ∷ []
kept blank b (c ∷ text) = b ∷ (c ∷ text)

-- the text without the blanks at its end
abbrev trimmed_end : List ℕ → List ℕ
trimmed_end [] = []
trimmed_end (b ∷ text) = kept (is_blank b) b (trimmed_end text)

-- before a text with one or more bytes, a byte is kept, blank or not
kept_last : (blank : Bool) (b : ℕ) (text : List ℕ) (c : ℕ) → kept blank b (text ++ c ∷ []) ≡ b ∷ (text ++ c ∷ [])
kept_last blank b [] c = refl
kept_last blank b (x ∷ text) c = refl

-- a text turned round without its first blanks is its last byte and the others so turned, unless all are blanks
skip_last : (text : List ℕ) (b : ℕ) → reverse (skip_blanks (text ++ b ∷ [])) ≡ kept (is_blank b) b (reverse (skip_blanks text))
skip_last [] b = by_test (is_blank b)
  where
    by_test : (t : Bool) → reverse (if t then [] else b ∷ []) ≡ (if t then [] else b ∷ [])
    by_test true = refl
    by_test false = refl
skip_last (c ∷ text) b = by_test (is_blank c) (skip_last text b)
  where
    turned : reverse (c ∷ text) ≡ reverse text ++ c ∷ []
    turned = reverse-append (c ∷ []) text

    whole : reverse ((c ∷ text) ++ b ∷ []) ≡ kept (is_blank b) b (reverse (c ∷ text))
    whole = reverse-append (c ∷ text) (b ∷ []) ∙ ap (λ x. b ∷ x) turned ∙ sym (kept_last (is_blank b) b (reverse text) c)
        ∙ ap (kept (is_blank b) b) (sym turned)

    by_test : (t : Bool) → reverse (skip_blanks (text ++ b ∷ [])) ≡ kept (is_blank b) b (reverse (skip_blanks text))
        → reverse (if t then skip_blanks (text ++ b ∷ []) else c ∷ (text ++ b ∷ []))
        ≡ kept (is_blank b) b (reverse (if t then skip_blanks text else c ∷ text))
    by_test true h = h
    by_test false h = whole

-- a text turned round, without its first blanks, and turned back has lost the blanks at its end
trimmed_end_is : (text : List ℕ) → reverse (skip_blanks (reverse text)) ≡ trimmed_end text
trimmed_end_is [] = refl
trimmed_end_is (b ∷ text) = ap (λ x. reverse (skip_blanks x)) (reverse-append (b ∷ []) text) ∙ skip_last (reverse text) b
    ∙ ap (kept (is_blank b) b) (trimmed_end_is text)

-- the text spells the lower-case word, with any blanks at its end
abbrev spells : List ℕ → List ℕ → Bool
spells word text = bytes_eq (map to_ascii_lowercase (trimmed_end text)) word

-- after `ieof`, an item is the word just where only blanks follow
behind_ieof : (bytes : List ℕ) → tells Ieof bytes ≡ spells [] bytes
unfolding machine.item_with machine.is_word
behind_ieof [] = refl
behind_ieof (b ∷ bytes) = by_test (is_blank b) (trimmed_end bytes) (behind_ieof bytes)
  where
    by_test : (t : Bool) (rest : List ℕ) → tells Ieof bytes ≡ bytes_eq (map to_ascii_lowercase rest) []
        → tells (if t then Ieof else Other) bytes ≡ bytes_eq (map to_ascii_lowercase (kept t b rest)) []
    by_test true [] h = h
    by_test true (c ∷ rest) h = h
    by_test false [] h = other bytes
    by_test false (c ∷ rest) h = other bytes

-- a letter isn't a blank
abbrev IsNoBlank : ℕ → Type 0
IsNoBlank letter = (b : ℕ) → is_blank b ≡ true → (to_ascii_lowercase b == letter) ≡ false

-- a letter that is neither a space nor a tab is no blank
no_blank : (letter : ℕ) → (to_ascii_lowercase 32 == letter) ≡ false → (to_ascii_lowercase 9 == letter) ≡ false → IsNoBlank letter
no_blank letter space tab b h = by_test (b == 32) refl h
  where
    by_test : (t : Bool) → (b == 32) ≡ t → (t || b == 9) ≡ true → (to_ascii_lowercase b == letter) ≡ false
    by_test true e k = ap (λ x. to_ascii_lowercase x == letter) (eqb-true b 32 e) ∙ space
    by_test false e k = ap (λ x. to_ascii_lowercase x == letter) (eqb-true b 9 k) ∙ tab

-- one letter of the word, and what comes after it
letter_then : (letter : ℕ) (word : List ℕ) (next : Item) (b : ℕ) (bytes : List ℕ) → IsNoBlank letter → tells next bytes ≡ spells word bytes
    → tells (if to_ascii_lowercase b == letter then next else Other) bytes ≡ spells (letter ∷ word) (b ∷ bytes)
letter_then letter word next b bytes apart behind = by_rest (is_blank b) (trimmed_end bytes) (apart b) behind
  where
    chosen : (t x : Bool) → tells next bytes ≡ x → tells (if t then next else Other) bytes ≡ (t && x)
    chosen true x h = h
    chosen false x h = other bytes

    by_rest : (t : Bool) (rest : List ℕ) → (t ≡ true → (to_ascii_lowercase b == letter) ≡ false)
        → tells next bytes ≡ bytes_eq (map to_ascii_lowercase rest) word
        → tells (if to_ascii_lowercase b == letter then next else Other) bytes
        ≡ bytes_eq (map to_ascii_lowercase (kept t b rest)) (letter ∷ word)
    by_rest true [] never h = ap (λ x. tells (if x then next else Other) bytes) (never refl) ∙ other bytes
    by_rest true (c ∷ rest) never h = chosen (to_ascii_lowercase b == letter) _ h
    by_rest false [] never h = chosen (to_ascii_lowercase b == letter) _ h
    by_rest false (c ∷ rest) never h = chosen (to_ascii_lowercase b == letter) _ h

-- after `ieo`, an item is the word just where `f`, in either case, follows, with any blanks at its end
behind_ieo : (bytes : List ℕ) → tells Ieo bytes ≡ spells (codes "f") bytes
unfolding machine.item_with machine.is_word
behind_ieo [] = refl
behind_ieo (b ∷ bytes) = letter_then 102 [] Ieof b bytes (no_blank 102 refl refl) (behind_ieof bytes)

-- after `ie`, an item is the word just where `of`, in either case, follows, with any blanks at its end
behind_ie : (bytes : List ℕ) → tells Ie bytes ≡ spells (codes "of") bytes
unfolding machine.item_with machine.is_word
behind_ie [] = refl
behind_ie (b ∷ bytes) = letter_then 111 (codes "f") Ieo b bytes (no_blank 111 refl refl) (behind_ieo bytes)

-- after `i`, an item is the word just where `eof`, in either case, follows, with any blanks at its end
behind_i : (bytes : List ℕ) → tells I bytes ≡ spells (codes "eof") bytes
unfolding machine.item_with machine.is_word
behind_i [] = refl
behind_i (b ∷ bytes) = letter_then 101 (codes "of") Ie b bytes (no_blank 101 refl refl) (behind_ie bytes)

-- an item is the word just where `ieof`, in either case, follows its first blanks, with any blanks at its end
behind_blanks : (bytes : List ℕ) → tells Blank bytes ≡ spells (codes "ieof") (skip_blanks bytes)
unfolding machine.item_with machine.is_word
behind_blanks [] = refl
behind_blanks (b ∷ bytes) = by_test (is_blank b) (behind_blanks bytes) (letter_then 105 (codes "eof") I b bytes (no_blank 105 refl refl)
    (behind_i bytes))
  where
    by_test : (t : Bool) → tells Blank bytes ≡ spells (codes "ieof") (skip_blanks bytes)
        → tells (if to_ascii_lowercase b == 105 then I else Other) bytes ≡ spells (codes "ieof") (b ∷ bytes)
        → tells (if t then Blank else (if to_ascii_lowercase b == 105 then I else Other)) bytes
        ≡ spells (codes "ieof") (if t then skip_blanks bytes else b ∷ bytes)
    by_test true p q = p
    by_test false p q = q

-- an item is `ieof` where the reader has found it so
item_found : (bytes : List ℕ) → tells Blank bytes ≡ is_ieof bytes
unfolding trim
item_found bytes = behind_blanks bytes ∙ ap (λ x. str_eq_ignore_ascii_case x (codes "ieof")) (sym (trimmed_end_is (skip_blanks bytes)))

-- what is kept of two lists of bytes is what the second makes of what is kept of the first
pub extension_behind-append : (s : Item × Bool) (xs ys : List ℕ)
    → extension_behind s (xs ++ ys) ≡ extension_behind (extension_behind s xs) ys
extension_behind-append s [] ys = refl
extension_behind-append s (x ∷ xs) ys = extension_behind-append (extension_with s x) xs ys

-- the answer where the text ends here
abbrev pub answer : Item × Bool → Bool
answer s = s.1 || machine.is_word s.0

-- the first part goes on from the item, and the others stand for themselves
abbrev any_from : Item → List (List ℕ) → Bool
any_from i [] = tells i []
any_from i (part ∷ parts) = tells i part || list_any is_ieof parts

-- whether one of three tests holds is the same however they are grouped
or_assoc : (a b c : Bool) → ((a || b) || c) ≡ (a || (b || c))
or_assoc true b c = refl
or_assoc false b c = refl

-- a test, or one that fails, is that test
or_false : (a : Bool) → (a || false) ≡ a
or_false true = refl
or_false false = refl

-- items, the first of them from its start, have the word just where one is `ieof`
any_from_blank : (parts : List (List ℕ)) → any_from Blank parts ≡ list_any is_ieof parts
unfolding machine.is_word
any_from_blank [] = refl
any_from_blank (part ∷ parts) = ap (λ x. x || list_any is_ieof parts) (item_found part)

-- a byte put before the first of some items is one that the reader has read of it
any_from-onto_first : (i : Item) (b : ℕ) (parts : List (List ℕ)) → any_from i (onto_first b parts) ≡ any_from (machine.item_with i b) parts
any_from-onto_first i b [] = or_false (tells i (b ∷ []))
any_from-onto_first i b (part ∷ parts) = refl

-- with more of an extension, `ieof` is found where it was before, or where the item begun or a later one is it
pub answer_behind : (s : Item × Bool) (text : List ℕ) → answer (extension_behind s text) ≡ (s.1 || any_from s.0 (items text))
answer_behind s [] = ap (λ x. s.1 || x) (sym (or_false (machine.is_word s.0)))
answer_behind s (b ∷ text) = by_byte (b == 59) s b text (answer_behind (Blank, s.1 || machine.is_word s.0) text)
    (answer_behind (machine.item_with s.0 b, s.1) text)
  where
    by_byte : (t : Bool) (s : Item × Bool) (b : ℕ) (text : List ℕ)
        → answer (extension_behind (Blank, s.1 || machine.is_word s.0) text) ≡ ((s.1 || machine.is_word s.0) || any_from Blank (items text))
        → answer (extension_behind (machine.item_with s.0 b, s.1) text) ≡ (s.1 || any_from (machine.item_with s.0 b) (items text))
        → answer (extension_behind (if t then (Blank, s.1 || machine.is_word s.0) else (machine.item_with s.0 b, s.1)) text)
        ≡ (s.1 || any_from s.0 (if t then [] ∷ items text else onto_first b (items text)))
    by_byte true s b text p q = p ∙ or_assoc s.1 (machine.is_word s.0) _
        ∙ ap (λ x. s.1 || (machine.is_word s.0 || x)) (any_from_blank (items text))
    by_byte false s b text p q = q ∙ ap (λ x. s.1 || x) (sym (any_from-onto_first s.0 b (items text)))

-- a reader has found `ieof` in an extension just where it has such an item
pub extension_found : (text : List ℕ) → answer (extension_behind (Blank, false) text) ≡ list_any is_ieof (items text)
extension_found text = answer_behind (Blank, false) text ∙ any_from_blank (items text)
