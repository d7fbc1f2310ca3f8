-- Each text has an answer: a layout, or a fault that stands.
use Rattle.std.proofs.Common.{◌≡◌, ◌≢◌, ℕ, zero, suc, ◌^◌, ◌<◌, ◌⊎◌, inl, inr, Bool, true, false, List, [], ◌∷◌, ◌++◌, length, map, refl}
use Rattle.std.proofs.Common.{sym, ap, ◌∙◌, subst, arith, All, IsTrue, bytes_eq}
use Rattle.std.proofs.lemmas.Bool.{ltb-true, lt-ltb}
use Rattle.std.proofs.lemmas.Bool.Decides.{eqb_tells}
use Rattle.std.proofs.lemmas.List.Sums.{AllPass-from_list_all, list_all-from_AllPass}
use Rattle.std.proofs.lemmas.Slice.Eq.{bytes_eq-Decides}
use Rattle.std.proofs.Math.Dec.{ltb, eqb}
use Rattle.std.specs.Char.{to_ascii_lowercase, digit_value}
use Rattle.std.specs.List.{AllZip, list_all}
use Rattle.std.specs.Str.Parse.{AllDigits, digits_value}
use Rattle.adapt_bytes.specs.Text.{IsToken, Lacks, is_token_byte, comma_parts}
use Rattle.adapt_bytes.proofs.Cuts.{first_cut}
use Rattle.encapsulated.specs.Grammar.{IsItem, IsPart, AreItems, AreParts, name_of}
use Rattle.encapsulated.specs.declared.parts.Part.{Part}
use Rattle.encapsulated.proofs.ItemLemmas.{no_eq, no_item, item_unique}
use Rattle.encapsulated.proofs.OneAnswer.{part_of_name, named_so}

-- P is known to hold, or known to fail
abbrev pub Known : Type 0 → Type 0
Known P = P ⊎ ¬ P

-- what a test tells exactly is known to hold, or known to fail
from_test : (P : Type 0) (t : Bool) → (t ≡ true → P) → (P → t ≡ true) → Known P
from_test P true holds passes = inl (holds refl)
from_test P false holds passes = inr (λ p. let wrong : false ≡ true = passes p in absurd (cc))

-- where each of two is known to hold or to fail, so are both together
both_known : (P Q : Type 0) → Known P → Known Q → Known (P × Q)
both_known P Q (inl p) (inl q) = inl (p, q)
both_known P Q (inl p) (inr q) = inr (λ h. q h.1)
both_known P Q (inr p) q = inr (λ h. p h.0)

-- it is known whether a number is below another
pub lt_known : (a b : ℕ) → Known (a < b)
lt_known a b = from_test (a < b) (ltb a b) (ltb-true a b) (lt-ltb a b)

-- it is known whether all bytes of a text are decimal digits
digits_known : (ds : List ℕ) → Known (AllDigits 10 ds)
digits_known [] = inl tt
digits_known (d ∷ ds) = both_known (digit_value d < 10) (AllDigits 10 ds) (lt_known (digit_value d) 10) (digits_known ds)

-- it is known whether a name is a token
token_known : (name : List ℕ) → Known (IsToken name)
token_known name =
    both_known (0 < length name) (All (λ b. IsTrue (is_token_byte b)) name) (lt_known 0 (length name))
    (from_test (All (λ b. IsTrue (is_token_byte b)) name) (list_all is_token_byte name) (AllPass-from_list_all is_token_byte name)
    (list_all-from_AllPass is_token_byte name))

-- what is before and after the first c
abbrev CutAt : ℕ → List ℕ → Type 0
CutAt c text = (front : List ℕ) × (behind : List ℕ) × Lacks c front × (text ≡ front ++ c ∷ behind)

-- a text that lacks a byte lacks it also with a different byte before it
lacks_more : (c b : ℕ) (text : List ℕ) → b ≢ c → Lacks c text → Lacks c (b ∷ text)
lacks_more c b text other lacks zero inside is = other is
lacks_more c b text other lacks (suc k) inside is = lacks k (omega arith) is

-- where a text is cut at the first place of a byte or lacks that byte, the same holds with one more byte before the text
cut_step : (c b : ℕ) (text : List ℕ) → ((eqb b c ≡ true) × (b ≡ c)) ⊎ ((eqb b c ≡ false) × (b ≢ c)) → CutAt c text ⊎ Lacks c text
    → CutAt c (b ∷ text) ⊎ Lacks c (b ∷ text)
cut_step c b text (inl same) rest = inl ([], text, λ k inside is. absurd (omega arith), ap (λ x. x ∷ text) same.1)
cut_step c b text (inr other) (inl cut) = inl (b ∷ cut.0, cut.1, lacks_more c b cut.0 other.1 cut.2, ap (λ x. b ∷ x) cut.3)
cut_step c b text (inr other) (inr lacks) = inr (lacks_more c b text other.1 lacks)

-- each text is cut at the first place of a given byte, or lacks that byte
cut_or_lacks : (c : ℕ) (text : List ℕ) → CutAt c text ⊎ Lacks c text
cut_or_lacks c [] = inr (λ k inside is. absurd (omega arith))
cut_or_lacks c (b ∷ text) = cut_step c b text (eqb_tells b c) (cut_or_lacks c text)

abbrev SomeItem : List ℕ → Type 0
SomeItem text = (item : List ℕ × ℕ) × IsItem text item.0 item.1

-- what an item asks of its parts
abbrev GoodParts : List ℕ → List ℕ → Type 0
GoodParts name digits = IsToken name × ((0 < length digits) × (AllDigits 10 digits × (digits_value 10 digits < 2 ^ 64)))

-- it is known whether a name and digits are what an item asks of its parts
good_known : (name digits : List ℕ) → Known (GoodParts name digits)
good_known name digits =
    both_known (IsToken name) ((0 < length digits) × (AllDigits 10 digits × (digits_value 10 digits < 2 ^ 64))) (token_known name)
    (both_known (0 < length digits) (AllDigits 10 digits × (digits_value 10 digits < 2 ^ 64)) (lt_known 0 (length digits))
    (both_known (AllDigits 10 digits) (digits_value 10 digits < 2 ^ 64) (digits_known digits) (lt_known (digits_value 10 digits) (2 ^ 64))))

-- it is known whether a text that is cut at its first equals sign is an item, where it is known whether its two parts are good
cut_item : (text front behind : List ℕ) → Lacks 61 front → text ≡ front ++ 61 ∷ behind → Known (GoodParts front behind)
    → Known (SomeItem text)
cut_item text front behind lacks cut (inl good) = inl (
  (front, digits_value 10 behind),
  record {
    digits = behind;
    text_is = cut;
    token = good.0;
    number = record { digits = (good.1.0, good.1.1.0); value = refl };
    fits = good.1.1.1;
  },
)
cut_item text front behind lacks cut (inr bad) = inr (λ h.
    let same = first_cut 61 h.0.0 front h.1.digits behind (no_eq h.0.0 h.1.token) lacks (sym h.1.text_is ∙ cut) in
    let digits = subst (λ ds. (0 < length ds) × AllDigits 10 ds) same.1 h.1.number.digits in
    let value : digits_value 10 behind ≡ h.0.1 = ap (digits_value 10) (sym same.1) ∙ h.1.number.value in
    bad (subst IsToken same.0 h.1.token, (digits.0, (digits.1, subst (λ n. n < 2 ^ 64) (sym value) h.1.fits))))

-- it is known whether a text is an item, whether it is cut at its first equals sign or has none
item_step : (text : List ℕ) → CutAt 61 text ⊎ Lacks 61 text → Known (SomeItem text)
item_step text (inl cut) = cut_item text cut.0 cut.1 cut.2 cut.3 (good_known cut.0 cut.1)
item_step text (inr lacks) = inr (λ h. no_item text h.0.0 h.0.1 lacks h.1)

-- it is known whether a text is an item
item_known : (text : List ℕ) → Known (SomeItem text)
item_known text = item_step text (cut_or_lacks 61 text)

abbrev SomePart : List ℕ → Type 0
SomePart text = (part : Part × ℕ) × IsPart text part.0 part.1

abbrev lower : List ℕ → List ℕ
lower name = map to_ascii_lowercase name

-- it is known whether an item names a part, where it is known whether its name is that of the part looked up by it
named_known : (text name : List ℕ) (offset : ℕ) → IsItem text name offset → Known (lower name ≡ lower (name_of (part_of_name (lower name))))
    → Known (SomePart text)
named_known text name offset item (inl named) = inl (
  (part_of_name (lower name), offset),
  record { name = name; item = item; named = named },
)
named_known text name offset item (inr other) = inr (λ h.
    let same = item_unique text name h.1.name offset h.0.1 item h.1.item in
    let named : lower name ≡ lower (name_of h.0.0) = ap lower same.0 ∙ h.1.named in
    let part : part_of_name (lower name) ≡ h.0.0 = ap part_of_name named ∙ named_so h.0.0 in
    other (named ∙ ap (λ p. lower (name_of p)) (sym part)))

-- of a text that is known to be an item or none it is known whether it names a part
part_step : (text : List ℕ) → Known (SomeItem text) → Known (SomePart text)
part_step text (inl h) =
    let name = h.0.0 in
    let test = bytes_eq-Decides (lower name) (lower (name_of (part_of_name (lower name)))) in
    named_known text name h.0.1 h.1 (from_test (lower name ≡ lower (name_of (part_of_name (lower name))))
    (bytes_eq (lower name) (lower (name_of (part_of_name (lower name))))) test.0 test.1)
part_step text (inr none) = inr (λ h. none ((h.1.name, h.0.1), h.1.item))

-- it is known whether a text is an item that names a part
part_known : (text : List ℕ) → Known (SomePart text)
part_known text = part_step text (item_known text)

-- of two lists side by side, the first list's first element has a partner, and its rest has a list beside it
first_zip : {A B : Type 0} (R : A → B → Type 0) (x : A) (xs : List A) (ys : List B) → AllZip R (x ∷ xs) ys
    → ((y : B) × R x y) × ((rest : List B) × AllZip R xs rest)
first_zip R x xs [] h = absurd h
first_zip R x xs (y ∷ ys) h = ((y, h.0), (ys, h.1))

-- it is known whether some list stands beside a first element and a rest, where it is known of the element and of the rest
zip_step : {A B : Type 0} (R : A → B → Type 0) (x : A) (xs : List A) → Known ((y : B) × R x y) → Known ((ys : List B) × AllZip R xs ys)
    → Known ((ys : List B) × AllZip R (x ∷ xs) ys)
zip_step R x xs (inl h) (inl rest) = inl (h.0 ∷ rest.0, (h.1, rest.1))
zip_step R x xs (inl h) (inr none) = inr (λ g. none (first_zip R x xs g.0 g.1).1)
zip_step R x xs (inr none) rest = inr (λ g. none (first_zip R x xs g.0 g.1).0)

-- it is known whether some list stands beside a list, where it is known of each element whether it has a partner
zip_known : {A B : Type 0} (R : A → B → Type 0) → ((x : A) → Known ((y : B) × R x y)) → (xs : List A)
    → Known ((ys : List B) × AllZip R xs ys)
zip_known R known [] = inl ([], tt)
zip_known R known (x ∷ xs) = zip_step R x xs (known x) (zip_known R known xs)

-- it is known whether a text has items between its commas
pub items_known : (text : List ℕ) → Known ((items : List (List ℕ × ℕ)) × AreItems text items)
items_known text = zip_known (λ part item. IsItem part item.0 item.1) item_known (comma_parts text)

-- it is known whether what stands between a text's commas names parts
pub parts_known : (text : List ℕ) → Known ((parts : List (Part × ℕ)) × AreParts text parts)
parts_known text = zip_known (λ item part. IsPart item part.0 part.1) part_known (comma_parts text)
