-- The line of an exchange has one end, whatever its record says.
use Rattle.std.proofs.Common.{◌≢◌, ℕ, ◌/◌, ◌%◌, ◌<◌, Bool, true, false, not, eqb, List, [], ◌∷◌, ◌++◌, All, IsTrue, Option, Some, None}
use Rattle.std.proofs.Common.{◌&&◌, nat_lt, take, codes, arith, rules, refl, sym, inl, inr, if◌then◌else◌, subst}
use Rattle.std.specs.Prelude.{⊤}
use Rattle.std.specs.List.{list_all}
use Rattle.std.specs.Char.{digit_value}
use Rattle.std.specs.Str.Parse.{AllDigits}
use Rattle.std.proofs.lemmas.Bool.{cases_Bool}
use Rattle.std.proofs.lemmas.List.{append_assoc}
use Rattle.std.proofs.lemmas.List.Elements.{All-cons, All-nil, All-append, All-take}
use Rattle.adapt_bytes.specs.Numeral.{numeral, three_digits}
use Rattle.adapt_bytes.proofs.Written.{Writes-numeral}
use Rattle.exchange_report.specs.Reasons.{reason_word}
use Rattle.exchange_report.specs.Words.{word_of}
use Rattle.exchange_report.specs.Lines.{HasNoEnd, IsOneLine}
use Rattle.exchange_report.specs.Entry.{address_text, user_text, destination_text, tag_text, status_text, head_text, request_text}
use Rattle.exchange_report.specs.Entry.{reply_word, verdict_text, why_word, Field, field_text, fields_text, fields_of}
use Rattle.exchange_report.specs.Entry.{end_text, line_text}
use Rattle.exchange_report.specs.declared.entry.Address.{Address}
use Rattle.exchange_report.specs.declared.entry.Destination.{Destination}
use Rattle.exchange_report.specs.declared.entry.Destination.TheVariants.{Origin, Parent}
use Rattle.exchange_report.specs.declared.entry.Entry.{Entry}
use Rattle.exchange_report.specs.declared.reason.Reason.{Reason}
use Rattle.exchange_report.specs.declared.reason.Reason.TheVariants as reasons
use Rattle.exchange_report.specs.declared.verdict.Reply.{Reply}
use Rattle.exchange_report.specs.declared.verdict.Reply.TheVariants.{Missing, Plain, Unchanged, Changed}
use Rattle.exchange_report.specs.declared.verdict.Verdict.{Verdict}
use Rattle.exchange_report.specs.declared.why.Why.{Why}
use Rattle.exchange_report.specs.declared.why.Why.TheVariants.{Served, UserGone, Failed}
use Rattle.exchange_report.specs.declared.words.TheConstants.{MAX_TARGET, MAX_METHOD, MAX_KIND}
use Rattle.exchange_report.proofs.OneWord.{IsVisible, plain_word}

-- a text that is written out ends no line: this computes
pub const : (text : List ℕ) → IsTrue (list_all (λ b. not (eqb b 10)) text) → HasNoEnd text
const [] h = All-nil (λ b. b ≢ 10)
const (b ∷ text) h = grind (rules, h, const text)

-- two texts that end no line end none together
pub joined : (x y : List ℕ) → HasNoEnd x → HasNoEnd y → HasNoEnd (x ++ y)
joined x y = All-append (λ b. b ≢ 10) x y

-- a text of digits ends no line
digits : (text : List ℕ) → AllDigits 10 text → HasNoEnd text
digits [] h = All-nil (λ b. b ≢ 10)
digits (c ∷ text) h = All-cons (λ b. b ≢ 10) c text (no_digit c h.0) (digits text h.1)
  where
    no_digit : (c : ℕ) → digit_value c < 10 → c ≢ 10
    no_digit c h e = let bad : digit_value 10 < 10 = subst (λ x. digit_value x < 10) e h in omega (arith, bad)

-- nor does a decimal
pub number : (n : ℕ) → HasNoEnd (numeral 10 n)
number n = digits (numeral 10 n) (Writes-numeral 10 n (omega arith) (omega arith)).digits.1

-- nor do three digits
pub three : (n : ℕ) → HasNoEnd (three_digits n)
three n = grind (arith, rules)

-- visible bytes end no line
plain : (text : List ℕ) → All IsVisible text → HasNoEnd text
plain [] h = All-nil (λ b. b ≢ 10)
plain (b ∷ text) h = grind (rules, h, plain text)

-- nor does a value from outside, as it is written
pub word : (most : ℕ) (value : List ℕ) → All (λ b. b < 256) value → HasNoEnd (word_of (take most value))
word most value h = plain (word_of (take most value)) (plain_word (take most value) (All-take (λ b. b < 256) most value h))

-- an address ends no line
address : (a : Address) → HasNoEnd (address_text a)
address a =
    let dot : HasNoEnd (codes ".") = const (codes ".") refl in
    joined _ (numeral 10 a.fourth) (joined _ (codes ".") (joined _ (numeral 10 a.third)
    (joined _ (codes ".") (joined _ (numeral 10 a.second)
    (joined (numeral 10 a.first) (codes ".") (number a.first) dot) (number a.second)) dot) (number a.third)) dot) (number a.fourth)

-- nor does a user's address
pub user : (a : Option Address) → HasNoEnd (user_text a)
user (Some a) = address a
user None = const (codes "-") refl

-- the text of where a request went ends no line
destination : (d : Option Destination) → HasNoEnd (destination_text d)
destination (Some (Origin a)) = joined (codes "HIER_DIRECT/") (address_text a) (const (codes "HIER_DIRECT/") refl) (address a)
destination (Some (Parent a)) = joined (codes "FIRSTUP_PARENT/") (address_text a) (const (codes "FIRSTUP_PARENT/") refl) (address a)
destination None = const (codes "HIER_NONE/-") refl

-- the text of whose answer it is ends no line
tag : (refused : Bool) → HasNoEnd (tag_text refused)
tag true = const (codes " TCP_DENIED/") refl
tag false = const (codes " TCP_MISS/") refl

-- a status ends no line
status : (n : ℕ) → HasNoEnd (status_text n)
status n = elim (cases_Bool (nat_lt n 1000)) as (λ _. HasNoEnd (status_text n)) [
  | inl e ↦ rw e (three n)
  | inr e ↦ rw e (number n)
]

-- the word of a service's reply ends no line
reply : (r : Reply) → HasNoEnd (reply_word r)
reply Missing = const (codes "-") refl
reply Plain = const (codes "plain") refl
reply Unchanged = const (codes "204") refl
reply Changed = const (codes "200") refl

-- a text that ends no line, or none in its place, ends no line
option : (b : Bool) (text : List ℕ) → HasNoEnd text → HasNoEnd (if b then text else [])
option true text h = h
option false text h = All-nil (λ b. b ≢ 10)

-- the text of what became of a message ends no line
verdict : (v : Verdict) → HasNoEnd (verdict_text v)
verdict v = joined _ (reply_word v.reply) (joined _ _ (option v.retried (codes "retry+") (const (codes "retry+") refl))
    (option v.continued (codes "100+") (const (codes "100+") refl))) (reply v.reply)

-- each word of the table is written out
reason : (r : Reason) → HasNoEnd (reason_word r)
reason reasons.BadRequest = const (codes "bad-request") refl
reason r = const (reason_word r) refl

-- the word of why an exchange ended ends no line
why : (w : Why) → HasNoEnd (why_word w)
why Served = const (codes "-") refl
why UserGone = const (codes "user-gone") refl
why (Failed r) = reason r

-- the first fields of the line, up to the bytes that were sent, end no line
head : (e : Entry) → HasNoEnd (head_text e)
head e =
    let blank : HasNoEnd (codes " ") = const (codes " ") refl in
    joined _ (numeral 10 e.sent) (joined _ (codes " ") (joined _ (status_text e.status)
    (joined _ (tag_text e.refused) (joined _ (user_text e.user)
    (joined _ (codes " ") (joined _ (numeral 10 e.elapsed) (joined _ (codes " ") (joined _ (three_digits (e.ended % 1000))
    (joined (numeral 10 (e.ended / 1000)) (codes ".") (number (e.ended / 1000)) (const (codes ".") refl))
    (three (e.ended % 1000))) blank) (number e.elapsed)) blank) (user e.user)) (tag e.refused)) (status e.status)) blank) (number e.sent)

-- texts with a text that ends no line before each
pairs : (a m b t c o d k : List ℕ) → HasNoEnd a → HasNoEnd m → HasNoEnd b → HasNoEnd t → HasNoEnd c → HasNoEnd o → HasNoEnd d → HasNoEnd k
    → HasNoEnd (a ++ m ++ b ++ t ++ c ++ o ++ d ++ k)
pairs a m b t c o d k ha hm hb ht hc ho hd hk =
    joined (a ++ m ++ b ++ t ++ c ++ o ++ d) k (joined (a ++ m ++ b ++ t ++ c ++ o) d (joined (a ++ m ++ b ++ t ++ c) o
    (joined (a ++ m ++ b ++ t) c (joined (a ++ m ++ b) t (joined (a ++ m) b (joined a m ha hm) hb) ht) hc) ho) hd) hk

-- the fields of a request end no line, where its method, target and kind are bytes
request : (e : Entry) → All (λ b. b < 256) e.method.now → All (λ b. b < 256) e.target.now → All (λ b. b < 256) e.kind.now
    → HasNoEnd (request_text e)
request e method target kind =
    let blank : HasNoEnd (codes " ") = const (codes " ") refl in
    pairs (codes " ") (word_of (take MAX_METHOD e.method.now)) (codes " ") (word_of (take MAX_TARGET e.target.now)) (codes " - ")
    (destination_text e.destination) (codes " ") (word_of (take MAX_KIND e.kind.now)) blank (word MAX_METHOD e.method.now method) blank
    (word MAX_TARGET e.target.now target) (const (codes " - ") refl) (destination e.destination) blank (word MAX_KIND e.kind.now kind)

-- The fields that Squid's format hasn't, whichever they are.

-- the name of a field
abbrev name_of : Field → List ℕ
name_of (Field.Number name n) = name
name_of (Field.Optional name n) = name
name_of (Field.Outside name most value) = name
name_of (Field.Judged name v) = name
name_of (Field.Ended name w) = name

-- a name ends no line: this computes
abbrev is_plain : List ℕ → Bool
is_plain name = list_all (λ b. not (eqb b 10)) name

-- nor do those of these fields
abbrev are_named : List Field → Bool
are_named [] = true
are_named (field ∷ fields) = is_plain (name_of field) && are_named fields

-- the values from outside in these fields are bytes: a field without one asks for nothing
abbrev AreOfBytes : List Field → Type 0
AreOfBytes [] = ⊤
AreOfBytes (Field.Outside name most value ∷ fields) = All (λ b. b < 256) value × AreOfBytes fields
AreOfBytes (Field.Number name n ∷ fields) = AreOfBytes fields
AreOfBytes (Field.Optional name n ∷ fields) = AreOfBytes fields
AreOfBytes (Field.Judged name v ∷ fields) = AreOfBytes fields
AreOfBytes (Field.Ended name w ∷ fields) = AreOfBytes fields

-- where two tests pass together, each of which shows that a text ends no line, these texts end none together
tested : (x y : List ℕ) (s t : Bool) → IsTrue (s && t) → (IsTrue s → HasNoEnd x) → (IsTrue t → HasNoEnd y) → HasNoEnd (x ++ y)
tested x y true t pass first second = joined x y (first refl) (second pass)
tested x y false t pass first second = absurd (cc)

-- a field ends no line, nor do those after it
before : (name value : List ℕ) (rest : List Field) → IsTrue (is_plain name && are_named rest) → HasNoEnd value
    → (IsTrue (are_named rest) → HasNoEnd (fields_text rest)) → HasNoEnd ((name ++ value) ++ fields_text rest)
before name value rest named plain_value plain_rest =
    tested (name ++ value) (fields_text rest) (is_plain name) (are_named rest) named
    (λ plain_name. joined name value (const name plain_name) plain_value) plain_rest

-- fields whose names end no line end none
fields : (all : List Field) → IsTrue (are_named all) → AreOfBytes all → HasNoEnd (fields_text all)
unfolding field_text
fields [] named bytes = All-nil (λ b. b ≢ 10)
fields (Field.Number name n ∷ rest) named bytes = before name (numeral 10 n) rest named (number n) (λ h. fields rest h bytes)
fields (Field.Optional name (Some n) ∷ rest) named bytes = before name (numeral 10 n) rest named (number n) (λ h. fields rest h bytes)
fields (Field.Optional name None ∷ rest) named bytes =
    tested [] (fields_text rest) (is_plain name) (are_named rest) named (λ h. All-nil (λ b. b ≢ 10)) (λ h. fields rest h bytes)
fields (Field.Outside name most value ∷ rest) named bytes =
    before name (word_of (take most value)) rest named (word most value bytes.0) (λ h. fields rest h bytes.1)
fields (Field.Judged name v ∷ rest) named bytes = before name (verdict_text v) rest named (verdict v) (λ h. fields rest h bytes)
fields (Field.Ended name w ∷ rest) named bytes = before name (why_word w) rest named (why w) (λ h. fields rest h bytes)

-- the line of an exchange ends once, at its last byte
pub ends_once : (e : Entry) → All (λ b. b < 256) e.method.now → All (λ b. b < 256) e.target.now → All (λ b. b < 256) e.kind.now
    → All (λ b. b < 256) e.found.now → IsOneLine (line_text e)
unfolding end_text
ends_once e method target kind found = (
  head_text e ++ request_text e ++ fields_text (fields_of e),
  sym (append_assoc (head_text e ++ request_text e) (fields_text (fields_of e)) (codes "\n")),
  joined _ (fields_text (fields_of e)) (joined (head_text e) (request_text e) (head e) (request e method target kind))
      (fields (fields_of e) refl (found, tt)),
)
