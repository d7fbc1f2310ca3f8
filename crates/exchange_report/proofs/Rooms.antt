-- How long the line of an exchange may be.
use Rattle.std.proofs.Common.{ℕ, ◌+◌, ◌*◌, ◌<◌, ◌≤◌, ◌^◌, ◌++◌, List, [], ◌∷◌, Option, Some, None, IfSome, length, take, min, codes, arith}
use Rattle.std.proofs.Common.{inl, inr, lit≤}
use Rattle.std.proofs.lemmas.Bool.{cases_Bool}
use Rattle.std.proofs.lemmas.List.{length-take, length-append}
use Rattle.adapt_bytes.specs.Numeral.{numeral}
use Rattle.adapt_bytes.proofs.Written.{decimal_short}
use Rattle.trace_core.specs.declared.history.Point.{Point}
use Rattle.trace_core.specs.declared.history.Point.TheVariants.{Reqmod, Respmod}
use Rattle.exchange_report.specs.Words.{is_plain, escaped, escaped_text, word_of}
use Rattle.exchange_report.specs.Entry.{address_text, user_text}
use Rattle.exchange_report.specs.Script.{range_text}
use Rattle.exchange_report.specs.Live.{id_text, point_word, awaited_word, age_text, waits_text, still_text, standing_text, held_text}
use Rattle.exchange_report.specs.Live.{counts_text, request_words, asked_text, live_text}
use Rattle.exchange_report.specs.declared.awaited.Awaited.{Awaited}
use Rattle.exchange_report.specs.declared.awaited.Awaited.TheVariants as words
use Rattle.exchange_report.specs.declared.entry.Address.{Address}
use Rattle.exchange_report.specs.declared.exchange_id.ExchangeId.{ExchangeId}
use Rattle.exchange_report.specs.declared.live.Live.{Live}
use Rattle.exchange_report.specs.declared.words.TheConstants.{MAX_TARGET, MAX_METHOD}

-- the text has at most so many bytes
record Fits (text : List ℕ) (most : ℕ) : Type 0 where
  bound : length text ≤ most

-- a text of at most so many bytes fits in that many
is : {text : List ℕ} {most : ℕ} → length text ≤ most → Fits text most
is l = record { bound = l }

-- two texts have what both have
both : (a b : List ℕ) (m n : ℕ) → Fits a m → Fits b n → Fits (a ++ b) (m + n)
both a b m n h i = is (omega (arith, length-append a b, h.bound, i.bound))

-- a number of 64 bits has at most 20 digits
number : (n : ℕ) → n < 2 ^ 64 → Fits (numeral 10 n) 20
number n l = is (decimal_short n l)

-- a byte is written as at most three
one_byte : (b : ℕ) → Fits (escaped b) 3
one_byte b = elim (cases_Bool (is_plain b)) as (λ _. Fits (escaped b) 3) [
  | inl e ↦ rw e (is (lit≤ tt))
  | inr e ↦ rw e (is (lit≤ tt))
]

-- a text is written with at most three bytes for each of its own
bytes : (text : List ℕ) → Fits (escaped_text text) (3 * length text)
bytes [] = is (lit≤ tt)
bytes (b ∷ text) = is (omega (arith, length-append (escaped b) (escaped_text text), (one_byte b).bound, (bytes text).bound))

-- a word has three bytes for each of its value, or is a hyphen
word : (text : List ℕ) → Fits (word_of text) (1 + 3 * length text)
word [] = is (lit≤ tt)
word (b ∷ text) = is (omega (arith, (bytes (b ∷ text)).bound))

-- the word of a value that is cut has at most three bytes for each that is left, and one more
value : (most : ℕ) (text : List ℕ) → Fits (word_of (take most text)) (1 + 3 * min most (length text))
value most text = is (omega (arith, length-take most text, (word (take most text)).bound))

-- a number of eight bits has no more than 20 digits
small : (n : ℕ) → n < 2 ^ 8 → Fits (numeral 10 n) 20
small n l = number n (omega (arith, l))

-- Four numbers and three dots.
address : (a : Address) → a.first < 2 ^ 8 → a.second < 2 ^ 8 → a.third < 2 ^ 8 → a.fourth < 2 ^ 8 → Fits (address_text a) 83
address a h i j k =
    both _ (numeral 10 a.fourth) 63 20 (both _ (codes ".") 62 1 (both _ (numeral 10 a.third) 42 20 (both _ (codes ".") 41 1
    (both _ (numeral 10 a.second) 21 20 (both (numeral 10 a.first) (codes ".") 20 1 (small a.first h) (is (lit≤ tt))) (small a.second i))
    (is (lit≤ tt))) (small a.third j)) (is (lit≤ tt))) (small a.fourth k)

-- three numbers and two hyphens
id : (a : ExchangeId) → a.thread < 2 ^ 64 → a.key < 2 ^ 64 → a.number < 2 ^ 64 → Fits (id_text a) 62
id a h i j =
    both _ (numeral 10 a.number) 42 20 (both _ (codes "-") 41 1 (both _ (numeral 10 a.key) 21 20
    (both (numeral 10 a.thread) (codes "-") 20 1 (number a.thread h) (is (lit≤ tt))) (number a.key i)) (is (lit≤ tt))) (number a.number j)

-- a range of two numbers of 64 bits has at most 42 bytes
range : (r : ℕ × ℕ) → r.0 < 2 ^ 64 → r.1 < 2 ^ 64 → Fits (range_text r) 42
range r h i =
    both _ (numeral 10 r.1) 22 20 (both (numeral 10 r.0) (codes "..") 20 2 (number r.0 h) (is (lit≤ tt))) (number r.1 i)

-- the word of a point has at most seven bytes
point : (p : Point) → Fits (point_word p) 7
point Reqmod = is (lit≤ tt)
point Respmod = is (lit≤ tt)

abbrev IsSmall : Address → Type 0
IsSmall a = (a.first < 2 ^ 8) × (a.second < 2 ^ 8) × (a.third < 2 ^ 8) × (a.fourth < 2 ^ 8)

-- the numbers of a record are those of their types
pub record IsInRange (l : Live) : Type 0 where
  pub thread : l.id.thread < 2 ^ 64
  pub key : l.id.key < 2 ^ 64
  pub number : l.id.number < 2 ^ 64
  pub age : l.age < 2 ^ 64
  pub still : l.still < 2 ^ 64
  pub held_from : l.held.0 < 2 ^ 64
  pub held_end : l.held.1 < 2 ^ 64
  pub adapted_from : l.adapted.0 < 2 ^ 64
  pub adapted_end : l.adapted.1 < 2 ^ 64
  pub received : l.received < 2 ^ 64
  pub sent : l.sent < 2 ^ 64
  pub adapted_received : l.adapted_received < 2 ^ 64
  pub delivered : l.delivered < 2 ^ 64
  pub claim : l.claim < 2 ^ 64
  pub user : IfSome l.user IsSmall

-- the user's address, or a hyphen, has at most 83 bytes
user : (a : Option Address) → IfSome a IsSmall → Fits (user_text a) 83
user (Some a) h = address a h.0 h.1 h.2 h.3
user None h = is (lit≤ tt)

-- the word of what is waited for has at most 18 bytes
awaited : (a : Awaited) → Fits (awaited_word a) 18
awaited words.UserBody = is (lit≤ tt)
awaited words.OriginBody = is (lit≤ tt)
awaited words.ServiceConnection = is (lit≤ tt)
awaited words.ServiceOptions = is (lit≤ tt)
awaited words.ServiceTakes = is (lit≤ tt)
awaited words.ServiceReply = is (lit≤ tt)
awaited words.ServiceBody = is (lit≤ tt)
awaited words.OriginTakes = is (lit≤ tt)
awaited words.OriginAnswer = is (lit≤ tt)
awaited words.UserTakes = is (lit≤ tt)
awaited words.UserCloses = is (lit≤ tt)
awaited words.Proxy = is (lit≤ tt)

-- a number after words
counted : (words : List ℕ) (n most : ℕ) → Fits words most → n < 2 ^ 64 → Fits (words ++ numeral 10 n) (most + 20)
counted words n most h l = both words (numeral 10 n) most 20 h (number n l)

-- the id and the age of an exchange have at most 85 bytes
age : (l : Live) → IsInRange l → Fits (age_text l) 85
age l h =
    both _ (codes "s ") 83 2 (both _ (numeral 10 l.age) 63 20 (both (id_text l.id) (codes " ") 62 1 (id l.id h.thread h.key h.number)
    (is (lit≤ tt)))
    (number l.age h.age)) (is (lit≤ tt))

-- the point and what is waited for have at most 36 bytes
waits : (l : Live) → Fits (waits_text l) 36
waits l = both _ (awaited_word l.awaited) 18 18 (both (point_word l.point) (codes " waits-for ") 7 11 (point l.point) (is (lit≤ tt)))
    (awaited l.awaited)

-- the field of how long nothing has moved has at most 22 bytes
still : (l : Live) → IsInRange l → Fits (still_text l) 22
still l h = both _ (codes "s") 21 1 (counted (codes " ") l.still 1 (is (lit≤ tt)) h.still) (is (lit≤ tt))

-- the fields up to the held places have at most 143 bytes
standing : (l : Live) → IsInRange l → Fits (standing_text l) 143
standing l h = both _ (still_text l) 121 22 (both (age_text l) (waits_text l) 85 36 (age l h) (waits l)) (still l h)

-- the places of both bodies that are held have at most 99 bytes
held : (l : Live) → IsInRange l → Fits (held_text l) 99
held l h =
    both _ (range_text l.adapted) 57 42 (both _ (codes " adapted ") 48 9 (both (codes " held ") (range_text l.held) 6 42 (is (lit≤ tt))
    (range l.held h.held_from h.held_end)) (is (lit≤ tt))) (range l.adapted h.adapted_from h.adapted_end)

-- the body bytes that came and went, and those reserved, are written with at most 125 bytes
counts : (l : Live) → IsInRange l → Fits (counts_text l) 125
counts l h =
    both _ (numeral 10 l.claim) 105 20 (both _ (codes " claim ") 98 7 (both _ (numeral 10 l.delivered) 78 20 (both _ (codes " usr ") 73 5
    (both _ (numeral 10 l.adapted_received) 53 20 (both _ (codes " ad ") 49 4 (both _ (numeral 10 l.sent) 29 20 (both _ (codes " svc ") 24 5
    (counted (codes " in ") l.received 4 (is (lit≤ tt)) h.received) (is (lit≤ tt))) (number l.sent h.sent)) (is (lit≤ tt)))
    (number l.adapted_received h.adapted_received))
    (is (lit≤ tt))) (number l.delivered h.delivered)) (is (lit≤ tt))) (number l.claim h.claim)

-- a method and a target that are cut have at most three bytes for each that is left, and four more
request : (method target : List ℕ) → Fits (request_words method target)
    (4 + 3 * min MAX_METHOD (length method) + 3 * min MAX_TARGET (length target))
request method target =
    is (omega (
      arith,
      (both _ (word_of (take MAX_TARGET target)) _ _ (both _ (codes " ") _ 1 (both (codes " ") (word_of (take MAX_METHOD method)) 1 _
          (is (lit≤ tt)) (value MAX_METHOD method)) (is (lit≤ tt))) (value MAX_TARGET target)).bound,
    ))

-- the line has no more than this
pub line_room : (l : Live) → IsInRange l
    → length (live_text l) ≤ 512 + 3 * min MAX_METHOD (length l.method.now) + 3 * min MAX_TARGET (length l.target.now)
line_room l h =
    let asked = both _ (codes "\n") _ 1 (both _ (request_words l.method.now l.target.now) 84 _
    (both (codes " ") (user_text l.user) 1 83 (is (lit≤ tt)) (user l.user h.user)) (request l.method.now l.target.now)) (is (lit≤ tt)) in
    let all = both _ (asked_text l) _ _ (both _ (counts_text l) _ _ (both (standing_text l) (held_text l) 143 99 (standing l h) (held l h))
    (counts l h)) asked in
    omega (arith, all.bound)
