-- No part of a script ends its line, nor does a field of the line of an exchange, whatever the record says.
use Rattle.std.proofs.Common.{ℕ, ◌<◌, ◌/◌, ◌%◌, Bool, true, false, not, eqb, List, [], ◌++◌, All, IsTrue, Option, Some, None, take, codes}
use Rattle.std.proofs.Common.{refl, sym}
use Rattle.std.specs.List.{list_all}
use Rattle.std.proofs.lemmas.List.{append_assoc}
use Rattle.adapt_bytes.specs.Numeral.{numeral, three_digits}
use Rattle.trace_core.specs.declared.history.Plan.{Plan}
use Rattle.trace_core.specs.declared.history.Point.{Point}
use Rattle.trace_core.specs.declared.history.Point.TheVariants.{Reqmod, Respmod}
use Rattle.trace_core.specs.declared.history.Kind.{Kind}
use Rattle.trace_core.specs.declared.history.Kind.TheVariants.{Plain, Whole, Preview}
use Rattle.trace_core.specs.declared.history.Event.{Event}
use Rattle.trace_core.specs.declared.history.Event.TheVariants.{In, End, Svc, Stop, Heard, Continue, NoMod, Mod, Ad, AdEnd, Usr, Done, Fail}
use Rattle.trace_core.specs.declared.history.Event.TheVariants.{Retry}
use Rattle.trace_core.specs.declared.history.Payload.TheVariants.{Body, NullBody}
use Rattle.trace_core.specs.declared.tape.Tape.{Tape}
use Rattle.trace_core.specs.declared.tape.Tape.TheVariants.{Original, Adapted}
use Rattle.exchange_report.specs.Words.{word_of}
use Rattle.exchange_report.specs.Entry.{moment_text, user_text}
use Rattle.exchange_report.specs.Lines.{HasNoEnd, IsOneLine}
use Rattle.exchange_report.specs.Script.{printed_number, range_text, kind_text, allow_text, length_text, plan_text, event_word}
use Rattle.exchange_report.specs.Script.{event_number, event_text, need_words, need_text}
use Rattle.exchange_report.specs.Live.{id_text, point_word, awaited_word, age_text, waits_text, still_text, standing_text, held_text}
use Rattle.exchange_report.specs.Live.{counts_text, request_words, live_text}
use Rattle.exchange_report.specs.declared.awaited.Awaited.{Awaited}
use Rattle.exchange_report.specs.declared.awaited.Awaited.TheVariants as awaits
use Rattle.exchange_report.specs.declared.exchange_id.ExchangeId.{ExchangeId}
use Rattle.exchange_report.specs.declared.live.Live.{Live}
use Rattle.exchange_report.specs.declared.words.TheConstants.{MAX_TARGET, MAX_METHOD}
use Rattle.exchange_report.proofs.OneLine.{const, joined, number, three, word, user}

-- The lines of a script.

-- a number after a space, or nothing, ends no line
printed : (n : Option ℕ) → HasNoEnd (printed_number n)
printed None = const [] refl
printed (Some n) = joined (codes " ") (numeral 10 n) (const (codes " ") refl) (number n)

-- the kind of a plan ends no line
kind : (k : Kind) → HasNoEnd (kind_text k)
kind Plain = const (codes "plain") refl
kind Whole = const (codes "whole") refl
kind (Preview size) = joined (codes "preview") (printed_number (Some size)) (const (codes "preview") refl) (printed (Some size))

-- what a plan allows ends no line
allow : (a : Bool × Bool) → HasNoEnd (allow_text a)
allow (true, true) = const (codes " allow retry") refl
allow (true, false) = const (codes " allow") refl
allow (false, true) = const (codes " retry") refl
allow (false, false) = const [] refl

-- the length of a body, known or not, ends no line
len : (n : Option ℕ) → HasNoEnd (length_text n)
len None = const [] refl
len (Some n) = joined (codes " len") (printed_number (Some n)) (const (codes " len") refl) (printed (Some n))

-- a plan is one line
pub plan_line : (p : Plan) → HasNoEnd (plan_text p)
plan_line p =
    joined (codes "plan " ++ kind_text p.kind ++ allow_text (p.allow, p.retry)) (length_text p.len)
    (joined (codes "plan " ++ kind_text p.kind) (allow_text (p.allow, p.retry)) (joined (codes "plan ") (kind_text p.kind)
    (const (codes "plan ") refl) (kind p.kind)) (allow (p.allow, p.retry))) (len p.len)

-- the word of an event ends no line
event : (e : Event) → HasNoEnd (event_word e)
event (In n) = const (codes "in") refl
event End = const (codes "end") refl
event (Svc n) = const (codes "svc") refl
event Stop = const (codes "stop") refl
event Heard = const (codes "heard") refl
event Continue = const (codes "100") refl
event NoMod = const (codes "204") refl
event (Mod Body) = const (codes "200") refl
event (Mod NullBody) = const (codes "200 null") refl
event (Ad n) = const (codes "ad") refl
event AdEnd = const (codes "adend") refl
event (Usr n) = const (codes "usr") refl
event Done = const (codes "done") refl
event (Fail cause) = const (codes "fail") refl
event Retry = const (codes "retry") refl

-- an event is one line
pub event_line : (e : Event) → HasNoEnd (event_text e)
event_line e = joined (event_word e) (printed_number (event_number e)) (event e) (printed (event_number e))

-- the words that ask for bytes of a tape end no line
needed : (tape : Tape) → HasNoEnd (need_words tape)
needed Original = const (codes "need original") refl
needed Adapted = const (codes "need adapted") refl

-- a question is one line
pub need_line : (tape : Tape) (place : ℕ) → HasNoEnd (need_text tape place)
need_line tape place = joined (need_words tape) (printed_number (Some place)) (needed tape) (printed (Some place))

-- The fields of comments and of the line of an exchange.

-- a text that ends no line
record Endless (text : List ℕ) : Type 0 where
  has : HasNoEnd text

-- two texts that end no line end none together
both : (a b : List ℕ) → Endless a → Endless b → Endless (a ++ b)
both a b h i = record { has = joined a b h.has i.has }

-- a text that is written out
words : (text : List ℕ) → IsTrue (list_all (λ b. not (eqb b 10)) text) → Endless text
words text e = record { has = const text e }

-- a decimal ends no line
decimal : (n : ℕ) → Endless (numeral 10 n)
decimal n = record { has = number n }

-- a hyphen ends no line
dash : Endless (codes "-")
dash = words (codes "-") refl

-- a space ends no line
blank : Endless (codes " ")
blank = words (codes " ") refl

-- the three numbers of an id with their hyphens end no line
ids : (a : ExchangeId) → Endless (id_text a)
ids a =
    both _ (numeral 10 a.number) (both _ (codes "-") (both _ (numeral 10 a.key)
    (both (numeral 10 a.thread) (codes "-") (decimal a.thread) dash)
    (decimal a.key)) dash) (decimal a.number)

-- an id
pub id : (a : ExchangeId) → HasNoEnd (id_text a)
id a = (ids a).has

-- a moment
pub moment : (n : ℕ) → HasNoEnd (moment_text n)
moment n =
    joined _ (three_digits (n % 1000)) (joined (numeral 10 (n / 1000)) (codes ".") (number (n / 1000)) (const (codes ".") refl))
    (three (n % 1000))

-- the word of a point
pub point : (p : Point) → HasNoEnd (point_word p)
point Reqmod = const (codes "reqmod") refl
point Respmod = const (codes "respmod") refl

-- a method and a target
pub request : (method target : List ℕ) → All (λ b. b < 256) method → All (λ b. b < 256) target → HasNoEnd (request_words method target)
request method target m t =
    let one : HasNoEnd (codes " ") = const (codes " ") refl in
    let first = joined (codes " ") (word_of (take MAX_METHOD method)) one (word MAX_METHOD method m) in
    joined (codes " " ++ word_of (take MAX_METHOD method) ++ codes " ") (word_of (take MAX_TARGET target))
    (joined (codes " " ++ word_of (take MAX_METHOD method)) (codes " ") first one) (word MAX_TARGET target t)

-- the word of what is waited for ends no line
awaited : (a : Awaited) → HasNoEnd (awaited_word a)
awaited awaits.UserBody = const (codes "user-body") refl
awaited awaits.OriginBody = const (codes "origin-body") refl
awaited awaits.ServiceConnection = const (codes "service-connection") refl
awaited awaits.ServiceOptions = const (codes "service-options") refl
awaited awaits.ServiceTakes = const (codes "service-takes") refl
awaited awaits.ServiceReply = const (codes "service-reply") refl
awaited awaits.ServiceBody = const (codes "service-body") refl
awaited awaits.OriginTakes = const (codes "origin-takes") refl
awaited awaits.OriginAnswer = const (codes "origin-answer") refl
awaited awaits.UserTakes = const (codes "user-takes") refl
awaited awaits.UserCloses = const (codes "user-closes") refl
awaited awaits.Proxy = const (codes "proxy") refl

-- the id and the age of an exchange end no line
age : (l : Live) → Endless (age_text l)
age l = both _ (codes "s ") (both _ (numeral 10 l.age) (both (id_text l.id) (codes " ") (ids l.id) blank) (decimal l.age))
    (words (codes "s ") refl)

-- the point and what is waited for end no line
waits : (l : Live) → Endless (waits_text l)
waits l =
    both _ (awaited_word l.awaited) (both (point_word l.point) (codes " waits-for ") (record { has = point l.point })
    (words (codes " waits-for ") refl))
    (record { has = awaited l.awaited })

-- the field of how long nothing has moved ends no line
still : (l : Live) → Endless (still_text l)
still l = both _ (codes "s") (both (codes " ") (numeral 10 l.still) blank (decimal l.still)) (words (codes "s") refl)

-- the fields up to the held places end no line
standing : (l : Live) → Endless (standing_text l)
standing l = both _ (still_text l) (both (age_text l) (waits_text l) (age l) (waits l)) (still l)

-- a range of two numbers ends no line
range : (r : ℕ × ℕ) → Endless (range_text r)
range r = both _ (numeral 10 r.1) (both (numeral 10 r.0) (codes "..") (decimal r.0) (words (codes "..") refl)) (decimal r.1)

-- the places of both bodies that are held end no line
held : (l : Live) → Endless (held_text l)
held l =
    both _ (range_text l.adapted) (both _ (codes " adapted ") (both (codes " held ") (range_text l.held) (words (codes " held ") refl)
    (range l.held))
    (words (codes " adapted ") refl)) (range l.adapted)

-- the body bytes that came and went, and those reserved, end no line as they are written
counts : (l : Live) → Endless (counts_text l)
counts l =
    both _ (numeral 10 l.claim) (both _ (codes " claim ") (both _ (numeral 10 l.delivered) (both _ (codes " usr ")
    (both _ (numeral 10 l.adapted_received) (both _ (codes " ad ") (both _ (numeral 10 l.sent) (both _ (codes " svc ")
    (both (codes " in ") (numeral 10 l.received) (words (codes " in ") refl) (decimal l.received)) (words (codes " svc ") refl))
    (decimal l.sent))
    (words (codes " ad ") refl)) (decimal l.adapted_received)) (words (codes " usr ") refl)) (decimal l.delivered))
    (words (codes " claim ") refl))
    (decimal l.claim)

-- the fields of the user, before the byte that ends the line
abbrev asked : Live → List ℕ
asked l = codes " " ++ user_text l.user ++ request_words l.method.now l.target.now

-- the line of an exchange ends once
pub live_once : (l : Live) → All (λ b. b < 256) l.method.now → All (λ b. b < 256) l.target.now → IsOneLine (live_text l)
live_once l method target =
    let user : Endless (user_text l.user) = record { has = user l.user } in
    let request : Endless (request_words l.method.now l.target.now) = record { has = request l.method.now l.target.now method target } in
    let all = both _ (asked l) (both _ (counts_text l) (both (standing_text l) (held_text l) (standing l) (held l)) (counts l))
    (both _ (request_words l.method.now l.target.now) (both (codes " ") (user_text l.user) blank user) request) in (
      standing_text l ++ held_text l ++ counts_text l ++ asked l,
      sym (append_assoc (standing_text l ++ held_text l ++ counts_text l) (asked l) (codes "\n")),
      all.has,
    )
