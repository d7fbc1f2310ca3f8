-- An exchange that isn't over: its id, what it waits for, and its line.
use Rattle.std.specs.Prelude.{◌≡◌, ℕ, ◌<◌, ◌^◌, Bool, true, false, not, ◌&&◌, ◌||◌, List, ◌∷◌, ◌++◌, take, is_none, if◌then◌else◌, codes}
use Rattle.adapt_bytes.specs.Numeral.{Writes, numeral}
use Rattle.trace_core.specs.declared.history.Plan.{Plan}
use Rattle.trace_core.specs.declared.history.Point.{Point}
use Rattle.trace_core.specs.declared.history.Point.TheVariants.{Reqmod, Respmod}
use Rattle.trace_core.specs.declared.history.Event.{Event}
use Rattle.trace_core.specs.declared.history.Event.TheVariants.{Svc, Stop, Usr, Done}
use Rattle.trace_core.specs.declared.history.Seen.{Seen}
use Rattle.trace_core.specs.History.{seen}
use Rattle.trace_core.specs.Faults.{first_fault, is_final, is_waiting}
use Rattle.exchange_core.specs.declared.due.Due.{Due}
use Rattle.exchange_core.specs.declared.due.Due.TheVariants as dues
use Rattle.exchange_report.specs.Words.{word_of}
use Rattle.exchange_report.specs.Entry.{moment_text, user_text}
use Rattle.exchange_report.specs.Script.{range_text, history_text, needs_text}
use Rattle.exchange_report.specs.declared.awaited.Awaited.{Awaited}
use Rattle.exchange_report.specs.declared.awaited.Awaited.TheVariants.{UserBody, OriginBody, ServiceConnection, ServiceOptions}
use Rattle.exchange_report.specs.declared.awaited.Awaited.TheVariants.{ServiceTakes, ServiceReply, ServiceBody, OriginTakes, OriginAnswer}
use Rattle.exchange_report.specs.declared.awaited.Awaited.TheVariants.{UserTakes, UserCloses, Proxy}
use Rattle.exchange_report.specs.declared.awaited.Outgoing.{Outgoing}
use Rattle.exchange_report.specs.declared.awaited.Outgoing.TheVariants.{Message, Answer, Refusal}
use Rattle.exchange_report.specs.declared.caption.Caption.{Caption}
use Rattle.exchange_report.specs.declared.exchange_id.ExchangeId.{ExchangeId}
use Rattle.exchange_report.specs.declared.live.Live.{Live}
use Rattle.exchange_report.specs.declared.words.TheConstants.{MAX_TARGET, MAX_METHOD}

-- Ids.

-- the digits write a number of 64 bits; leading zeros count for nothing
pub record SpellsNumber (digits : List ℕ) (n : ℕ) : Type 0 where
  pub writes : Writes 10 digits n
  pub fits : n < 2 ^ 64

-- the text is three numbers, with a hyphen between
pub record SpellsId (text : List ℕ) (id : ExchangeId) : Type 0 where
  pub thread_digits : List ℕ
  pub key_digits : List ℕ
  pub number_digits : List ℕ
  pub text_is : text ≡ thread_digits ++ 45 ∷ (key_digits ++ 45 ∷ number_digits)
  pub thread : SpellsNumber thread_digits id.thread
  pub key : SpellsNumber key_digits id.key
  pub number : SpellsNumber number_digits id.number

-- an id as it is written
abbrev pub id_text : ExchangeId → List ℕ
id_text id = numeral 10 id.thread ++ codes "-" ++ numeral 10 id.key ++ codes "-" ++ numeral 10 id.number

-- What is waited for.

abbrev pub point_word : Point → List ℕ
point_word Reqmod = codes "reqmod"
point_word Respmod = codes "respmod"

-- the closed list of words
abbrev pub awaited_word : Awaited → List ℕ
awaited_word UserBody = codes "user-body"
awaited_word OriginBody = codes "origin-body"
awaited_word ServiceConnection = codes "service-connection"
awaited_word ServiceOptions = codes "service-options"
awaited_word ServiceTakes = codes "service-takes"
awaited_word ServiceReply = codes "service-reply"
awaited_word ServiceBody = codes "service-body"
awaited_word OriginTakes = codes "origin-takes"
awaited_word OriginAnswer = codes "origin-answer"
awaited_word UserTakes = codes "user-takes"
awaited_word UserCloses = codes "user-closes"
awaited_word Proxy = codes "proxy"

-- what an exchange waits for by what is due, where no message moves
abbrev pub awaited_in : Due → Awaited
awaited_in dues.Await = ServiceConnection
awaited_in dues.Ask = ServiceOptions
awaited_in dues.Hear = ServiceOptions
awaited_in dues.ReadResponse = OriginAnswer
awaited_in dues.Tell = UserTakes
awaited_in (dues.Refuse status) = UserTakes
awaited_in (dues.TryRefusal status) = UserTakes
awaited_in dues.ReadRequest = UserBody
awaited_in dues.Linger = UserCloses
awaited_in _ = Proxy

-- who takes what goes out next: a request goes on to the origin, and all else to the user
abbrev pub taken_by : Outgoing → Point → Awaited
taken_by Message Reqmod = OriginTakes
taken_by Message Respmod = UserTakes
taken_by Answer point = UserTakes
taken_by Refusal point = UserTakes

-- who sends the original body
abbrev pub source_at : Point → Awaited
source_at Reqmod = UserBody
source_at Respmod = OriginBody

abbrev pub is_refusal : Outgoing → Bool
is_refusal Refusal = true
is_refusal _ = false

-- the event may come next
abbrev pub may : Seen → Event → Bool
may x event = is_none (first_fault x event)

-- a byte of the chosen message may go out, or its end
abbrev pub is_on_its_way : Seen → Bool
is_on_its_way x = may x (Usr 1) || may x Done

-- a byte of the original may go to the service, or the last chunk
abbrev pub is_offered_more : Seen → Bool
is_offered_more x = may x (Svc 1) || may x Stop

-- the service has all that it may have now, and no final reply has come
abbrev pub awaits_reply : Seen → Bool
awaits_reply x = (x.last_stop || is_waiting x) && not (is_final x)

-- the adapted body comes, and hasn't ended
abbrev pub awaits_adapted : Seen → Bool
awaits_adapted x = x.modified && not x.adapted_over

-- what a message waits for that moves: the first of these that holds
abbrev pub awaited_by : Seen → Outgoing → Awaited
awaited_by x outgoing =
    if is_refusal outgoing then UserTakes
    else if x.closed then Proxy
    else if is_on_its_way x then taken_by outgoing x.plan.point
    else if is_offered_more x then ServiceTakes
    else if awaits_reply x then ServiceReply
    else if awaits_adapted x then ServiceBody
    else if not x.ended then source_at x.plan.point
    else Proxy

-- The line.

-- whose line it is, and how old the exchange is
abbrev pub age_text : Live → List ℕ
age_text l = id_text l.id ++ codes " " ++ numeral 10 l.age ++ codes "s "

-- what it waits for
abbrev pub waits_text : Live → List ℕ
waits_text l = point_word l.point ++ codes " waits-for " ++ awaited_word l.awaited

-- since when nothing has moved
abbrev pub still_text : Live → List ℕ
still_text l = codes " " ++ numeral 10 l.still ++ codes "s"

-- the places of both bodies that are held
abbrev pub held_text : Live → List ℕ
held_text l = codes " held " ++ range_text l.held ++ codes " adapted " ++ range_text l.adapted

-- the body bytes that came and went at each side, and the bytes that are reserved
abbrev pub counts_text : Live → List ℕ
counts_text l = codes " in " ++ numeral 10 l.received ++ codes " svc " ++ numeral 10 l.sent ++ codes " ad " ++ numeral 10 l.adapted_received
    ++ codes " usr " ++ numeral 10 l.delivered ++ codes " claim " ++ numeral 10 l.claim

-- the method and the target, each as one word of the log
abbrev pub request_words : (method target : List ℕ) → List ℕ
request_words method target = codes " " ++ word_of (take MAX_METHOD method) ++ codes " " ++ word_of (take MAX_TARGET target)

-- the user, and what it asked for
abbrev pub asked_text : Live → List ℕ
asked_text l = codes " " ++ user_text l.user ++ request_words l.method.now l.target.now ++ codes "\n"

-- the fields up to the held places
abbrev pub standing_text : Live → List ℕ
standing_text l = age_text l ++ waits_text l ++ still_text l

-- the whole line
abbrev pub live_text : Live → List ℕ
live_text l = standing_text l ++ held_text l ++ counts_text l ++ asked_text l

-- The script.

-- a comment on whose script it is and when it was written
abbrev pub moment_comments : Caption → List ℕ
moment_comments c = codes "# exchange " ++ id_text c.id ++ codes "\n# at " ++ moment_text c.at ++ codes "\n"

-- a comment on its point and its request
abbrev pub request_comment : Caption → Point → List ℕ
request_comment c point = codes "# " ++ point_word point ++ request_words c.method.now c.target.now ++ codes "\n"

-- those comments
unfoldable pub caption_text : Caption → Point → List ℕ
caption_text c point = moment_comments c ++ request_comment c point

-- the comments, the history, and the questions
abbrev pub exchange_script : Caption → Plan → List Event → List ℕ
exchange_script c plan events = caption_text c plan.point ++ history_text plan events ++ needs_text (seen plan events)
