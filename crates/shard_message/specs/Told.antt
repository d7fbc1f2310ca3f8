-- What a transaction of the proxy's own sides says to the exchange that it belongs to.
use Rattle.std.specs.Prelude.{◌≡◌, ℕ, Bool, false, not, ◌==◌, List, [], Option, None, Some}
use Rattle.trace_core.specs.declared.history.Point.{Point}
use Rattle.adapt_bytes.specs.Fields.{FieldList}
use Rattle.adapt_turn.specs.declared.ends.ServiceEnd.{ServiceEnd}
use Rattle.adapt_turn.specs.Refusals.{user_untouched}
use Rattle.http_side.specs.Heads.{RequestParts}
use Rattle.icap_client.specs.Carried.{carried_text}
use Rattle.icap_client.specs.Turns.{is_reusable}
use Rattle.icap_client.specs.declared.service.ServiceSide.{ServiceSide}
use Rattle.http_relay.specs.declared.side.SourceSide.{SourceSide}
use Rattle.http_relay.specs.Reading.{ComesAgain}
use Rattle.proxy_rules.specs.Arrivals.{Arrival, HasCome}
use Rattle.proxy_rules.specs.Running.{OwnEnds}

-- the connection to the service may carry another request: there is a service, and its exchange was whole
abbrev pub reusable_by : {V W : Type 0} → (V → Bool) → Option (ServiceEnd V W) → Bool
reusable_by reusable None = false
reusable_by reusable (Some service) = reusable service.side

abbrev pub may_serve_again : {E A W C H G : Type 0} → OwnEnds E A W C H G → Bool
may_serve_again ends = reusable_by is_reusable ends.service

-- a byte of an answer went to the user
abbrev pub has_answered : {E A W C H G : Type 0} → Point → OwnEnds E A W C H G → Bool
has_answered point ends = not (user_untouched point (not ends.next.touched) (not ends.back.touched))

-- a request of HTTP/1.0
abbrev pub is_old_in : Option RequestParts → Bool
is_old_in None = false
is_old_in (Some head) = head.minor == 0

-- the fields of the head of a service's last answer
abbrev pub fields_of : ServiceSide → FieldList
fields_of side = side.replies.reader.remarks

-- the lines of the fields with one of these names, of the last answer of the service; none without a service
abbrev pub carried_by : {V W : Type 0} → (V → FieldList) → (names : List (List ℕ)) → Option (ServiceEnd V W) → List ℕ
carried_by fields names None = []
carried_by fields names (Some service) = carried_text names (fields service.side)

-- this message is the response to this request, before its first byte
abbrev pub IsResponseTo : SourceSide → Arrival → Type 0
IsResponseTo request message = (message.user ≡ Some request) × HasCome [] message.side

-- this message is this request again, whose head was read once more: its bytes are a text that is just that head, and then those that were
-- left over
abbrev pub IsRequestAgain : SourceSide → Arrival → Type 0
IsRequestAgain request message = (message.user ≡ None) × ((bytes : List ℕ) × ComesAgain request.head request.raw.items bytes
    × HasCome bytes message.side)

-- this message is the next request on the connection of this one: it begins with the bytes that were left over
abbrev pub IsRequestAfter : SourceSide → Arrival → Type 0
IsRequestAfter request message = (message.user ≡ None) × HasCome request.raw.items message.side
