-- The heads that are written: which fields go on, and the text (RFC 9110, section 7.6; RFC 9112, section 3.2).
use Rattle.std.specs.Prelude.{◌≡◌, ℕ, ◌-◌, ◌^◌, ◌<◌, min, All, Bool, true, false, not, ◌||◌, ◌&&◌, List, [], ◌∷◌, ◌++◌, length}
use Rattle.std.specs.Prelude.{slice_index_or, map, Option, Some, None, codes, if◌then◌else◌, ◌==◌, nat_lt, codes}
use Rattle.std.specs.List.{list_any, flat_map, filter}
use Rattle.std.specs.Prelude.{Result, Ok, Err}
use Rattle.std.specs.Str.{str_eq_ignore_ascii_case}
use Rattle.adapt_bytes.specs.Text.{has_item, is_among}
use Rattle.adapt_bytes.specs.Numeral.{three_digits}
use Rattle.adapt_bytes.specs.Fields.{values_of, field_at, name_at}
use Rattle.http_side.specs.declared.fault.HttpFault.{HttpFault}
use Rattle.http_side.specs.Heads.{RequestParts, ResponseParts, count_of}
use Rattle.http_side.specs.Lengths.{content_length, coding}
use Rattle.http_side.specs.Heads.{both_lengths}
use Rattle.http_side.specs.Framings.{is_bare}
use Rattle.http_side.specs.Targets.{authority_of, origin_form, absolute_form, rooted}
use Rattle.http_side.specs.declared.body.Framing.{Framing}
use Rattle.http_side.specs.declared.body.Framing.TheVariants.{None as NoBody, Length, Chunked, Close}
use Rattle.http_side.specs.declared.writing.Beside.{Beside}
use Rattle.http_side.specs.declared.writing.Extra.{Extra}
use Rattle.http_side.specs.declared.forward.Message.{Message}
use Rattle.http_side.specs.declared.forward.Message.TheVariants.{Request, Response}
use Rattle.http_side.specs.declared.forward.BodyKind.{BodyKind}
use Rattle.http_side.specs.declared.forward.BodyKind.TheVariants.{Own, Body, NullBody}
use Rattle.http_side.specs.declared.forward.OriginUse.{OriginUse}
use Rattle.http_side.specs.declared.forward.OriginUse.TheVariants.{Once, Fresh, Kept}
use Rattle.http_side.specs.declared.forward.NextServer.{NextServer}
use Rattle.http_side.specs.declared.forward.NextServer.TheVariants.{Origin, Parent}
use Rattle.http_side.specs.declared.forward.Forward.{Forward}
use Rattle.http_side.specs.declared.forward.Encapsulated.{Encapsulated}

-- fields that end at a proxy
abbrev pub hop_names : List (List ℕ)
hop_names =
    codes "connection" ∷ codes "keep-alive" ∷ codes "proxy-connection" ∷ codes "te" ∷ codes "trailer" ∷ codes "transfer-encoding"
    ∷ codes "upgrade" ∷ codes "proxy-authenticate" ∷ codes "proxy-authorization" ∷ []

-- these stay, though Connection names them
abbrev pub framing_names : List (List ℕ)
framing_names = codes "host" ∷ codes "content-length" ∷ []

-- Connection names the field
abbrev pub is_named_by : List (List ℕ × List ℕ) → List ℕ → Bool
is_named_by fields name = list_any (has_item name) (values_of (codes "connection") fields)

-- it is marked at each place whether Connection names the field there
abbrev pub AreNamed : List (List ℕ × List ℕ) → List Bool → Type 0
AreNamed fields named = (i : ℕ) → i < length fields → i < length named
    → slice_index_or named i false ≡ is_named_by fields (name_at fields i)

-- the fields whose names pass the test are marked too
pub record Marks (test : List ℕ → Bool) (fields : List (List ℕ × List ℕ)) (old new : List Bool) : Type 0 where
  pub size : length new ≡ length old
  pub each : (i : ℕ) → i < length fields → i < length old
      → slice_index_or new i false ≡ (slice_index_or old i false || test (name_at fields i))

-- a field ends here: also Expect in requests, and Content-Length in a response that has both lengths
abbrev pub is_removed : Beside → List (List ℕ × List ℕ) → List ℕ → Bool
is_removed beside fields name =
    is_among hop_names name
    || ((beside.expect && str_eq_ignore_ascii_case name (codes "expect"))
    || ((beside.length && str_eq_ignore_ascii_case name (codes "content-length"))
    || (not (is_among framing_names name) && is_named_by fields name)))

abbrev pub is_length : List ℕ × List ℕ → Bool
is_length f = str_eq_ignore_ascii_case f.0 (codes "content-length")

-- of equal lengths the first goes on
abbrev pub once : Bool → List (List ℕ × List ℕ) → List (List ℕ × List ℕ)
once seen [] = []
once seen (f ∷ fields) = if is_length f && seen then once seen fields else f ∷ once (seen || is_length f) fields

-- the fields that stay
abbrev pub stays : Beside → List (List ℕ × List ℕ) → List ℕ × List ℕ → Bool
stays beside fields f = not (is_removed beside fields f.0)

-- the fields that go on, in their order
abbrev pub kept_fields : Beside → List (List ℕ × List ℕ) → List (List ℕ × List ℕ)
kept_fields beside fields = once false (filter (stays beside fields) fields)

-- the places of the fields that go on
pub record AreKept (beside : Beside) (fields : List (List ℕ × List ℕ)) (places : List ℕ) : Type 0 where
  pub within : All (λ at. at < length fields) places
  pub kept : map (field_at fields) places ≡ kept_fields beside fields

abbrev pub has_host : List (List ℕ × List ℕ) → Bool
has_host fields = nat_lt 0 (count_of (codes "host") fields)

abbrev pub host_line : List ℕ → List ℕ × List ℕ → List ℕ × List ℕ
host_line authority f = if str_eq_ignore_ascii_case f.0 (codes "host") then (f.0, authority) else f

-- in a response no Host is changed
abbrev pub hosted : Option (List ℕ) → List ℕ × List ℕ → List ℕ × List ℕ
hosted None f = f
hosted (Some authority) f = host_line authority f

-- the fields at these places, as they go on
abbrev pub sent_fields : List (List ℕ × List ℕ) → List ℕ → Option (List ℕ) → List (List ℕ × List ℕ)
sent_fields fields places authority = map (hosted authority) (map (field_at fields) places)

abbrev pub when : Bool → List ℕ × List ℕ → List (List ℕ × List ℕ)
when on field = if on then field ∷ [] else []

-- the fields of a response as they go on: it loses its length where it has both
abbrev pub response_fields : List (List ℕ × List ℕ) → List (List ℕ × List ℕ)
response_fields fields = kept_fields (record { expect = false; length = both_lengths fields }) fields

-- the fields of a request as they go on: Host is the target's authority, in its place, or added first
abbrev pub request_fields : List ℕ → List (List ℕ × List ℕ) → List (List ℕ × List ℕ)
request_fields authority fields =
    when (not (has_host fields)) (codes "Host", authority) ++ map (hosted (Some authority))
    (kept_fields (record { expect = true; length = false }) fields)

abbrev pub via_value : ℕ → List ℕ
via_value minor = if minor == 0 then codes "1.0 adaptproxy" else codes "1.1 adaptproxy"

-- what is added after them, each where it holds: how long the body is
abbrev pub framing_fields : Extra → List (List ℕ × List ℕ)
framing_fields extra = when extra.empty (codes "Content-Length", codes "0")
    ++ when extra.chunked (codes "Transfer-Encoding", codes "chunked")

-- and where the connection ends, and who sends it
abbrev pub ending_fields : Extra → ℕ → List (List ℕ × List ℕ)
ending_fields extra minor = when extra.close (codes "Connection", codes "close") ++ when extra.via (codes "Via", via_value minor)

abbrev pub added_fields : Extra → ℕ → List (List ℕ × List ℕ)
added_fields extra minor =
    when extra.empty (codes "Content-Length", codes "0") ++ when extra.chunked (codes "Transfer-Encoding", codes "chunked")
    ++ when extra.close (codes "Connection", codes "close") ++ when extra.via (codes "Via", via_value minor)

-- `name: value` and CR LF
abbrev pub field_line : List ℕ × List ℕ → List ℕ
field_line f = f.0 ++ codes ": " ++ f.1 ++ codes "\r\n"

abbrev pub field_lines : List (List ℕ × List ℕ) → List ℕ
field_lines fields = flat_map field_line fields

abbrev pub first_line : List ℕ → List ℕ
first_line line = line ++ codes "\r\n"

-- a head from its first line and its fields
abbrev pub head_text : List ℕ → List (List ℕ × List ℕ) → List ℕ
head_text first fields = first_line first ++ field_lines fields ++ codes "\r\n"

abbrev pub request_line : List ℕ → List ℕ → List ℕ
request_line method target = method ++ codes " " ++ target ++ codes " HTTP/1.1"

-- a status line keeps the space after its status, also before an empty phrase
abbrev pub status_line : ℕ → List ℕ → List ℕ
status_line status phrase = codes "HTTP/1.1 " ++ three_digits status ++ codes " " ++ phrase

-- a target of this path and query, in absolute or in origin form
abbrev pub form_of : Bool → List ℕ → List ℕ → List ℕ
form_of absolute authority path = if absolute then codes "http://" ++ authority ++ rooted path else rooted path

-- absolute form to a service or a parent, origin form to an origin
abbrev pub target_form : Bool → List ℕ → List ℕ → List ℕ
target_form absolute authority target = if absolute then absolute_form authority target else origin_form target

-- the head of a request of this authority, as it is written
abbrev pub request_text : RequestParts → List ℕ → Bool → Extra → List ℕ
request_text r authority absolute extra =
    head_text (request_line r.method (target_form absolute authority r.target))
    (request_fields authority r.fields ++ added_fields extra r.minor)

-- the head of a response
abbrev pub response_text : ResponseParts → Extra → List ℕ
response_text r extra = head_text (status_line r.status r.phrase) (response_fields r.fields ++ added_fields extra r.minor)

-- how long the text is, up to the greatest number of 64 bits
abbrev pub size_of : List ℕ → ℕ
size_of text = min (length text) (2 ^ 64 - 1)

abbrev pub written_head : Message → List ℕ → Bool → Extra → List ℕ
written_head (Request r) authority absolute extra = request_text r.now authority absolute extra
written_head (Response r) authority absolute extra = response_text r.now extra

-- ---- what is chosen

-- the length that goes on, if one does
abbrev pub length_found : Result (Option ℕ) HttpFault → Option ℕ
length_found (Ok o) = o
length_found (Err fault) = None

abbrev pub length_of : List (List ℕ × List ℕ) → Option ℕ
length_of fields = length_found (content_length fields)

abbrev pub kept_length : Message → Option ℕ
kept_length (Request r) = length_of r.now.fields
kept_length (Response r) = if both_lengths r.now.fields then None else length_of r.now.fields

-- the message is an answer after which no body follows, whatever its fields say
abbrev pub has_no_place : Message → Bool
has_no_place (Request r) = false
has_no_place (Response r) = is_bare r.now

abbrev pub is_response : Message → Bool
is_response (Request r) = false
is_response (Response r) = true

-- the message's own framing says chunked
abbrev pub is_chunked : Result Bool HttpFault → Bool
is_chunked (Ok b) = b
is_chunked (Err fault) = false

-- a message without a length has a body of its own: an answer always, a request where it is chunked
abbrev pub has_own_body : Message → Bool
has_own_body (Request r) = is_chunked (coding r.now.fields)
has_own_body (Response r) = true

-- a message without a length has a body
abbrev pub has_body : BodyKind → Message → Bool
has_body Own message = has_own_body message
has_body Body message = true
has_body NullBody message = false

-- the message goes to a user of HTTP/1.0
abbrev pub is_to_old_user : Forward → Bool
is_to_old_user f = is_response f.message && (f.user.now.minor == 0)

-- the framing of a message without a length: chunked, to an old user until the close; an answer without a body gets length 0
abbrev pub unsized_framing : Forward → Framing
unsized_framing f =
    if has_body f.part f.message then (if is_to_old_user f then Close else Chunked)
    else (if is_response f.message then Length 0 else NoBody)

abbrev pub by_kept_length : Option ℕ → Framing → Framing
by_kept_length (Some n) other = Length n
by_kept_length None other = other

-- the framing towards the next hop
abbrev pub next_framing : Forward → Framing
next_framing f = if has_no_place f.message then NoBody else by_kept_length (kept_length f.message) (unsized_framing f)

abbrev pub is_close : Framing → Bool
is_close Close = true
is_close _ = false

abbrev pub is_chunks : Framing → Bool
is_chunks Chunked = true
is_chunks _ = false

-- the user's connection ends after the answer: an old user, `close` in the request, no further request may come, or an answer
-- that the close ends
abbrev pub closes : Forward → Bool
closes f = (f.user.now.minor == 0) || (is_named_by f.user.now.fields (codes "close") || (not f.carries_on || is_close (next_framing f)))

-- there is none
abbrev pub is_none : {A : Type 0} → Option A → Bool
is_none None = true
is_none (Some x) = false

-- an answer without a body and without a length gets `Content-Length: 0`
abbrev pub gets_zero : Forward → Bool
gets_zero f = is_response f.message && (not (has_no_place f.message) &&
    (is_none (kept_length f.message) && not (has_body f.part f.message)))

-- an origin's connection ends after the answer to this request
abbrev pub is_once : OriginUse → Bool
is_once Once = true
is_once Fresh = false
is_once Kept = false

-- the head says that the connection ends after the message: an origin's by its use, a user's by what holds of the answer
abbrev pub says_close : Forward → Bool
says_close f = if is_response f.message then closes f else is_once f.origin.connection

abbrev pub extra_of : Forward → Extra
extra_of f = record { empty = gets_zero f; chunked = is_chunks (next_framing f); close = says_close f; via = true }

abbrev pub no_extra : Extra
no_extra = record { empty = false; chunked = false; close = false; via = false }

-- a parent proxy gets the target in absolute form, an origin in origin form (RFC 9112, sections 3.2.1 and 3.2.2)
abbrev pub is_absolute : NextServer → Bool
is_absolute Origin = false
is_absolute Parent = true

-- the head as it goes to the next hop
abbrev pub forwarded : Forward → List ℕ
forwarded f = written_head f.message (authority_of f.user.now.target) (is_absolute f.origin.next) (extra_of f)

-- and to a service
abbrev pub encapsulated : Encapsulated → List ℕ
encapsulated e = written_head e.message (authority_of e.user.now.target) true no_extra
