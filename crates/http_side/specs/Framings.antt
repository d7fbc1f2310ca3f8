-- Where a body ends, by its head (RFC 9112, section 6.3).
use Rattle.std.specs.Prelude.{ℕ, ◌||◌, ◌&&◌, Bool, true, false, List, Option, Some, None, Result, Ok, Err, if◌then◌else◌, ◌==◌, nat_le}
use Rattle.http_side.specs.declared.body.Framing.{Framing}
use Rattle.http_side.specs.declared.body.Framing.TheVariants.{None as NoBody, Length, Chunked, Close}
use Rattle.http_side.specs.declared.fault.HttpFault.{HttpFault}
use Rattle.http_side.specs.Lengths.{content_length, coding}
use Rattle.http_side.specs.Heads.{RequestParts, ResponseParts}

abbrev pub by_length : Result (Option ℕ) HttpFault → Framing → Framing
by_length (Ok (Some n)) other = Length n
by_length (Ok None) other = other
by_length (Err fault) other = other

abbrev pub by_coding : Result Bool HttpFault → Framing → Framing
by_coding (Ok true) other = Chunked
by_coding (Ok false) other = other
by_coding (Err fault) other = other

-- chunked, else the length, else the last
abbrev pub by_fields : List (List ℕ × List ℕ) → Framing → Framing
by_fields fields last = by_coding (coding fields) (by_length (content_length fields) last)

abbrev pub request_framing : RequestParts → Framing
request_framing r = by_fields r.fields NoBody

-- an answer to HEAD, and 1xx, 204 and 304 have no body
abbrev pub is_bare : ResponseParts → Bool
is_bare r = r.to_head || ((nat_le 100 r.status && nat_le r.status 199) || ((r.status == 204) || (r.status == 304)))

abbrev pub response_framing : ResponseParts → Framing
response_framing r = if is_bare r then NoBody else by_fields r.fields Close
