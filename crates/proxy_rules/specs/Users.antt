-- What a user's request asks of the proxy beside its message (RFC 9110, sections 9.3.2 and 10.1.1).
use Rattle.std.specs.Prelude.{ℕ, Bool, true, false, not, ◌&&◌, List, codes, bytes_eq, ◌==◌}
use Rattle.std.specs.List.{list_any}
use Rattle.adapt_bytes.specs.Fields.{values_of}
use Rattle.adapt_bytes.specs.Text.{has_item}
use Rattle.http_side.specs.Framings.{request_framing}
use Rattle.http_side.specs.Heads.{RequestParts}
use Rattle.http_side.specs.declared.body.Framing.{Framing}
use Rattle.http_side.specs.declared.body.Framing.TheVariants as by

abbrev pub is_head_request : RequestParts → Bool
is_head_request user = bytes_eq user.method (codes "HEAD")

-- a body of some bytes, or of a length that isn't known
abbrev pub has_body_to_read : Framing → Bool
has_body_to_read by.None = false
has_body_to_read (by.Length n) = not (n == 0)
has_body_to_read by.Chunked = true
has_body_to_read by.Close = true

-- an Expect field names `100-continue`
abbrev pub expects_continue : List (List ℕ × List ℕ) → Bool
expects_continue fields = list_any (has_item (codes "100-continue")) (values_of (codes "expect") fields)

-- a user of HTTP/1.1 with a body that expects it
abbrev pub awaits_continue : RequestParts → Bool
awaits_continue user = (user.minor == 1) && (has_body_to_read (request_framing user) && expects_continue user.fields)
