-- What holds of every head that goes on.
use Rattle.std.specs.Prelude.{◌≡◌, ℕ, ◌<◌, ◌≤◌, Bool, List, ◌++◌, codes, if◌then◌else◌}
use Rattle.http_side.specs.declared.body.Framing.{Framing}
use Rattle.http_side.specs.declared.body.Framing.TheVariants.{None as NoBody, Close}
use Rattle.http_side.specs.declared.forward.Message.{Message}
use Rattle.http_side.specs.declared.forward.Message.TheVariants.{Request, Response}
use Rattle.http_side.specs.declared.forward.Forward.{Forward}
use Rattle.http_side.specs.Heads.{RequestParts, ResponseParts, count_of}
use Rattle.http_side.specs.Requests.{IsRead}
use Rattle.http_side.specs.Responses.{IsResponseRead}
use Rattle.http_side.specs.Framings.{by_fields, is_bare}
use Rattle.http_side.specs.Targets.{authority_of}
use Rattle.http_side.specs.Forward.{request_fields, response_fields, added_fields, extra_of}

-- the head was read
abbrev pub WasReadRequest : RequestParts → Type 0
WasReadRequest r = (adapted : Bool) × (text : List ℕ) × (len : ℕ) × IsRead adapted text r len

abbrev pub WasReadResponse : ResponseParts → Type 0
WasReadResponse r = (to_head : Bool) × (text : List ℕ) × (len : ℕ) × IsResponseRead to_head text r len

abbrev pub WasRead : Message → Type 0
WasRead (Request r) = WasReadRequest r.now
WasRead (Response r) = WasReadResponse r.now

-- the message is this request
abbrev pub IsRequestOf : RequestParts → Message → Type 0
IsRequestOf parts (Request r) = r.now ≡ parts
IsRequestOf parts (Response r) = ⊥

-- the fields of a message as they go on, of this authority, and those of its head with what is added
abbrev pub passed_fields : List ℕ → Message → List (List ℕ × List ℕ)
passed_fields authority (Request r) = request_fields authority r.now.fields
passed_fields authority (Response r) = response_fields r.now.fields

abbrev pub minor_of : Message → ℕ
minor_of (Request r) = r.now.minor
minor_of (Response r) = r.now.minor

abbrev pub forwarded_fields : Forward → List (List ℕ × List ℕ)
forwarded_fields f = passed_fields (authority_of f.user.now.target) f.message ++ added_fields (extra_of f) (minor_of f.message)

-- one length at most, one coding at most, and never both
pub record HasOneLength (fields : List (List ℕ × List ℕ)) : Type 0 where
  pub length : count_of (codes "content-length") fields ≤ 1
  pub coding : count_of (codes "transfer-encoding") fields ≤ 1
  pub one : 0 < count_of (codes "transfer-encoding") fields → count_of (codes "content-length") fields ≡ 0

-- where the next hop sees the body end, by these fields
abbrev pub framing_seen : Message → List (List ℕ × List ℕ) → Framing
framing_seen (Request r) fields = by_fields fields NoBody
framing_seen (Response r) fields = if is_bare r.now then NoBody else by_fields fields Close
