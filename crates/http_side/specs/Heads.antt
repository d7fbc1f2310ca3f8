-- Heads by their parts, and which of them a proxy takes (RFC 9112, sections 2 to 6).
use Rattle.std.specs.Prelude.{◌≡◌, ℕ, Bool, ◌||◌, ◌&&◌, List, [], length, map, take, drop, Option, Some, None, is_err, codes, if◌then◌else◌}
use Rattle.std.specs.Prelude.{◌==◌, nat_lt, bytes_eq}
use Rattle.httparse.specs.Grammar.{RequestHead, print_request, ReadsRequest, ResponseHead, print_response, ReadsResponse, status_code}
use Rattle.httparse.specs.Grammar.{reason_phrase}
use Rattle.httparse.specs.Spans.{name_and_value, span_bytes, header_bytes}
use Rattle.httparse.specs.declared.spans.HeaderSpan.{HeaderSpan}
use Rattle.httparse.specs.declared.spans.RequestSpans.{RequestSpans}
use Rattle.httparse.specs.declared.spans.ResponseSpans.{ResponseSpans}
use Rattle.adapt_bytes.specs.declared.limits.TheConstants.{MAX_HEAD}
use Rattle.http_side.specs.declared.fault.HttpFault.{HttpFault}
use Rattle.http_side.specs.declared.fault.HttpFault.TheVariants as Faults
use Rattle.adapt_bytes.specs.Fields.{values_of}
use Rattle.http_side.specs.declared.fault.HttpFault.TheVariants.{More, TooLong, Bad, BothLengths, Lengths, Coding}
use Rattle.http_side.specs.Lengths.{content_length, coding}

-- the faults by their numbers
abbrev pub fault_number : HttpFault → ℕ
fault_number Faults.More = 1
fault_number Faults.Bad = 2
fault_number Faults.TooLong = 3
fault_number Faults.TooMany = 4
fault_number Faults.BothLengths = 5
fault_number Faults.Lengths = 6
fault_number Faults.Coding = 7
fault_number Faults.Target = 8
fault_number Faults.Connect = 9
fault_number Faults.NoMemory = 10

-- a request's head; fields are names as they came, and values without blanks at their ends
pub record RequestParts : Type 0 where
  pub method : List ℕ
  pub target : List ℕ
  pub minor : ℕ
  pub fields : List (List ℕ × List ℕ)

-- a response's head
pub record ResponseParts : Type 0 where
  pub status : ℕ
  pub phrase : List ℕ
  pub minor : ℕ
  pub fields : List (List ℕ × List ℕ)
  pub to_head : Bool

-- the parts of a head of the grammar
abbrev pub request_parts : RequestHead → RequestParts
request_parts h = record { method = h.method; target = h.target; minor = h.minor; fields = map name_and_value h.fields }

abbrev pub response_parts : ResponseHead → Bool → ResponseParts
response_parts h to_head = record {
  status = status_code h;
  phrase = reason_phrase h.reason;
  minor = h.minor;
  fields = map name_and_value h.fields;
  to_head = to_head;
}

-- the text is the head of a request with these parts, and nothing more
abbrev pub IsRequestText : List ℕ → RequestParts → Type 0
IsRequestText text parts = (head : RequestHead) × ReadsRequest text head [] × (request_parts head ≡ parts)

-- the text begins with a request's head of this length, which has these parts
pub record IsRequestAt (text : List ℕ) (parts : RequestParts) (len : ℕ) : Type 0 where
  pub head : RequestHead
  pub reads : ReadsRequest text head (drop len text)
  pub len_is : len ≡ length (print_request head)
  pub parts_are : request_parts head ≡ parts

pub record IsResponseAt (text : List ℕ) (parts : ResponseParts) (len : ℕ) : Type 0 where
  pub head : ResponseHead
  pub reads : ReadsResponse text head (drop len text)
  pub len_is : len ≡ length (print_response head)
  pub parts_are : response_parts head parts.to_head ≡ parts

-- what is judged of a text
abbrev pub judged : List ℕ → List ℕ
judged text = take MAX_HEAD text

-- a head without an end among this many bytes: more may come, or it is too long
abbrev pub unended : ℕ → HttpFault
unended len = if nat_lt len MAX_HEAD then More else TooLong

abbrev pub count_of : List ℕ → List (List ℕ × List ℕ) → ℕ
count_of name fields = length (values_of name fields)

-- two Hosts, or none in HTTP/1.1
abbrev pub bad_hosts : RequestParts → Bool
bad_hosts r = nat_lt 1 (count_of (codes "host") r.fields) || (r.minor == 1 && count_of (codes "host") r.fields == 0)

abbrev pub both_lengths : List (List ℕ × List ℕ) → Bool
both_lengths fields = nat_lt 0 (count_of (codes "content-length") fields) && nat_lt 0 (count_of (codes "transfer-encoding") fields)

-- this fault where it stands, else the next one
abbrev pub unless : Bool → HttpFault → Option HttpFault → Option HttpFault
unless stands fault other = if stands then Some fault else other

-- the first fault of a request's version and fields that stands
abbrev pub request_fault : RequestParts → Option HttpFault
request_fault r =
    unless (bad_hosts r) Bad
    (unless (both_lengths r.fields) BothLengths
    (unless (is_err (content_length r.fields)) Lengths
    (unless (is_err (coding r.fields)) Coding
    None)))

abbrev pub is_connect : RequestParts → Bool
is_connect r = bytes_eq r.method (codes "CONNECT")

abbrev pub is_options : RequestParts → Bool
is_options r = bytes_eq r.method (codes "OPTIONS")

-- the first fault of a response's fields that stands
abbrev pub fields_fault : List (List ℕ × List ℕ) → Option HttpFault
fields_fault fields = unless (is_err (content_length fields)) Lengths (unless (is_err (coding fields)) Coding None)

abbrev pub response_fault : ResponseParts → Option HttpFault
response_fault r = fields_fault r.fields

-- the parts that the parser's offsets give
abbrev pub parts_at : List ℕ → RequestSpans → List HeaderSpan → RequestParts
parts_at buf spans lines =
    record {
      method = span_bytes buf spans.method;
      target = span_bytes buf spans.path;
      minor = spans.version;
      fields = map (header_bytes buf) lines;
    }

abbrev pub response_at : List ℕ → ResponseSpans → List HeaderSpan → Bool → ResponseParts
response_at buf spans lines to_head =
    record {
      status = spans.code;
      phrase = span_bytes buf spans.reason;
      minor = spans.version;
      fields = map (header_bytes buf) lines;
      to_head = to_head;
    }
