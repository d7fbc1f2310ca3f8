-- Heads of ICAP messages (RFC 3507, section 4.3): a start line, field lines and an empty line.
use Rattle.std.specs.Prelude.{◌≡◌, ℕ, ◌≤◌, ◌⊎◌, List, [], length, take, codes}
use Rattle.adapt_bytes.specs.declared.limits.TheConstants.{MAX_FIELDS, MAX_HEAD}
use Rattle.adapt_bytes.specs.Fields.{FieldList}
use Rattle.icap_head.specs.Fields.{field_list}
use Rattle.icap_head.specs.FieldLines.{ReadsFields, HasFields, RefusesFields, unended}
use Rattle.icap_head.specs.Folds.{unfolded}
use Rattle.icap_head.specs.Methods.{request_method_name}
use Rattle.icap_head.specs.StartLines.{IsFirstLine, HasNoLine, IsRequestLine, IsStatusLine, RequestForm, StatusForm, RefusesStartLine}
use Rattle.icap_head.specs.StartLines.{MayBeRequestLine}
use Rattle.icap_head.specs.declared.reading.HeadFault.{HeadFault}
use Rattle.icap_head.specs.declared.reading.HeadFault.TheVariants as Faults
use Rattle.icap_head.specs.declared.requests.IcapRequest.{IcapRequest}
use Rattle.icap_head.specs.declared.responses.IcapResponse.{IcapResponse}

-- the text is a start line that passes, field lines and an empty line, and then rest
pub record ReadsHead (IsStart : List ℕ → Type 0) (text : List ℕ) (fields : FieldList) (rest : List ℕ) : Type 0 where
  pub line : List ℕ
  pub behind : List ℕ
  pub first : IsFirstLine text line behind
  pub start : IsStart line
  pub section : ReadsFields behind fields rest

-- the first bytes of the text, as many as size says, are such a head of at most 100 fields, and it ends within the limit
pub record HasHead (IsStart : List ℕ → Type 0) (text : List ℕ) (fields : FieldList) (size : ℕ) : Type 0 where
  pub inside : size ≤ length text
  pub within : size ≤ MAX_HEAD
  pub few : length fields ≤ MAX_FIELDS
  pub head : ReadsHead IsStart (take size text) fields []

-- the faults by their numbers
abbrev pub fault_number : HeadFault → ℕ
fault_number Faults.More = 1
fault_number Faults.StartLine = 2
fault_number Faults.Version = 3
fault_number Faults.Field = 4
fault_number Faults.TooLong = 5
fault_number Faults.TooMany = 6
fault_number Faults.NoMemory = 7

-- why no head is read, of a start line of that form: the first 16,384 bytes have no whole line, or a line that is refused,
-- or fields that are
abbrev pub RefusesIcapHead : (List ℕ → List ℕ → Type 0) → HeadFault → List ℕ → Type 0
RefusesIcapHead Form fault text =
    ((fault ≡ unended (length text)) × HasNoLine (take MAX_HEAD text))
    ⊎ ((line : List ℕ) × (behind : List ℕ) × IsFirstLine (take MAX_HEAD text) line behind
    × (RefusesStartLine Form fault line ⊎ (Form (codes "ICAP/1.0") line × RefusesFields fault (length text) behind)))

-- the first line may be that of a request, by its method and its version
abbrev pub NeedsUri : List ℕ → Type 0
NeedsUri text = (line : List ℕ) × (behind : List ℕ) × IsFirstLine (take MAX_HEAD text) line behind × MayBeRequestLine line

-- what may be answered where memory runs out: the first line may be that of a request, and the fields after it are refused
-- for this fault, or the fault is NoMemory and they are whole
abbrev pub ForWantOfMemory : HeadFault → List ℕ → Type 0
ForWantOfMemory fault text =
    (line : List ℕ) × (behind : List ℕ) × IsFirstLine (take MAX_HEAD text) line behind × MayBeRequestLine line
    × (((fault ≡ Faults.NoMemory) × HasFields behind) ⊎ RefusesFields fault (length text) behind)

-- the first line is refused as that of a request
abbrev pub RefusesRequestLine : HeadFault → List ℕ → Type 0
RefusesRequestLine fault text =
    (line : List ℕ) × (behind : List ℕ) × IsFirstLine (take MAX_HEAD text) line behind × RefusesStartLine RequestForm fault line

-- a request's parts
pub record Request : Type 0 where
  pub method : List ℕ
  pub uri : List ℕ
  pub fields : FieldList

-- a response's parts
pub record Response : Type 0 where
  pub status : ℕ
  pub phrase : List ℕ
  pub fields : FieldList

-- the start line of this request
abbrev pub StartsRequest : Request → List ℕ → Type 0
StartsRequest value line = IsRequestLine line value.method value.uri (codes "ICAP/1.0")

-- the start line of this response
abbrev pub StartsResponse : Response → List ℕ → Type 0
StartsResponse value line = IsStatusLine line value.status value.phrase (codes "ICAP/1.0")

-- the text is the head of this request
abbrev pub IsRequestHead : List ℕ → Request → Type 0
IsRequestHead text value = ReadsHead (StartsRequest value) text value.fields []

-- the text is the head of this response, in which nothing is folded
abbrev pub IsResponseHead : List ℕ → Response → Type 0
IsResponseHead text value = ReadsHead (StartsResponse value) text value.fields []

-- the text begins with the head of this request, of this many bytes
abbrev pub HasRequest : List ℕ → Request → ℕ → Type 0
HasRequest text value size = HasHead (StartsRequest value) text value.fields size

-- the text begins with the head of this response, in which nothing is folded, of this many bytes
abbrev pub HasPlainResponse : List ℕ → Response → ℕ → Type 0
HasPlainResponse text value size = HasHead (StartsResponse value) text value.fields size

-- the text begins with the head of this response, of this many bytes: with each fold written over by spaces
abbrev pub HasResponse : List ℕ → Response → ℕ → Type 0
HasResponse text value size = HasPlainResponse (unfolded text) value size

-- why no head of a response is read
abbrev pub RefusesResponse : HeadFault → List ℕ → Type 0
RefusesResponse fault text = RefusesIcapHead StatusForm fault (unfolded text)

-- what a contract sees of a request
abbrev pub request_parts : IcapRequest → Request
request_parts r = record { method = request_method_name r.method; uri = r.uri.items; fields = field_list r.fields }

-- what a contract sees of a response
abbrev pub response_parts : IcapResponse → Response
response_parts r = record { status = r.status; phrase = r.phrase.items; fields = field_list r.fields }
