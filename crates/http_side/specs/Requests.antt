-- Which texts begin with a request's head that is taken, and why another is refused.
use Rattle.std.specs.Prelude.{◌≡◌, ◌≢◌, ℕ, ◌++◌, ◌<◌, ◌≤◌, ◌⊎◌, Bool, true, false, List, [], length, Some, None}
use Rattle.httparse.specs.Grammar.{RequestHead, ReadsRequest, HasNoRequest, NeverHasRequest, MayBecomeRequest, EndsInTarget}
use Rattle.httparse.specs.Spans.{RequestOverflows, RequestExceeds}
use Rattle.adapt_bytes.specs.declared.limits.TheConstants.{MAX_HEAD, MAX_FIELDS}
use Rattle.http_side.specs.declared.fault.HttpFault.{HttpFault}
use Rattle.http_side.specs.declared.fault.HttpFault.TheVariants.{More, Bad, TooLong, TooMany, BothLengths, Lengths, Coding, Target, Connect}
use Rattle.http_side.specs.declared.fault.HttpFault.TheVariants.{NoMemory}
use Rattle.http_side.specs.Heads.{RequestParts, request_parts, IsRequestAt, judged, unended, request_fault, is_connect}
use Rattle.http_side.specs.Targets.{IsServedIn}

-- a head is refused for this; want of memory is answered where no other fault stands, but perhaps Target
abbrev pub Refuses : Bool → RequestParts → HttpFault → Type 0
Refuses adapted r Bad = request_fault r ≡ Some Bad
Refuses adapted r BothLengths = request_fault r ≡ Some BothLengths
Refuses adapted r Lengths = request_fault r ≡ Some Lengths
Refuses adapted r Coding = request_fault r ≡ Some Coding
Refuses adapted r Target = (request_fault r ≡ None) × (is_connect r ≡ false) × (IsServedIn adapted r → ⊥)
Refuses adapted r Connect = (request_fault r ≡ None) × (is_connect r ≡ true)
Refuses adapted r NoMemory = (request_fault r ≡ None) × (is_connect r ≡ false)
Refuses adapted r _ = ⊥

-- a head is taken
pub record IsTaken (adapted : Bool) (r : RequestParts) : Type 0 where
  pub no_fault : request_fault r ≡ None
  pub no_connect : is_connect r ≡ false
  pub served : IsServedIn adapted r

-- the text begins with a head that is refused so
abbrev pub HasRefused : Bool → List ℕ → HttpFault → Type 0
HasRefused adapted text fault =
    (head : RequestHead) × (rest : List ℕ) × ReadsRequest text head rest × (length head.fields ≤ MAX_FIELDS)
    × Refuses adapted (request_parts head) fault

-- no head is there, and more bytes may make one
abbrev pub IsUnfinished : List ℕ → Type 0
IsUnfinished text = HasNoRequest text × MayBecomeRequest text

-- a text may be refused for this
abbrev pub MayRefuseRequest : Bool → List ℕ → HttpFault → Type 0
MayRefuseRequest adapted text More = IsUnfinished (judged text) × (length text < MAX_HEAD)
MayRefuseRequest adapted text Bad = NeverHasRequest (judged text) ⊎ HasRefused adapted (judged text) Bad
MayRefuseRequest adapted text TooLong = IsUnfinished (judged text) × (MAX_HEAD ≤ length text)
MayRefuseRequest adapted text TooMany = RequestExceeds MAX_FIELDS (judged text) × RequestOverflows MAX_FIELDS (judged text)
MayRefuseRequest adapted text fault = HasRefused adapted (judged text) fault

-- no head is there, and some bytes more make one of at most 100 fields
abbrev pub AwaitsRequest : List ℕ → Type 0
AwaitsRequest text =
    HasNoRequest text × ((more : List ℕ) × (head : RequestHead) × ReadsRequest (text ++ more) head [] × (length head.fields ≤ MAX_FIELDS))

-- no bytes more make a head; the text doesn't end within a target, and no prefix of it has more than 100 fields
abbrev pub IsNoRequest : List ℕ → Type 0
IsNoRequest text = NeverHasRequest text × ¬ (EndsInTarget text) × ¬ (RequestExceeds MAX_FIELDS text)

-- a head of more than 100 fields is there
abbrev pub HasLongRequest : List ℕ → Type 0
HasLongRequest text = (head : RequestHead) × (rest : List ℕ) × ReadsRequest text head rest × (MAX_FIELDS < length head.fields)

-- a text has to be refused for this: what its first 16,384 bytes begin with decides
abbrev pub RefusesRequest : Bool → List ℕ → HttpFault → Type 0
RefusesRequest adapted text fault =
    ((fault ≡ unended (length text)) × AwaitsRequest (judged text))
    ⊎ ((fault ≡ Bad) × IsNoRequest (judged text))
    ⊎ ((fault ≡ TooMany) × HasLongRequest (judged text))
    ⊎ ((fault ≢ NoMemory) × HasRefused adapted (judged text) fault)

-- the head and its length, as they are answered
pub record IsRead (adapted : Bool) (text : List ℕ) (r : RequestParts) (len : ℕ) : Type 0 where
  pub there : IsRequestAt (judged text) r len
  pub few : length r.fields ≤ MAX_FIELDS
  pub taken : IsTaken adapted r
