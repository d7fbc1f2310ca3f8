-- Which texts begin with a response's head that is taken, and why another is refused.
use Rattle.std.specs.Prelude.{◌≡◌, ◌≢◌, ℕ, ◌++◌, ◌<◌, ◌≤◌, ◌⊎◌, Bool, false, List, [], length, Some, None}
use Rattle.httparse.specs.Grammar.{ResponseHead, ReadsResponse, HasNoResponse, NeverHasResponse, MayBecomeResponse}
use Rattle.httparse.specs.Spans.{ResponseOverflows, ResponseExceeds}
use Rattle.adapt_bytes.specs.declared.limits.TheConstants.{MAX_HEAD, MAX_FIELDS}
use Rattle.http_side.specs.declared.fault.HttpFault.{HttpFault}
use Rattle.http_side.specs.declared.fault.HttpFault.TheVariants.{More, Bad, TooLong, TooMany, Lengths, Coding, NoMemory}
use Rattle.http_side.specs.Heads.{ResponseParts, response_parts, IsResponseAt, judged, unended, response_fault}

-- a head is refused for this; want of memory is answered where no other fault stands
abbrev pub RefusesAnswer : ResponseParts → HttpFault → Type 0
RefusesAnswer r Lengths = response_fault r ≡ Some Lengths
RefusesAnswer r Coding = response_fault r ≡ Some Coding
RefusesAnswer r NoMemory = response_fault r ≡ None
RefusesAnswer r _ = ⊥

-- the text begins with a head that is refused so
abbrev pub HasRefusedAnswer : List ℕ → HttpFault → Type 0
HasRefusedAnswer text fault =
    (head : ResponseHead) × (rest : List ℕ) × ReadsResponse text head rest × (length head.fields ≤ MAX_FIELDS)
    × RefusesAnswer (response_parts head false) fault

-- no head is there, and more bytes may make one
abbrev pub IsUnfinishedResponse : List ℕ → Type 0
IsUnfinishedResponse text = HasNoResponse text × MayBecomeResponse text

-- a text may be refused for this
abbrev pub MayRefuseResponse : List ℕ → HttpFault → Type 0
MayRefuseResponse text More = IsUnfinishedResponse (judged text) × (length text < MAX_HEAD)
MayRefuseResponse text Bad = NeverHasResponse (judged text)
MayRefuseResponse text TooLong = IsUnfinishedResponse (judged text) × (MAX_HEAD ≤ length text)
MayRefuseResponse text TooMany = ResponseExceeds MAX_FIELDS (judged text) × ResponseOverflows MAX_FIELDS (judged text)
MayRefuseResponse text fault = HasRefusedAnswer (judged text) fault

-- no head is there, and some bytes more make one of at most 100 fields
abbrev pub AwaitsResponse : List ℕ → Type 0
AwaitsResponse text =
    HasNoResponse text × ((more : List ℕ) × (head : ResponseHead) × ReadsResponse (text ++ more) head []
    × (length head.fields ≤ MAX_FIELDS))

-- no bytes more make a head, and no prefix of the text has more than 100 fields
abbrev pub IsNoResponse : List ℕ → Type 0
IsNoResponse text = NeverHasResponse text × ¬ (ResponseExceeds MAX_FIELDS text)

-- a head of more than 100 fields is there
abbrev pub HasLongResponse : List ℕ → Type 0
HasLongResponse text = (head : ResponseHead) × (rest : List ℕ) × ReadsResponse text head rest × (MAX_FIELDS < length head.fields)

-- a text has to be refused for this: what its first 16,384 bytes begin with decides
abbrev pub RefusesResponse : List ℕ → HttpFault → Type 0
RefusesResponse text fault =
    ((fault ≡ unended (length text)) × AwaitsResponse (judged text))
    ⊎ ((fault ≡ Bad) × IsNoResponse (judged text))
    ⊎ ((fault ≡ TooMany) × HasLongResponse (judged text))
    ⊎ ((fault ≢ NoMemory) × HasRefusedAnswer (judged text) fault)

-- the head and its length, as they are answered
pub record IsResponseRead (to_head : Bool) (text : List ℕ) (r : ResponseParts) (len : ℕ) : Type 0 where
  pub there : IsResponseAt (judged text) r len
  pub few : length r.fields ≤ MAX_FIELDS
  pub asked : r.to_head ≡ to_head
  pub no_fault : response_fault r ≡ None
