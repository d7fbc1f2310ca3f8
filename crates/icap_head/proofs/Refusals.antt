-- What is answered at each part of a head, as the answer for the whole text.
use Rattle.std.proofs.Common.{◌≡◌, ℕ, ◌≤◌, ◌⊎◌, inl, inr, List, length, take, drop, codes, subst, refl}
use Rattle.icap_head.specs.declared.reading.HeadFault.{HeadFault}
use Rattle.icap_head.specs.declared.reading.HeadFault.TheVariants.{NoMemory}
use Rattle.adapt_bytes.specs.Fields.{FieldList}
use Rattle.icap_head.specs.FieldLines.{ReadsFields, HasFields, RefusesFields}
use Rattle.icap_head.specs.StartLines.{IsFirstLine, IsStatusLine, MayBeRequestLine, RequestForm, StatusForm, RefusesStartLine}
use Rattle.icap_head.specs.Heads.{Request, Response, ForWantOfMemory, HasRequest, HasPlainResponse, StartsRequest, StartsResponse}
use Rattle.icap_head.specs.Heads.{RefusesIcapHead}
use Rattle.icap_head.proofs.Readings.{has_head, has_some_head}

-- what a reader of requests may answer
abbrev pub RequestRefused : HeadFault → List ℕ → Type 0
RequestRefused fault text = RefusesIcapHead RequestForm fault text ⊎ ForWantOfMemory fault text

-- what a reader of responses may answer
abbrev pub ResponseRefused : HeadFault → List ℕ → Type 0
ResponseRefused fault text = ((fault ≡ NoMemory) × ((value : Response) × (size : ℕ) × HasPlainResponse text value size))
    ⊎ RefusesIcapHead StatusForm fault text

-- a fault for which the first line of the judged bytes is refused as a request line may be answered of the text
pub request_line_refused : (fault : HeadFault) (text seen line behind : List ℕ) → seen ≡ take 16384 text → IsFirstLine seen line behind
    → RefusesStartLine RequestForm fault line → RequestRefused fault text
request_line_refused fault text seen line behind e first h = inl (inr (line, behind, subst (λ t. IsFirstLine t line behind) e first, inl h))

-- the same of a fault of what comes after a line that may be a request's
pub request_fields_refused : (fault : HeadFault) (text seen line behind : List ℕ) → seen ≡ take 16384 text → IsFirstLine seen line behind
    → MayBeRequestLine line → ((fault ≡ NoMemory) × HasFields behind) ⊎ RefusesFields fault (length text) behind → RequestRefused fault text
request_fields_refused fault text seen line behind e first may h =
    inr (line, behind, subst (λ t. IsFirstLine t line behind) e first, may, h)

-- and where it has fields that pass, and memory ran out
pub request_unkept : (text seen line behind : List ℕ) → seen ≡ take 16384 text → IsFirstLine seen line behind → MayBeRequestLine line
    → (fields : FieldList) (rest : List ℕ) → ReadsFields behind fields rest → length fields ≤ 100 → RequestRefused NoMemory text
request_unkept text seen line behind e first may fields rest reads few =
    request_fields_refused NoMemory text seen line behind e first may (inl (refl, (fields, rest, reads, few)))

-- a request line and at most 100 fields in the judged bytes are a head of a request of the text
pub has_request : (value : Request) (text seen line behind : List ℕ) (n : ℕ) → seen ≡ take 16384 text → n ≤ length seen
    → IsFirstLine seen line behind → StartsRequest value line
    → length value.fields ≤ 100 → ReadsFields behind value.fields (drop n seen) → HasRequest text value n
has_request value text seen line behind n e inside first h few fields =
    has_head (StartsRequest value) text line behind value.fields n (subst (λ t. n ≤ length t) e inside)
    (subst (λ t. IsFirstLine t line behind) e first) h
    (subst (λ t. ReadsFields behind value.fields (drop n t)) e fields) few

-- a fault for which the first line of the judged bytes is refused as a status line may be answered of the text
pub status_line_refused : (fault : HeadFault) (text seen line behind : List ℕ) → seen ≡ take 16384 text → IsFirstLine seen line behind
    → RefusesStartLine StatusForm fault line → ResponseRefused fault text
status_line_refused fault text seen line behind e first h = inr (inr (line, behind, subst (λ t. IsFirstLine t line behind) e first, inl h))

-- a fault of the fields after a status line, or want of memory for whole ones, may be answered of the text
pub response_fields_refused : (fault : HeadFault) (text seen line behind : List ℕ) (status : ℕ) (phrase : List ℕ) → seen ≡ take 16384 text
    → IsFirstLine seen line behind
    → IsStatusLine line status phrase (codes "ICAP/1.0")
    → ((fault ≡ NoMemory) × HasFields behind) ⊎ RefusesFields fault (length text) behind → ResponseRefused fault text
response_fields_refused fault text seen line behind status phrase e first h (inl m) =
    let value : Response = record { status = status; phrase = phrase; fields = m.1.0 } in
    let some = has_some_head (StartsResponse value) text line behind m.1.0 m.1.1 (subst (λ t. IsFirstLine t line behind) e first) h m.1.2
    m.1.3 in
    inl (m.0, (value, some.0, some.1))
response_fields_refused fault text seen line behind status phrase e first h (inr s) =
    inr (inr (line, behind, subst (λ t. IsFirstLine t line behind) e first, inr ((status, phrase, h), s)))

-- a status line and at most 100 fields in the judged bytes are a plain head of a response of the text
pub has_response : (value : Response) (text seen line behind : List ℕ) (n : ℕ) → seen ≡ take 16384 text → n ≤ length seen
    → IsFirstLine seen line behind → StartsResponse value line
    → length value.fields ≤ 100 → ReadsFields behind value.fields (drop n seen) → HasPlainResponse text value n
has_response value text seen line behind n e inside first h few fields =
    has_head (StartsResponse value) text line behind value.fields n (subst (λ t. n ≤ length t) e inside)
    (subst (λ t. IsFirstLine t line behind) e first) h
    (subst (λ t. ReadsFields behind value.fields (drop n t)) e fields) few
