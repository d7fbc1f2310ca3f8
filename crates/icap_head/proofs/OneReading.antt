-- The readings of requests and of responses.
use Rattle.std.proofs.Common.{◌≡◌, ◌≢◌, ℕ, List, length, take, drop, ap, subst, codes, Result, Ok, Err, IfOk, IfErr, IsOkAnd, IsErrAnd, ◌⊎◌}
use Rattle.std.proofs.Common.{inl, inr}
use Rattle.icap_head.specs.declared.requests.IcapRequest.{IcapRequest}
use Rattle.icap_head.specs.declared.responses.IcapResponse.{IcapResponse}
use Rattle.icap_head.specs.declared.reading.Head.{Head}
use Rattle.icap_head.specs.declared.reading.HeadFault.{HeadFault}
use Rattle.icap_head.specs.declared.reading.HeadFault.TheVariants.{StartLine, Version, NoMemory}
use Rattle.icap_head.specs.Heads.{Request, Response, StartsRequest, StartsResponse, HasRequest, HasPlainResponse, RefusesIcapHead, NeedsUri}
use Rattle.icap_head.specs.Heads.{ForWantOfMemory, request_parts, response_parts}
use Rattle.icap_head.specs.FieldLines.{HasFields, RefusesFields}
use Rattle.icap_head.specs.StartLines.{RequestForm, StatusForm}
use Rattle.icap_head.proofs.Readings.{OneVersion, head_reads, head_unique, no_fault, no_fields_fault, one_fault, one_fields_fault}
use Rattle.icap_head.proofs.Statuses.{status_line_unique}
use Rattle.icap_head.proofs.Words.{line_unique, first_unique}

-- a line has the form of a request line for one version only
pub request_version : OneVersion RequestForm
request_version line v w f g = (line_unique line f.0 f.1 v g.0 g.1 w f.2 g.2).2

-- a line has the form of a status line for one version only
pub status_version : OneVersion StatusForm
status_version line v w f g = (status_line_unique line f.0 g.0 f.1 g.1 v w f.2 g.2).2

-- requests with the same method, URI and fields are the same
same_request : (x y : Request) → x.method ≡ y.method → x.uri ≡ y.uri → x.fields ≡ y.fields → x ≡ y
same_request x y m u f = λ i. record { method = m i; uri = u i; fields = f i }

-- responses with the same status, phrase and fields are the same
same_response : (x y : Response) → x.status ≡ y.status → x.phrase ≡ y.phrase → x.fields ≡ y.fields → x ≡ y
same_response x y s p f = λ i. record { status = s i; phrase = p i; fields = f i }

-- a text begins with the head of one request only, of one length
pub request_unique : (text : List ℕ) (x y : Request) (n m : ℕ) → HasRequest text x n → HasRequest text y m → (x ≡ y) × (n ≡ m)
request_unique text x y n m h g =
    let same = head_unique (StartsRequest x) (StartsRequest y) text x.fields y.fields n m h g in
    let words = line_unique same.0.0 x.method x.uri (codes "ICAP/1.0") y.method y.uri (codes "ICAP/1.0") same.0.1 same.0.2 in
    (same_request x y words.0 words.1 same.1, same.2)

-- a text begins with the head of one response only, of one length, where nothing is folded
pub response_unique : (text : List ℕ) (x y : Response) (n m : ℕ) → HasPlainResponse text x n → HasPlainResponse text y m → (x ≡ y) × (n ≡ m)
response_unique text x y n m h g =
    let same = head_unique (StartsResponse x) (StartsResponse y) text x.fields y.fields n m h g in
    let words = status_line_unique same.0.0 x.status y.status x.phrase y.phrase (codes "ICAP/1.0") (codes "ICAP/1.0") same.0.1 same.0.2 in
    (same_response x y words.0 words.1 same.1, same.2)

-- a text that begins with the head of a request has no fault as one
pub no_request_fault : (fault : HeadFault) (text : List ℕ) (value : Request) (n : ℕ) → HasRequest text value n
    → RefusesIcapHead RequestForm fault text → ⊥
no_request_fault fault text value n h s = no_fault RequestForm request_version (StartsRequest value)
    (λ line l. (value.method, value.uri, l)) fault text value.fields n h s

-- a text that begins with the head of a response, in which nothing is folded, has no fault as one
pub no_response_fault : (fault : HeadFault) (text : List ℕ) (value : Response) (n : ℕ) → HasPlainResponse text value n
    → RefusesIcapHead StatusForm fault text → ⊥
no_response_fault fault text value n h s = no_fault StatusForm status_version (StartsResponse value)
    (λ line l. (value.status, value.phrase, l)) fault text value.fields n h s

-- ---- what is said for want of memory

-- of a whole head nothing but that
memory_alone : (fault : HeadFault) (text : List ℕ) (value : Request) (n : ℕ) → HasRequest text value n → ForWantOfMemory fault text
    → fault ≡ NoMemory
memory_alone fault text value n h (line, behind, first, may, inl m) = m.0
memory_alone fault text value n h (line, behind, first, may, inr bad) =
    let x = head_reads (StartsRequest value) text value.fields n h in
    let same = first_unique (take 16384 text) line behind x.line x.behind first x.first in
    absurd (no_fields_fault fault (length text) x.behind (drop n (take 16384 text)) value.fields x.section h.few
    (subst (RefusesFields fault (length text)) same.1 bad))

-- of fields that have a fault only that
fields_alone : (g fault : HeadFault) (len : ℕ) (behind : List ℕ) → ((g ≡ NoMemory) × HasFields behind) ⊎ RefusesFields g len behind
    → RefusesFields fault len behind → g ≡ fault
fields_alone g fault len behind (inl m) s = absurd (no_fields_fault fault len behind m.1.1 m.1.0 m.1.2 m.1.3 s)
fields_alone g fault len behind (inr t) s = one_fields_fault g fault len behind t s

-- of a text that has a fault after its start line only that
same_later : (g fault : HeadFault) (text : List ℕ) → fault ≢ StartLine → fault ≢ Version → RefusesIcapHead RequestForm fault text
    → ForWantOfMemory g text → g ≡ fault
same_later g fault text a b (inl none) w = absurd (none.1 w.0 w.1 w.2)
same_later g fault text a b (inr (line, behind, first, inl (inl s))) w = absurd (a s.0)
same_later g fault text a b (inr (line, behind, first, inl (inr s))) w = absurd (b s.0)
same_later g fault text a b (inr (line, behind, first, inr (form, s))) w =
    let same = first_unique (take 16384 text) line behind w.0 w.1 first w.2 in
    fields_alone g fault (length text) w.1 w.4 (subst (RefusesFields fault (length text)) same.1 s)

-- ---- from what an answer says where it comes, to where it comes

-- a request that the text begins with is answered with its length, or memory ran out
pub request_found : (text : List ℕ) (r : Result (Head IcapRequest) HeadFault)
    → IfOk r (λ head. HasRequest text (request_parts head.value) head.length)
    → IfErr r (λ fault. RefusesIcapHead RequestForm fault text ⊎ ForWantOfMemory fault text)
    → (value : Request) (n : ℕ) → HasRequest text value n
    → (r ≡ Err NoMemory) ⊎ IsOkAnd r (λ head. (request_parts head.value ≡ value) × (head.length ≡ n))
request_found text (Ok head) ok err value n h = inr (request_unique text (request_parts head.value) value head.length n ok h)
request_found text (Err fault) ok (inl err) value n h = absurd (no_request_fault fault text value n h err)
request_found text (Err fault) ok (inr err) value n h = inl (ap Err (memory_alone fault text value n h err))

-- a plain response that the text begins with is answered with its length, or memory ran out
pub response_found : (M : HeadFault → Type 0) (text : List ℕ) (r : Result (Head IcapResponse) HeadFault)
    → IfOk r (λ head. HasPlainResponse text (response_parts head.value) head.length)
    → IfErr r (λ fault. ((fault ≡ NoMemory) × M fault) ⊎ RefusesIcapHead StatusForm fault text)
    → (value : Response) (n : ℕ) → HasPlainResponse text value n
    → (r ≡ Err NoMemory) ⊎ IsOkAnd r (λ head. (response_parts head.value ≡ value) × (head.length ≡ n))
response_found M text (Ok head) ok err value n h = inr (response_unique text (response_parts head.value) value head.length n ok h)
response_found M text (Err fault) ok (inl err) value n h = inl (ap Err err.0)
response_found M text (Err fault) ok (inr err) value n h = absurd (no_response_fault fault text value n h err)

-- each fault is answered, or what is said for want of memory
pub request_fault : (text : List ℕ) (r : Result (Head IcapRequest) HeadFault)
    → IfOk r (λ head. HasRequest text (request_parts head.value) head.length)
    → IfErr r (λ fault. RefusesIcapHead RequestForm fault text ⊎ ForWantOfMemory fault text)
    → (fault : HeadFault) → RefusesIcapHead RequestForm fault text → (r ≡ Err fault) ⊎ IsErrAnd r (λ other. ForWantOfMemory other text)
request_fault text (Ok head) ok err fault s = absurd (no_request_fault fault text (request_parts head.value) head.length ok s)
request_fault text (Err g) ok (inl err) fault s = inl (ap Err (one_fault RequestForm request_version g fault text err s))
request_fault text (Err g) ok (inr err) fault s = inr err

-- and where no URI is judged the fault
pub start_fault : (text : List ℕ) (r : Result (Head IcapRequest) HeadFault)
    → IfOk r (λ head. HasRequest text (request_parts head.value) head.length)
    → IfErr r (λ fault. RefusesIcapHead RequestForm fault text ⊎ ForWantOfMemory fault text)
    → (fault : HeadFault) → ¬ (NeedsUri text) → RefusesIcapHead RequestForm fault text → r ≡ Err fault
start_fault text (Ok head) ok err fault none s = absurd (no_request_fault fault text (request_parts head.value) head.length ok s)
start_fault text (Err g) ok (inl err) fault none s = ap Err (one_fault RequestForm request_version g fault text err s)
start_fault text (Err g) ok (inr err) fault none s = absurd (none (err.0, err.1, err.2, err.3))

-- and so where the start line has none
pub later_fault : (text : List ℕ) (r : Result (Head IcapRequest) HeadFault)
    → IfOk r (λ head. HasRequest text (request_parts head.value) head.length)
    → IfErr r (λ fault. RefusesIcapHead RequestForm fault text ⊎ ForWantOfMemory fault text)
    → (fault : HeadFault) → fault ≢ StartLine → fault ≢ Version → RefusesIcapHead RequestForm fault text → r ≡ Err fault
later_fault text (Ok head) ok err fault a b s = absurd (no_request_fault fault text (request_parts head.value) head.length ok s)
later_fault text (Err g) ok (inl err) fault a b s = ap Err (one_fault RequestForm request_version g fault text err s)
later_fault text (Err g) ok (inr err) fault a b s = ap Err (same_later g fault text a b s err)

-- each fault of a text as a response is what is answered
pub response_fault : (text : List ℕ) (r : Result (Head IcapResponse) HeadFault)
    → IfOk r (λ head. HasPlainResponse text (response_parts head.value) head.length)
    → IfErr r (λ fault. ((fault ≡ NoMemory) × ((value : Response) × (size : ℕ) × HasPlainResponse text value size))
    ⊎ RefusesIcapHead StatusForm fault text)
    → (fault : HeadFault) → RefusesIcapHead StatusForm fault text → r ≡ Err fault
response_fault text (Ok head) ok err fault s = absurd (no_response_fault fault text (response_parts head.value) head.length ok s)
response_fault text (Err g) ok (inl err) fault s = absurd (no_response_fault fault text err.1.0 err.1.1 err.1.2 s)
response_fault text (Err g) ok (inr err) fault s = ap Err (one_fault StatusForm status_version g fault text err s)
