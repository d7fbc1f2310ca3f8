-- Why a request's head is refused.
use Rattle.std.proofs.Common.{◌≡◌, ℕ, ◌≤◌, ◌⊎◌, inl, inr, Bool, true, false, List, [], ◌∷◌, ◌++◌, length, take, drop, Option, Some, None}
use Rattle.std.proofs.Common.{refl, sym, ap, ◌∙◌, subst, arith, length-take}
use Rattle.std.proofs.lemmas.List.{append-nil, length-map}
use Rattle.std.specs.Prelude.{bytes_eq, is_err}
use Rattle.httparse.specs.Grammar.{RequestHead, print_request}
use Rattle.httparse.specs.Spans.{IsRequestAt as IsParsedAt, IsRequestOf, header_bytes, name_and_value}
use Rattle.httparse.specs.declared.spans.HeaderSpan.{HeaderSpan}
use Rattle.httparse.specs.declared.spans.RequestSpans.{RequestSpans}
use Rattle.http_side.specs.declared.fault.HttpFault.{HttpFault}
use Rattle.http_side.specs.declared.fault.HttpFault.TheVariants.{More, Bad, TooLong, TooMany, BothLengths, Lengths, Coding, Target, Connect}
use Rattle.http_side.specs.declared.fault.HttpFault.TheVariants.{NoMemory}
use Rattle.http_side.specs.Heads.{RequestParts, request_parts, parts_at, judged, request_fault, bad_hosts, both_lengths, unless}
use Rattle.http_side.specs.Heads.{IsRequestAt, IsRequestText}
use Rattle.http_side.specs.Lengths.{content_length, coding}
use Rattle.http_side.specs.Requests.{Refuses, HasRefused, MayRefuseRequest, IsTaken, IsRead}

-- texts that are the same as two others compare as equal just where those do
pub same_test : (a b x y : List ℕ) → a ≡ x → b ≡ y → bytes_eq a b ≡ bytes_eq x y
same_test a b x y e f = ap (λ z. bytes_eq z b) e ∙ ap (bytes_eq x) f

-- the fault that a test and the tests after it give is the first's own or one of the others'
pub unless_is : (b : Bool) (g f : HttpFault) (o : Option HttpFault) → unless b g o ≡ Some f → (g ≡ f) ⊎ (o ≡ Some f)
unless_is true g f o e = inl (same e)
  where
    same : {x y : HttpFault} → Some x ≡ Some y → x ≡ y
    same e = cc
unless_is false g f o e = inr e

-- the first fault of a head's fields refuses it
pub refuses : (adapted : Bool) (r : RequestParts) (f : HttpFault) → request_fault r ≡ Some f → Refuses adapted r f
refuses adapted r f e =
    let P : HttpFault → Type 0 = λ x. request_fault r ≡ Some x → Refuses adapted r x in
    elim (unless_is (bad_hosts r) Bad f (unless (both_lengths r.fields) BothLengths
    (unless (is_err (content_length r.fields)) Lengths (unless (is_err (coding r.fields)) Coding None))) e) [
      | inl bad ↦ subst P bad (λ e. e) e
      | inr e2 ↦ elim (unless_is (both_lengths r.fields) BothLengths f (unless (is_err (content_length r.fields)) Lengths
          (unless (is_err (coding r.fields)) Coding None)) e2) [
            | inl both ↦ subst P both (λ e. e) e
            | inr e3 ↦ elim (unless_is (is_err (content_length r.fields)) Lengths f (unless (is_err (coding r.fields)) Coding None) e3) [
              | inl lengths ↦ subst P lengths (λ e. e) e
              | inr e4 ↦ elim (unless_is (is_err (coding r.fields)) Coding f None e4) [
                | inl coding ↦ subst P coding (λ e. e) e
                | inr none ↦ absurd (let x : None ≡ Some f = none in cc)
              ]
            ]
          ]
    ]

-- a text that begins with a refused head may be refused for that fault
pub text_refused : (adapted : Bool) (text : List ℕ) (f : HttpFault) → HasRefused adapted (judged text) f → MayRefuseRequest adapted text f
text_refused adapted text More w = absurd w.4
text_refused adapted text Bad w = inr w
text_refused adapted text TooLong w = absurd w.4
text_refused adapted text TooMany w = absurd w.4
text_refused adapted text BothLengths w = w
text_refused adapted text Lengths w = w
text_refused adapted text Coding w = w
text_refused adapted text Target w = w
text_refused adapted text Connect w = w
text_refused adapted text NoMemory w = w

-- the parts at the parser's offsets are those of the head
pub parts_same : (buf : List ℕ) (headers : List HeaderSpan) (spans : RequestSpans) (h : RequestHead) → IsParsedAt buf headers spans h
    → parts_at buf spans (take spans.headers headers) ≡ request_parts h
parts_same buf headers spans h at = rw (at.method, at.path, at.version, at.fields) refl

-- a parsed request's head has at most 100 fields where there is room for at most 100
pub few_fields : (buf : List ℕ) (headers : List HeaderSpan) (spans : RequestSpans) (h : RequestHead) → IsParsedAt buf headers spans h
    → length headers ≤ 100 → length h.fields ≤ 100
few_fields buf headers spans h at l =
    let e = ap length at.fields in
    omega (
      arith,
      length-map (take spans.headers headers) (header_bytes buf),
      length-map h.fields name_and_value,
      length-take spans.headers headers,
    )

-- a head at the parser's offsets that is refused
pub refused_at : (adapted : Bool) (text front : List ℕ) (headers : List HeaderSpan) (spans : RequestSpans) (f : HttpFault)
    → front ≡ judged text → length headers ≤ 100
    → IsRequestOf front headers spans → Refuses adapted (parts_at front spans (take spans.headers headers)) f
    → MayRefuseRequest adapted text f
refused_at adapted text front headers spans f is l of why =
    let P : RequestParts → Type 0 = λ r. Refuses adapted r f in
    let there : HasRefused adapted front f = (
      of.0,
      drop spans.len front,
      of.1.reads,
      few_fields front headers spans of.0 of.1 l,
      subst P (parts_same front headers spans of.0 of.1) why,
    ) in
    let Q : List ℕ → Type 0 = λ t. HasRefused adapted t f in
    text_refused adapted text f (subst Q is there)

-- a head at the parser's offsets that is taken
pub read_at : (adapted : Bool) (text front : List ℕ) (headers : List HeaderSpan) (spans : RequestSpans) (r : RequestParts)
    → front ≡ judged text → length headers ≤ 100
    → IsRequestOf front headers spans → r ≡ parts_at front spans (take spans.headers headers) → IsTaken adapted r
    → IsRead adapted text r spans.len
read_at adapted text front headers spans r is l of parts taken =
    let same : request_parts of.0 ≡ r = sym (parts ∙ parts_same front headers spans of.0 of.1) in
    let few : length r.fields ≤ 100 = omega (
      arith,
      few_fields front headers spans of.0 of.1 l,
      length-map of.0.fields name_and_value,
      ap (λ x. length x.fields) same,
    ) in
    let P : List ℕ → Type 0 = λ t. IsRequestAt t r spans.len in
    record {
      there = subst P is (record { head = of.0; reads = of.1.reads; len_is = of.1.len; parts_are = same });
      few = few;
      taken = taken;
    }

-- a head at the parser's offsets is there
pub there_at : (front : List ℕ) (headers : List HeaderSpan) (spans : RequestSpans) → IsRequestOf front headers spans
    → IsRequestAt front (parts_at front spans (take spans.headers headers)) spans.len
there_at front headers spans of =
    record { head = of.0; reads = of.1.reads; len_is = of.1.len; parts_are = sym (parts_same front headers spans of.0 of.1) }

-- the prefix of a joined text, as long as its first part, is that part
take_front : (a b : List ℕ) → take (length a) (a ++ b) ≡ a
take_front [] b = refl
take_front (x ∷ a) b = ap (λ t. x ∷ t) (take_front a b)

-- the bytes of a head, to its last one, are its text
pub own_text : (text : List ℕ) (parts : RequestParts) (len : ℕ) → IsRequestAt text parts len → IsRequestText (take len text) parts
own_text text parts len at =
    let printed : take len text ≡ print_request at.head =
    ap (λ n. take n text) at.len_is ∙ (ap (take (length (print_request at.head))) at.reads.1
    ∙ take_front (print_request at.head) (drop len text)) in
    (at.head, (at.reads.0, printed ∙ sym (append-nil (print_request at.head))), at.parts_are)
