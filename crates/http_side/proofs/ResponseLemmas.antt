-- Why a response's head is refused.
use Rattle.std.proofs.Common.{◌≡◌, ℕ, ◌≤◌, inl, inr, Bool, false, List, length, take, drop, Some, None, refl, sym, ap, ◌∙◌, subst, arith}
use Rattle.std.proofs.Common.{length-take}
use Rattle.std.proofs.lemmas.List.{length-map}
use Rattle.std.specs.Prelude.{is_err}
use Rattle.httparse.specs.Grammar.{ResponseHead}
use Rattle.httparse.specs.Spans.{IsResponseAt as IsParsedAt, IsResponseOf, header_bytes, name_and_value}
use Rattle.httparse.specs.declared.spans.HeaderSpan.{HeaderSpan}
use Rattle.httparse.specs.declared.spans.ResponseSpans.{ResponseSpans}
use Rattle.http_side.specs.declared.fault.HttpFault.{HttpFault}
use Rattle.http_side.specs.declared.fault.HttpFault.TheVariants.{More, Bad, TooLong, TooMany, BothLengths, Lengths, Coding, Target, Connect}
use Rattle.http_side.specs.declared.fault.HttpFault.TheVariants.{NoMemory}
use Rattle.http_side.specs.Heads.{ResponseParts, response_parts, response_at, judged, response_fault, unless, IsResponseAt}
use Rattle.http_side.specs.Lengths.{content_length, coding}
use Rattle.http_side.specs.Responses.{RefusesAnswer, HasRefusedAnswer, MayRefuseResponse, IsResponseRead}
use Rattle.http_side.proofs.RequestLemmas.{unless_is}

-- the first fault of a head's fields refuses it
pub refuses : (r : ResponseParts) (f : HttpFault) → response_fault r ≡ Some f → RefusesAnswer r f
refuses r f e =
    let P : HttpFault → Type 0 = λ x. response_fault r ≡ Some x → RefusesAnswer r x in
    elim (unless_is (is_err (content_length r.fields)) Lengths f (unless (is_err (coding r.fields)) Coding None) e) [
      | inl lengths ↦ subst P lengths (λ e. e) e
      | inr e4 ↦ elim (unless_is (is_err (coding r.fields)) Coding f None e4) [
        | inl coding ↦ subst P coding (λ e. e) e
        | inr none ↦ absurd (let x : None ≡ Some f = none in cc)
      ]
    ]

-- a text that begins with a refused response's head may be refused for that fault
text_refused : (text : List ℕ) (f : HttpFault) → HasRefusedAnswer (judged text) f → MayRefuseResponse text f
text_refused text More w = absurd w.4
text_refused text Bad w = absurd w.4
text_refused text TooLong w = absurd w.4
text_refused text TooMany w = absurd w.4
text_refused text BothLengths w = w
text_refused text Lengths w = w
text_refused text Coding w = w
text_refused text Target w = w
text_refused text Connect w = w
text_refused text NoMemory w = w

-- the parts at the parser's offsets are those of the head
parts_same : (buf : List ℕ) (headers : List HeaderSpan) (spans : ResponseSpans) (to_head : Bool) (h : ResponseHead)
    → IsParsedAt buf headers spans h
    → response_at buf spans (take spans.headers headers) to_head ≡ response_parts h to_head
parts_same buf headers spans to_head h at = rw (at.code, at.reason, at.version, at.fields) refl

-- a parsed response's head has at most 100 fields where there is room for at most 100
few_fields : (buf : List ℕ) (headers : List HeaderSpan) (spans : ResponseSpans) (h : ResponseHead) → IsParsedAt buf headers spans h
    → length headers ≤ 100 → length h.fields ≤ 100
few_fields buf headers spans h at l =
    let e = ap length at.fields in
    omega (
      arith,
      length-map (take spans.headers headers) (header_bytes buf),
      length-map h.fields name_and_value,
      length-take spans.headers headers,
    )

-- who asked has no part in it
same_refusal : (h : ResponseHead) (to_head : Bool) (f : HttpFault) → RefusesAnswer (response_parts h to_head) f
    → RefusesAnswer (response_parts h false) f
same_refusal h to_head More w = w
same_refusal h to_head Bad w = w
same_refusal h to_head TooLong w = w
same_refusal h to_head TooMany w = w
same_refusal h to_head BothLengths w = w
same_refusal h to_head Lengths w = w
same_refusal h to_head Coding w = w
same_refusal h to_head Target w = w
same_refusal h to_head Connect w = w
same_refusal h to_head NoMemory w = w

-- a head at the parser's offsets that is refused
pub refused_at : (to_head : Bool) (text front : List ℕ) (headers : List HeaderSpan) (spans : ResponseSpans) (f : HttpFault)
    → front ≡ judged text → length headers ≤ 100
    → IsResponseOf front headers spans → RefusesAnswer (response_at front spans (take spans.headers headers) to_head) f
    → MayRefuseResponse text f
refused_at to_head text front headers spans f is l of why =
    let P : ResponseParts → Type 0 = λ r. RefusesAnswer r f in
    let refused = same_refusal of.0 to_head f (subst P (parts_same front headers spans to_head of.0 of.1) why) in
    let there : HasRefusedAnswer front f = (of.0, drop spans.len front, of.1.reads, few_fields front headers spans of.0 of.1 l, refused) in
    let Q : List ℕ → Type 0 = λ t. HasRefusedAnswer t f in
    text_refused text f (subst Q is there)

-- a head at the parser's offsets that is taken
pub read_at : (to_head : Bool) (text front : List ℕ) (headers : List HeaderSpan) (spans : ResponseSpans) (r : ResponseParts)
    → front ≡ judged text → length headers ≤ 100
    → IsResponseOf front headers spans → r ≡ response_at front spans (take spans.headers headers) to_head → response_fault r ≡ None
    → IsResponseRead to_head text r spans.len
read_at to_head text front headers spans r is l of parts none =
    let whose : r.to_head ≡ to_head = ap (λ x. x.to_head) parts in
    let same : response_parts of.0 r.to_head ≡ r = ap (response_parts of.0) whose
    ∙ sym (parts ∙ parts_same front headers spans to_head of.0 of.1) in
    let few : length r.fields ≤ 100 = omega (
      arith,
      few_fields front headers spans of.0 of.1 l,
      length-map of.0.fields name_and_value,
      ap (λ x. length x.fields) same,
    ) in
    let P : List ℕ → Type 0 = λ t. IsResponseAt t r spans.len in
    record {
      there = subst P is (record { head = of.0; reads = of.1.reads; len_is = of.1.len; parts_are = same });
      few = few;
      asked = whose;
      no_fault = none;
    }
