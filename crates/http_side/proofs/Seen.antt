-- A head that goes on has one length at most, and its reader sees the framing that was chosen.
use Rattle.std.proofs.Common.{◌≡◌, ℕ, ◌<◌, ◌≤◌, Bool, true, false, not, ◌&&◌, List, [], ◌∷◌, ◌++◌, length, take, Option, Some, None, Result}
use Rattle.std.proofs.Common.{Ok, Err, refl, ap, ◌∙◌, arith, length-take}
use Rattle.std.specs.Prelude.{codes, fold, is_err, if◌then◌else◌, ◌==◌}
use Rattle.std.proofs.lemmas.List.{append-nil}
use Rattle.adapt_bytes.specs.Text.{comma_items, comma_parts, trim}
use Rattle.adapt_bytes.specs.Fields.{values_of}
use Rattle.http_side.specs.declared.fault.HttpFault.{HttpFault}
use Rattle.http_side.specs.declared.fault.HttpFault.TheVariants.{Lengths, Bad, BothLengths}
use Rattle.http_side.specs.declared.body.Framing.{Framing}
use Rattle.http_side.specs.declared.body.Framing.TheVariants.{None as NoBody, Length, Chunked, Close}
use Rattle.http_side.specs.declared.forward.Message.{Message}
use Rattle.http_side.specs.declared.forward.Message.TheVariants.{Request, Response}
use Rattle.http_side.specs.declared.forward.Forward.{Forward}
use Rattle.http_side.specs.Lengths.{agreed, content_length, coding_of}
use Rattle.http_side.specs.Framings.{by_length, by_coding, by_fields}
use Rattle.http_side.specs.Heads.{RequestParts, ResponseParts, both_lengths, unless, count_of, bad_hosts}
use Rattle.http_side.specs.Targets.{authority_of}
use Rattle.http_side.specs.Forward.{length_found, length_of, kept_length, by_kept_length, has_no_place, is_response, has_body, next_framing}
use Rattle.http_side.specs.Forward.{is_chunks, gets_zero, is_none, extra_of, added_fields}
use Rattle.http_side.specs.Laws.{WasRead, WasReadRequest, WasReadResponse, passed_fields, minor_of, forwarded_fields, HasOneLength}
use Rattle.http_side.specs.Laws.{framing_seen}
use Rattle.http_side.proofs.Passing.{LENGTH, CODING, values-append}
use Rattle.http_side.proofs.Choices.{on, added-length, added-coding, request-length, request-coding, response-length, response-coding}
use Rattle.http_side.proofs.Choices.{first_is, no_values}

-- ---- the fields of a head that was read

-- where a test and those after it give no fault, the test is off and the others give none
unless_none : (b : Bool) (g : HttpFault) (o : Option HttpFault) → unless b g o ≡ None → (b ≡ false) × (o ≡ None)
unless_none true g o e = absurd (let x : Some g ≡ None = e in cc)
unless_none false g o e = (refl, e)

-- a result of the lengths that is no error holds the length found
ok_found : (r : Result (Option ℕ) HttpFault) → is_err r ≡ false → r ≡ Ok (length_found r)
ok_found (Ok o) e = refl
ok_found (Err f) e = absurd (let x : true ≡ false = e in cc)

-- the lengths of a request that was read are no error
request_sound : (r : RequestParts) → WasReadRequest r → is_err (content_length r.fields) ≡ false
request_sound r w =
    let a = unless_none (bad_hosts r) Bad _ w.3.taken.no_fault in
    let b = unless_none (both_lengths r.fields) BothLengths _ a.1 in
    let c = unless_none (is_err (content_length r.fields)) Lengths _ b.1 in
    c.0

-- the lengths of a response that was read are no error
response_sound : (r : ResponseParts) → WasReadResponse r → is_err (content_length r.fields) ≡ false
response_sound r w = (unless_none (is_err (content_length r.fields)) Lengths _ w.3.no_fault).0

-- ---- the lengths that go on

abbrev kept_values : Message → List (List ℕ)
kept_values (Request r) = take 1 (values_of LENGTH r.now.fields)
kept_values (Response r) = if both_lengths r.now.fields then [] else take 1 (values_of LENGTH r.now.fields)

-- the lengths that go on of a message are those that it keeps
passed-length : (authority : List ℕ) (m : Message) → values_of LENGTH (passed_fields authority m) ≡ kept_values m
passed-length authority (Request r) = request-length authority r.now.fields
passed-length authority (Response r) = response-length r.now.fields

-- no coding of a message goes on
passed-coding : (authority : List ℕ) (m : Message) → values_of CODING (passed_fields authority m) ≡ []
passed-coding authority (Request r) = request-coding authority r.now.fields
passed-coding authority (Response r) = response-coding r.now.fields

-- and their number
kept_is : (m : Message) → WasRead m → fold agreed (Ok None) (kept_values m) ≡ Ok (kept_length m)
kept_is (Request r) w = first_is (values_of LENGTH r.now.fields) (length_of r.now.fields)
    (ok_found (content_length r.now.fields) (request_sound r.now w))
kept_is (Response r) w = by_test (both_lengths r.now.fields)
  where
    by_test : (b : Bool) → fold agreed (Ok None) (if b then [] else take 1 (values_of LENGTH r.now.fields))
        ≡ Ok (if b then None else length_of r.now.fields)
    by_test true = refl
    by_test false = first_is (values_of LENGTH r.now.fields) (length_of r.now.fields)
        (ok_found (content_length r.now.fields) (response_sound r.now w))

-- a list that is cut after its first value has at most one value
one_of : (values : List (List ℕ)) → length (take 1 values) ≤ 1
one_of values = omega (arith, length-take 1 values)

-- a message keeps at most one length
kept_one : (m : Message) → length (kept_values m) ≤ 1
kept_one (Request r) = one_of (values_of LENGTH r.now.fields)
kept_one (Response r) = by_test (both_lengths r.now.fields)
  where
    by_test : (b : Bool) → length (if b then [] else take 1 (values_of LENGTH r.now.fields)) ≤ 1
    by_test true = omega arith
    by_test false = one_of (values_of LENGTH r.now.fields)

-- the lengths of a forwarded head are the one kept, and a 0 where it gets one
forwarded-length : (f : Forward) → values_of LENGTH (forwarded_fields f) ≡ kept_values f.message ++ on (gets_zero f) (codes "0")
forwarded-length f =
    values-append LENGTH (passed_fields (authority_of f.user.now.target) f.message) (added_fields (extra_of f) (minor_of f.message))
    ∙ ap (λ t. t ++ values_of LENGTH (added_fields (extra_of f) (minor_of f.message)))
    (passed-length (authority_of f.user.now.target) f.message)
    ∙ ap (λ t. kept_values f.message ++ t) (added-length (extra_of f) (minor_of f.message))

-- the codings of a forwarded head are chunked where its framing is, and else none
forwarded-coding : (f : Forward) → values_of CODING (forwarded_fields f) ≡ on (is_chunks (next_framing f)) (codes "chunked")
forwarded-coding f =
    values-append CODING (passed_fields (authority_of f.user.now.target) f.message) (added_fields (extra_of f) (minor_of f.message))
    ∙ ap (λ t. t ++ values_of CODING (added_fields (extra_of f) (minor_of f.message)))
    (passed-coding (authority_of f.user.now.target) f.message)
    ∙ added-coding (extra_of f) (minor_of f.message)

-- ---- the choice, by what it is made of

abbrev chosen : Bool → Bool → Bool → Bool → Option ℕ → Framing
chosen response bare body old k =
    if bare then NoBody else by_kept_length k (if body then (if response && old then Close else Chunked) else
    (if response then Length 0 else NoBody))

abbrev zeroed : Bool → Bool → Bool → Option ℕ → Bool
zeroed response bare body k = response && (not bare && (is_none k && not body))

-- the values of both names, of such a choice
one_length : (response bare body old : Bool) (k : Option ℕ) (values : List (List ℕ)) → length values ≤ 1 → (k ≡ None → values ≡ [])
    → (length (values ++ on (zeroed response bare body k) (codes "0")) ≤ 1)
    × (length (on (is_chunks (chosen response bare body old k)) (codes "chunked")) ≤ 1)
    × (0 < length (on (is_chunks (chosen response bare body old k)) (codes "chunked"))
    → length (values ++ on (zeroed response bare body k) (codes "0")) ≡ 0)
one_length response bare body old k values few none =
    (lengths response bare body k few none, codings (is_chunks (chosen response bare body old k)), never response bare body old k none)
  where
    same : length (values ++ []) ≡ length values
    same = ap length (append-nil values)

    lengths : (response bare body : Bool) (k : Option ℕ) → length values ≤ 1 → (k ≡ None → values ≡ [])
        → length (values ++ on (zeroed response bare body k) (codes "0")) ≤ 1
    lengths false bare body k few none = omega (arith, same)
    lengths true true body k few none = omega (arith, same)
    lengths true false body (Some n) few none = omega (arith, same)
    lengths true false true None few none = omega (arith, same)
    lengths true false false None few none = rw (none refl) (omega arith)

    codings : (b : Bool) → length (on b (codes "chunked")) ≤ 1
    codings true = omega arith
    codings false = omega arith

    never : (response bare body old : Bool) (k : Option ℕ) → (k ≡ None → values ≡ [])
        → 0 < length (on (is_chunks (chosen response bare body old k)) (codes "chunked"))
        → length (values ++ on (zeroed response bare body k) (codes "0")) ≡ 0
    never response true body old k none l = absurd (omega arith)
    never response false body old (Some n) none l = absurd (omega arith)
    never true false true true None none l = absurd (omega arith)
    never true false true false None none l = rw (none refl) refl
    never false false true old None none l = rw (none refl) refl
    never true false false old None none l = absurd (omega arith)
    never false false false old None none l = absurd (omega arith)

-- a message that was read and goes on without a length keeps no value of one
no_kept : (m : Message) → WasRead m → kept_length m ≡ None → kept_values m ≡ []
no_kept m w e = no_values (kept_values m) (kept_is m w ∙ ap Ok e)

-- there are as many fields of a name as it has values
counted : (name : List ℕ) (fields : List (List ℕ × List ℕ)) (values : List (List ℕ)) → values_of name fields ≡ values
    → count_of name fields ≡ length values
counted name fields values e = ap length e

-- a forwarded head has at most one length and one coding, and never both
pub has_one_length : (f : Forward) → WasRead f.message → HasOneLength (forwarded_fields f)
has_one_length f w =
    let one = one_length (is_response f.message) (has_no_place f.message) (has_body f.part f.message) (f.user.now.minor == 0)
    (kept_length f.message) (kept_values f.message) (kept_one f.message) (no_kept f.message w) in
    let l = ap length (forwarded-length f) in
    let c = ap length (forwarded-coding f) in
    record {
      length = omega (arith, one.0);
      coding = omega (arith, one.1);
      one = λ some. l ∙ one.2 (omega arith);
    }

-- ---- what the reader sees

-- one field that says chunked is the coding chunked
chunked_is : coding_of (codes "chunked" ∷ []) ≡ Ok true
unfolding comma_items comma_parts trim
chunked_is = refl

-- one field that says 0 is a length of 0
zero_is : fold agreed (Ok None) (codes "0" ∷ []) ≡ Ok (Some 0)
zero_is = refl

abbrev seen : List (List ℕ) → List (List ℕ) → Framing → Framing
seen codings lengths last = by_coding (coding_of codings) (by_length (fold agreed (Ok None) lengths) last)

abbrev last_of : Bool → Framing
last_of response = if response then Close else NoBody

-- the lengths and codings of a choice, where a body has its place, show the framing that was chosen
seen_is : (response body old : Bool) (k : Option ℕ) (values : List (List ℕ)) → fold agreed (Ok None) values ≡ Ok k
    → (k ≡ None → values ≡ [])
    → seen (on (is_chunks (chosen response false body old k)) (codes "chunked")) (values ++ on (zeroed response false body k) (codes "0"))
    (last_of response) ≡ chosen response false body old k
seen_is false body old (Some n) values is none = rw (append-nil values, is) refl
seen_is true body old (Some n) values is none = rw (append-nil values, is) refl
seen_is false true old None values is none = rw chunked_is refl
seen_is false false old None values is none = rw (none refl) refl
seen_is true true true None values is none = rw (none refl) refl
seen_is true true false None values is none = rw chunked_is refl
seen_is true false old None values is none = rw (none refl) refl

-- the framing by some fields is the one by the values of their codings and lengths
by_values : (fields : List (List ℕ × List ℕ)) (codings lengths : List (List ℕ)) (last : Framing) → values_of CODING fields ≡ codings
    → values_of LENGTH fields ≡ lengths
    → by_fields fields last ≡ seen codings lengths last
by_values fields codings lengths last c l = ap (λ t. by_coding (coding_of t) (by_length (content_length fields) last)) c
    ∙ ap (λ t. by_coding (coding_of codings) (by_length (fold agreed (Ok None) t) last)) l

-- fields with the lengths and codings of a choice show the chosen framing, also where no body follows
by_place : (bare response body old : Bool) (k : Option ℕ) (fields : List (List ℕ × List ℕ)) (values : List (List ℕ))
    → fold agreed (Ok None) values ≡ Ok k → (k ≡ None → values ≡ [])
    → values_of CODING fields ≡ on (is_chunks (chosen response bare body old k)) (codes "chunked")
    → values_of LENGTH fields ≡ values ++ on (zeroed response bare body k) (codes "0")
    → (if bare then NoBody else by_fields fields (last_of response)) ≡ chosen response bare body old k
by_place true response body old k fields values is none c l = refl
by_place false response body old k fields values is none c l =
    by_values fields _ _ (last_of response) c l ∙ seen_is response body old k values is none

-- the framing that the next hop sees in the head of a forwarded message that was read is the chosen one
pub framed_as_chosen : (f : Forward) → WasRead f.message → framing_seen f.message (forwarded_fields f) ≡ next_framing f
framed_as_chosen f w = same_seen f.message (forwarded_fields f) ∙ by_place (has_no_place f.message) (is_response f.message)
    (has_body f.part f.message) (f.user.now.minor == 0) (kept_length f.message)
    (forwarded_fields f) (kept_values f.message) (kept_is f.message w) (no_kept f.message w) (forwarded-coding f) (forwarded-length f)
  where
    same_seen : (m : Message) (fields : List (List ℕ × List ℕ))
        → framing_seen m fields ≡ (if has_no_place m then NoBody else by_fields fields (last_of (is_response m)))
    same_seen (Request r) fields = refl
    same_seen (Response r) fields = refl
