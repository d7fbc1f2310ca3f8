-- No stream is without an answer.
use Rattle.std.proofs.Common.{◌≡◌, ℕ, zero, suc, ◌+◌, ◌-◌, ◌<◌, ◌≤◌, ◌⊎◌, ◌++◌, List, [], ◌∷◌, length, take, drop, refl, sym, ap, ◌∙◌}
use Rattle.std.proofs.Common.{subst, arith, append_assoc, append-nil, length-append, length-drop, length-take-le, codes, Bool, true, false}
use Rattle.std.proofs.Common.{Some, None, inl, inr}
use Rattle.std.proofs.lemmas.Bool.{cases_lt, cases_Bool}
use Rattle.adapt_bytes.specs.Fields.{FieldList, values_of}
use Rattle.encapsulated.specs.declared.message.Direction.TheVariants.{Request as OfRequest}
use Rattle.adapt_bytes.specs.declared.method.Method.{Method}
use Rattle.adapt_bytes.specs.declared.method.Method.TheVariants.{Reqmod, Respmod, Options}
use Rattle.encapsulated.specs.declared.offsets.Layout.{Layout}
use Rattle.encapsulated.specs.declared.parts.BodyPart.{BodyPart}
use Rattle.encapsulated.specs.declared.parts.BodyPart.TheVariants.{ReqBody, ResBody, OptBody, NullBody}
use Rattle.encapsulated.specs.Layouts.{IsLayout}
use Rattle.adapt_bytes.specs.Methods.{method_name}
use Rattle.encapsulated.proofs.SomeAnswer.{Answer, some_answer}
use Rattle.http_uri.specs.Uri.{uri_path}
use Rattle.icap_chunks.specs.declared.pieces.Outcome.{Outcome}
use Rattle.icap_chunks.specs.declared.pieces.Outcome.TheVariants.{More as Begun, Ended, Faulted}
use Rattle.icap_chunks.specs.Reading.{IsReading}
use Rattle.icap_chunks.proofs.Totals.{some_reading}
use Rattle.icap_head.specs.Heads.{Request, HasRequest}
use Rattle.icap_head.specs.StartLines.{IsIcapUri}
use Rattle.icap_head.proofs.Totals.{NotNot, surely, and_so, decided, some_request}
use Rattle.icap_services.specs.declared.service.Service.{Service}
use Rattle.icap_services.specs.declared.status.Status.TheVariants.{BadRequest, ServerError, NotFound, MethodNotAllowed, NotImplemented}
use Rattle.icap_services.specs.Answers.{wants_rest}
use Rattle.icap_services.specs.Texts.{Shown, options_text, continue_text, error_text}
use Rattle.trace_core.specs.declared.history.Point.{Point}
use Rattle.icap_server.specs.declared.call.Call.{Call}
use Rattle.icap_server.specs.declared.call.Verdict.{Verdict}
use Rattle.icap_server.specs.declared.call.Verdict.TheVariants.{Refused, Describes, Offers}
use Rattle.icap_server.specs.declared.side.body.TheConstants.{MAX_BODY}
use Rattle.icap_server.specs.Answers.{First, IsFirst, Follows, ReadsBody, ReadsChunks, EndsBody, EndsFirst, ReadsRest, EndsRest, Answers}
use Rattle.icap_server.specs.Answers.{IsOver, due_to, answered, null_preview}
use Rattle.icap_server.specs.Answers.First.{whole, last}
use Rattle.icap_server.specs.Answers.Leads.{here, behind}
use Rattle.icap_server.specs.HeadParts.{IsHead, BreaksHead, OpenHead, HeadsWhole, HeadsBroken, HeadsOpen, middle, ends_blank}
use Rattle.icap_server.specs.HeadParts.{has_head_sizes}
use Rattle.icap_server.specs.Verdicts.{path_text, serves, ListIs, ListBad, ValueBad, PreviewIs, PreviewBad, WriteOne, no_parts, accepted}
use Rattle.icap_server.specs.Verdicts.{allows_204, JudgesPreview, JudgesList, JudgesPoint, JudgesPath, JudgesHost, JudgesRequest}

-- ---- what is left of a text

-- a request that is whole leaves no more than so many bytes
abbrev Leaves : ℕ → First → Type 0
Leaves n (whole answer rest) = length rest ≤ n
Leaves n (last due) = Unit {0}

-- an answer, and what it leaves
abbrev Some_first : (First → Type 0) → ℕ → Type 0
Some_first P n = (f : First) × P f × Leaves n f

-- what is left of a text is no longer than the text
dropped : (k : ℕ) (text : List ℕ) → length (drop k text) ≤ length text
dropped k text = let n = length-drop k text in omega (arith, n)

-- a request that leaves at most so many bytes leaves at most any greater number
less : (n m : ℕ) (f : First) → n ≤ m → Leaves n f → Leaves m f
less n m (whole answer rest) le h = omega (arith, h)
less n m (last due) le h = tt

-- ---- bodies in chunks

-- a text that reads as a body longer than the room has more than the room
all_over : (room : ℕ) (text body : List ℕ) (outcome : Outcome) → IsReading text body outcome → room < length body → IsOver room text
all_over room text body outcome reading over = record {
  front = text;
  rest = [];
  body = body;
  outcome = outcome;
  cut = sym (append-nil text);
  reading = reading;
  over = over;
}

-- the rest after a 100, with any outcome, gets an answer, and leaves no more than its text
some_rest_end : (s : Shown) (call : Call) (heads preview text body : List ℕ) (outcome : Outcome)
    → Some_first (EndsRest s call heads preview text body outcome) (length text)
some_rest_end s call heads preview text body Begun = (_, refl, tt)
some_rest_end s call heads preview text body (Faulted fault) = (_, refl, tt)
some_rest_end s call heads preview text body (Ended ieof used) = (_, refl, dropped used text)

-- the text after a 100, to a preview that fits, gets an answer, and leaves no more than that text
some_rest : (s : Shown) (call : Call) (heads preview text : List ℕ) → length preview ≤ MAX_BODY
    → Some_first (ReadsRest s call heads preview text) (length text)
some_rest s call heads preview text short =
    let read = some_reading text in
    elim (cases_lt (MAX_BODY - length preview) (length read.0)) [
      | inl over ↦ (
        last (continue_text ++ error_text s ServerError),
        inl (all_over (MAX_BODY - length preview) text read.0 read.1 read.2 over, refl),
        tt,
      )
      | inr fits ↦
          let end = some_rest_end s call heads preview text read.0 read.1 in
          (end.0, inr (read.0, read.1, read.2, omega (arith, short, fits), end.1), end.2)
    ]

-- the text after the last chunk of a body that fits gets an answer, and leaves no more than that text
some_first_end : (s : Shown) (call : Call) (heads body : List ℕ) (ieof preview : Bool) (rest : List ℕ) → length body ≤ MAX_BODY
    → Some_first (EndsFirst s call heads body ieof preview rest) (length rest)
some_first_end s call heads body ieof false rest short = (_, refl, omega arith)
some_first_end s call heads body ieof true rest short = elim (cases_Bool (wants_rest call.service ieof)) [
  | inl wants ↦ let more = some_rest s call heads body rest short in (more.0, inr (wants, more.1), more.2)
  | inr enough ↦ (whole (answered s call heads (Some body) (Some ieof)) rest, inl (enough, refl), omega arith)
]

-- a body that fits, with any outcome, gets an answer, and leaves no more than its text
some_body_end : (s : Shown) (call : Call) (heads text body : List ℕ) (outcome : Outcome) → length body ≤ MAX_BODY
    → Some_first (EndsBody s call heads text body outcome) (length text)
some_body_end s call heads text body Begun short = (_, refl, tt)
some_body_end s call heads text body (Faulted fault) short = (_, refl, tt)
some_body_end s call heads text body (Ended ieof used) short =
    let end = some_first_end s call heads body ieof call.preview (drop used text) short in
    (end.0, end.1, less (length (drop used text)) (length text) end.0 (dropped used text) end.2)

-- a body in chunks gets an answer, and leaves no more than its text
some_chunks : (s : Shown) (call : Call) (heads text : List ℕ) → Some_first (ReadsChunks s call heads text) (length text)
some_chunks s call heads text =
    let read = some_reading text in
    elim (cases_lt MAX_BODY (length read.0)) [
      | inl over ↦ (last (error_text s ServerError), inl (all_over MAX_BODY text read.0 read.1 read.2 over, refl), tt)
      | inr fits ↦ let end = some_body_end s call heads text read.0 read.1 fits in (end.0, inr (read.0, read.1, read.2, fits, end.1), end.2)
    ]

-- what follows the encapsulated heads gets an answer, and leaves no more than its text
some_body : (s : Shown) (call : Call) (part : BodyPart) (heads text : List ℕ) → Some_first (ReadsBody s call part heads text) (length text)
some_body s call NullBody heads text = (whole (answered s call heads None (null_preview call.preview)) text, refl, omega arith)
some_body s call ReqBody heads text = some_chunks s call heads text
some_body s call ResBody heads text = some_chunks s call heads text
some_body s call OptBody heads text = some_chunks s call heads text

-- ---- encapsulated heads

abbrev BlankBelow : ℕ → List ℕ → Type 0
BlankBelow n text = (k : ℕ) × (k < n) × (ends_blank (take k text) ≡ true)

-- some prefix of a text, shorter than a number, ends with an empty line, or no such prefix does
first_blank : (text : List ℕ) (n : ℕ) → BlankBelow n text ⊎ ((k : ℕ) → k < n → ends_blank (take k text) ≡ false)
first_blank text zero = inr (λ k l. absurd (omega arith))
first_blank text (suc n) = elim (first_blank text n) [
  | inl found ↦ inl (found.0, (let l = found.1 in omega arith), found.2)
  | inr none ↦ elim (cases_Bool (ends_blank (take n text))) [
    | inl blank ↦ inl (n, omega arith, blank)
    | inr other ↦ inr (λ k l. at k l none other)
  ]
]
  where
    at : (k : ℕ) → k < suc n → ((j : ℕ) → j < n → ends_blank (take j text) ≡ false) → ends_blank (take n text) ≡ false
        → ends_blank (take k text) ≡ false
    at k l none other = elim (cases_lt k n) [
      | inl before ↦ none k before
      | inr more ↦ let same : k ≡ n = omega arith in ap (λ j. ends_blank (take j text)) same ∙ other
    ]

-- a head of any size is whole, broken or open
some_part : (size : ℕ) (text : List ℕ) → IsHead size text ⊎ (BreaksHead size text ⊎ OpenHead size text)
some_part size text = elim (cases_lt (length text) size) [
  | inl short ↦ elim (first_blank text (length text + 1)) [
    | inl found ↦ let l = found.1 in inr (inl (inl (found.0, omega (arith, short), omega arith, found.2)))
    | inr none ↦ inr (inr (short, λ k l. none k (omega arith)))
  ]
  | inr long ↦ elim (first_blank text size) [
    | inl found ↦ let l = found.1 in inr (inl (inl (found.0, l, omega (arith, long), found.2)))
    | inr none ↦ elim (cases_Bool (ends_blank (take size text))) [
      | inl blank ↦ inl (record { inside = long; first = none; blank = λ some. blank })
      | inr other ↦ elim (cases_lt 0 size) [
        | inl some ↦ inr (inl (inr (some, long, other)))
        | inr empty ↦ inl (record { inside = long; first = none; blank = λ some. absurd (omega (arith, some, empty)) })
      ]
    ]
  ]
]

-- the heads of a layout are open, broken or whole
some_heads : (l : Layout) (text : List ℕ) → HeadsOpen l text ⊎ (HeadsBroken l text ⊎ HeadsWhole l text)
some_heads l text = elim (some_part (middle l) text) [
  | inl first ↦ elim (some_part (l.offset - middle l) (drop (middle l) text)) [
    | inl second ↦ inr (inr (first, second))
    | inr (inl broken) ↦ inr (inl (inr (first, broken)))
    | inr (inr begun) ↦ inl (inr (first, begun))
  ]
  | inr (inl broken) ↦ inr (inl (inl broken))
  | inr (inr begun) ↦ inl (inl begun)
]

-- what follows an ICAP head with any verdict gets an answer, and leaves no more than its text
some_follow : (s : Shown) (verdict : Verdict) (text : List ℕ) → Some_first (Follows s verdict text) (length text)
some_follow s (Refused status) text = (_, refl, tt)
some_follow s (Describes point) text = (whole (options_text s point) text, refl, omega arith)
some_follow s (Offers call) text = elim (some_heads call.layout text) [
  | inl begun ↦ (last [], inl (begun, refl), tt)
  | inr (inl broken) ↦ (last (error_text s BadRequest), inr (inl (broken, refl)), tt)
  | inr (inr all) ↦
      let behind_them = drop call.layout.offset text in
      let body = some_body s call call.layout.body (take call.layout.offset text) behind_them in
      (body.0, inr (inr (all, body.1)), less (length behind_them) (length text) body.0 (dropped call.layout.offset text) body.2)
]

-- ---- what a head asks for

-- from its Preview fields on no head is without a verdict
some_preview : (method : Method) (point : Point) (service : Service) (layout : Layout) (fields : FieldList)
    → NotNot ((verdict : Verdict) × JudgesPreview method point service layout fields verdict)
some_preview method point service layout fields = with (values_of (codes "Preview") fields) refl
  where
    accept : (preview : Bool) → Verdict
    accept preview = accepted method point service layout preview (allows_204 (values_of (codes "Allow") fields))

    is_one : (values : List (List ℕ)) (preview : Bool) → values_of (codes "Preview") fields ≡ values → PreviewIs values preview
        → NotNot ((verdict : Verdict) × JudgesPreview method point service layout fields verdict)
    is_one values preview e is = let P : List (List ℕ) → Type 0 = λ v. PreviewIs v preview in
        surely (_, inr (preview, subst P (sym e) is, refl))

    with : (values : List (List ℕ)) → values_of (codes "Preview") fields ≡ values
        → NotNot ((verdict : Verdict) × JudgesPreview method point service layout fields verdict)
    with [] e = is_one [] false e refl
    with (value ∷ values) e = and_so (decided (WriteOne (value ∷ values))) (λ one. elim one [
      | inl writes ↦ is_one (value ∷ values) true e (refl, writes)
      | inr none ↦ let P : List (List ℕ) → Type 0 = PreviewBad in surely (Refused BadRequest, inl (subst P (sym e) none, refl))
    ])

-- a layout with sizes that heads can have, or why there is none
sized : (method : Method) (value : List ℕ) → Answer method OfRequest value
    → ((layout : Layout) × (IsLayout method OfRequest value layout × (has_head_sizes layout ≡ true))) ⊎ ValueBad method value
sized method value (inl (layout, is)) = elim (cases_Bool (has_head_sizes layout)) [
  | inl good ↦ inl (layout, (is, good))
  | inr bad ↦ inr (inr (layout, is, bad))
]
sized method value (inr (fault, stands)) = inr (inl (fault, stands))

-- the values of the Encapsulated fields are a layout, or bad ones
some_list : (method : Method) (values : List (List ℕ)) → ((layout : Layout) × ListIs method values layout) ⊎ ListBad method values
some_list Options [] = inl (no_parts, refl)
some_list Reqmod [] = inr tt
some_list Respmod [] = inr tt
some_list Options (value ∷ []) = sized Options value (some_answer Options OfRequest value)
some_list Reqmod (value ∷ []) = sized Reqmod value (some_answer Reqmod OfRequest value)
some_list Respmod (value ∷ []) = sized Respmod value (some_answer Respmod OfRequest value)
some_list Options (value ∷ other ∷ more) = inr tt
some_list Reqmod (value ∷ other ∷ more) = inr tt
some_list Respmod (value ∷ other ∷ more) = inr tt

-- from its list on no head is without a verdict
judged_list : (method : Method) (point : Point) (service : Service) (fields : FieldList)
    → NotNot ((verdict : Verdict) × JudgesList method point service fields verdict)
judged_list method point service fields = elim (some_list method (values_of (codes "Encapsulated") fields)) [
  | inl is ↦ and_so (some_preview method point service is.0 fields) (λ found. surely (found.0, inr (is.0, is.1, found.1)))
  | inr bad ↦ surely (Refused BadRequest, inl (bad, refl))
]

-- from its point on no head is without a verdict
judged_point : (method : Method) (point : Point) (service : Service) (fields : FieldList)
    → NotNot ((verdict : Verdict) × JudgesPoint method point service fields verdict)
judged_point method point service fields = elim (cases_Bool (serves point method)) [
  | inl served ↦ and_so (judged_list method point service fields) (λ found. surely (found.0, inr (served, found.1)))
  | inr never ↦ surely (Refused MethodNotAllowed, inl (never, refl))
]

-- from its path on no head is without a verdict
judged_path : (method : Method) (path : List ℕ) (fields : FieldList) → NotNot ((verdict : Verdict) × JudgesPath method path fields verdict)
judged_path method path fields = and_so (decided ((point : Point) × (service : Service) × (path ≡ path_text point service)))
    (λ found. elim found [
      | inl (point, service, is) ↦ and_so (judged_point method point service fields)
          (λ verdict. surely (verdict.0, inr (point, service, is, verdict.1)))
      | inr none ↦ surely (Refused NotFound, inl (λ point service is. none (point, service, is), refl))
    ])

-- from its Host fields on no head with an ICAP URI is without a verdict
judged_host : (method : Method) (r : Request) → IsIcapUri r.uri → NotNot ((verdict : Verdict) × JudgesHost method r verdict)
judged_host method r uri = and_so (decided (values_of (codes "Host") r.fields ≡ [])) (λ found. elim found [
  | inl none ↦ surely (Refused BadRequest, inl (none, refl))
  | inr some ↦ and_so (judged_path method (uri_path uri.uri) r.fields) (λ verdict.
      surely (verdict.0, inr (some, (uri_path uri.uri, (uri.uri, uri.spells, refl), verdict.1))))
])

-- no head with an ICAP URI is without a verdict
judged : (r : Request) → IsIcapUri r.uri → NotNot ((verdict : Verdict) × JudgesRequest r verdict)
judged r uri = and_so (decided ((method : Method) × (r.method ≡ method_name method))) (λ found. elim found [
  | inl (method, is) ↦ and_so (judged_host method r uri) (λ verdict. surely (verdict.0, inr (method, is, verdict.1)))
  | inr none ↦ surely (Refused NotImplemented, inl (λ method is. none (method, is), refl))
])

-- ---- a request, and a stream

-- a head has a byte at least
behind_head : (text : List ℕ) (value : Request) (size : ℕ) → HasRequest text value size → length (drop size text) < length text
behind_head text value size has =
    let cut = ap length has.head.first.cut in
    let raw = has.head.first.raw in
    let some = length-append raw (10 ∷ has.head.behind) in
    let taken = length-take-le size text has.inside in
    let left = length-drop size text in
    let inside = has.inside in
    omega (arith, cut, some, taken, left, inside)

abbrev Shorter : ℕ → First → Type 0
Shorter n (whole answer rest) = length rest < n
Shorter n (last due) = Unit {0}

-- a request that leaves at most so many bytes leaves fewer than any greater number
shorter : (n m : ℕ) (f : First) → n < m → Leaves n f → Shorter m f
shorter n m (whole answer rest) lt h = omega (arith, lt, h)
shorter n m (last due) lt h = tt

-- the first request of a text is answered in some way
some_request_answer : (s : Shown) (text : List ℕ) → NotNot ((f : First) × IsFirst s text f × Shorter (length text) f)
some_request_answer s text = and_so (some_request text) (λ found. elim found [
  | inl (value, size, has) ↦ and_so (judged value has.head.start.uri_is) (λ verdict.
      let follow = some_follow s verdict.0 (drop size text) in
      surely (
        follow.0,
        (inr (verdict.0, drop size text, (value, size, has, verdict.1, refl), follow.1)),
        shorter (length (drop size text)) (length text) follow.0 (behind_head text value size has) follow.2,
      ))
  | inr (fault, stands) ↦ surely (last (due_to s fault), inl (fault, stands, refl), tt)
])

-- no stream that is shorter than some length is without an answer
some_stream : (s : Shown) (n : ℕ) (text : List ℕ) → length text < n → NotNot ((answer : List ℕ) × Answers s text answer)
some_stream s zero text short = absurd (omega (arith, short))
some_stream s (suc n) text short = and_so (some_request_answer s text) (λ found.
    on (λ rest less. some_stream s n rest (omega (arith, short, less))) found.0 found.1 found.2)
  where
    on : ((rest : List ℕ) → length rest < length text → NotNot ((answer : List ℕ) × Answers s rest answer)) → (f : First) → IsFirst s text f
        → Shorter (length text) f
        → NotNot ((answer : List ℕ) × Answers s text answer)
    on later (last due) is h = surely (due, record { answers = []; rest = text; due = due; lead = here; first = is; text_is = refl })
    on later (whole answer rest) is h = and_so (later rest h) (λ found.
        let a = found.1 in
        surely (
          answer ++ found.0,
          record {
            answers = answer ++ a.answers;
            rest = a.rest;
            due = a.due;
            lead = behind is a.lead;
            first = a.first;
            text_is = ap (λ t. answer ++ t) a.text_is ∙ sym (append_assoc answer a.answers a.due);
          },
        ))

-- a stream is answered in some way
pub answers_some : (s : Shown) (stream : List ℕ) → NotNot ((answer : List ℕ) × Answers s stream answer)
answers_some s stream = some_stream s (suc (length stream)) stream (omega arith)
