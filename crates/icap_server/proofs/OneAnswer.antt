-- A stream has one answer.
use Rattle.std.proofs.Common.{◌≡◌, ℕ, ◌+◌, ◌-◌, ◌≤◌, ◌++◌, List, [], ◌∷◌, length, take, drop, refl, sym, ap, ◌∙◌, subst, arith}
use Rattle.std.proofs.Common.{append_assoc, append-nil, length-append, slice_index, codes, Bool, true, false, not, ◌||◌, is_some, inl, inr}
use Rattle.std.proofs.Common.{Some, Option, if◌then◌else◌, ◌==◌}
use Rattle.std.proofs.lemmas.List.{take-append-drop}
use Rattle.adapt_bytes.specs.Fields.{FieldList, values_of}
use Rattle.encapsulated.specs.declared.message.Direction.TheVariants.{Request as OfRequest}
use Rattle.adapt_bytes.specs.declared.method.Method.{Method}
use Rattle.adapt_bytes.specs.declared.method.Method.TheVariants.{Reqmod, Respmod, Options}
use Rattle.encapsulated.specs.declared.offsets.Layout.{Layout}
use Rattle.encapsulated.specs.declared.parts.BodyPart.{BodyPart}
use Rattle.encapsulated.specs.declared.parts.BodyPart.TheVariants.{ReqBody, ResBody, OptBody, NullBody}
use Rattle.encapsulated.specs.Layouts.{IsLayout, parts_of}
use Rattle.adapt_bytes.specs.Methods.{method_name}
use Rattle.encapsulated.proofs.OneAnswer.{parts_unique, layout_unique, no_fault}
use Rattle.http_uri.specs.Grammar.{path_of}
use Rattle.http_uri.specs.Uri.{uri_scheme, uri_data, uri_path}
use Rattle.http_uri.proofs.Theorems.{Spells_unique}
use Rattle.icap_chunks.specs.declared.pieces.Outcome.{Outcome}
use Rattle.icap_chunks.specs.declared.pieces.Outcome.TheVariants.{More as Begun, Ended, Faulted}
use Rattle.icap_chunks.specs.declared.positions.Position.TheVariants.{Ended as AtEnd}
use Rattle.icap_chunks.specs.declared.reader.ChunkReader.{ChunkReader}
use Rattle.icap_chunks.specs.Machine.{start, run, step, is_data, body_of, end_of}
use Rattle.icap_chunks.specs.Reading.{IsReading}
use Rattle.icap_chunks.proofs.Endings.{chunked_ends, ended_at}
use Rattle.icap_chunks.proofs.Faults.{breaks_fault, leaves_walk}
use Rattle.icap_chunks.proofs.Parts.{part_place}
use Rattle.icap_chunks.proofs.Readings.{one_outcome}
use Rattle.icap_chunks.proofs.Runs.{body_of-append, at_place}
use Rattle.icap_head.specs.Heads.{Request}
use Rattle.icap_head.specs.StartLines.{RequestForm}
use Rattle.icap_head.proofs.OneReading.{request_unique, request_version, no_request_fault}
use Rattle.icap_head.proofs.Readings.{one_fault}
use Rattle.icap_services.specs.declared.service.Service.{Service}
use Rattle.icap_services.specs.declared.service.Service.TheVariants.{Pass, Stamp, Upper, Block}
use Rattle.icap_services.specs.Texts.{Shown}
use Rattle.trace_core.specs.declared.history.Point.{Point}
use Rattle.trace_core.specs.declared.history.Point.TheVariants.{Reqmod as AtRequest, Respmod as AtResponse}
use Rattle.icap_server.specs.declared.call.Call.{Call}
use Rattle.icap_server.specs.declared.call.Verdict.{Verdict}
use Rattle.icap_server.specs.declared.call.Verdict.TheVariants.{Refused, Describes, Offers}
use Rattle.icap_server.specs.declared.side.body.TheConstants.{MAX_BODY}
use Rattle.icap_server.specs.Answers.{First, Opens, IsFirst, Follows, ReadsBody, ReadsChunks, EndsBody, EndsFirst, ReadsRest, EndsRest}
use Rattle.icap_server.specs.Answers.{Leads, Answers, IsOver, due_to}
use Rattle.icap_server.specs.Answers.First.{whole, last}
use Rattle.icap_server.specs.Answers.Leads.{here, behind}
use Rattle.icap_server.specs.HeadParts.{IsHead, BreaksHead, OpenHead, HeadsWhole, HeadsBroken, HeadsOpen, middle, has_head_sizes}
use Rattle.icap_server.specs.Verdicts.{path_text, HasPath, ListIs, ListBad, ValueBad, PreviewIs, PreviewBad, accepted, allows_204}
use Rattle.icap_server.specs.Verdicts.{JudgesPreview, JudgesList, JudgesPoint, JudgesPath, JudgesHost, JudgesRequest}

-- false isn't true
false_true : false ≡ true → ⊥
false_true e = cc

-- ---- bodies in chunks

-- a reader whose place is a body's end finds no body in more bytes
ended_body : (sum : ℕ) (ieof : Bool) (bytes : List ℕ) → body_of (record { sum = sum; place = AtEnd ieof }) bytes ≡ []
unfolding step is_data
ended_body sum ieof [] = refl
ended_body sum ieof (b ∷ bytes) = ended_body sum ieof bytes

-- a reader that tells an end finds no body in more bytes
behind_end : (r : ChunkReader) (ieof : Bool) (bytes : List ℕ) → end_of r ≡ Some ieof → body_of r bytes ≡ []
behind_end r ieof bytes e = ap (λ x. body_of x bytes) (at_place r (AtEnd ieof) (ended_at r.place ieof e)) ∙ ended_body r.sum ieof bytes

-- the body of a text's reading is what a reader finds in all of it
reading_body : (text body : List ℕ) (outcome : Outcome) → IsReading text body outcome → body_of start text ≡ body
reading_body text body (Ended ieof used) h =
    let front = take used text in
    let rest = drop used text in
    let x = chunked_ends front body ieof h.1 in
    ap (body_of start) (sym (take-append-drop used text)) ∙ body_of-append start front rest
    ∙ ap (λ t. t ++ body_of (run start front) rest) x.1
    ∙ ap (λ t. body ++ t) (behind_end (run start front) ieof rest x.0.ended) ∙ append-nil body
reading_body text body (Faulted fault) h = (breaks_fault text body fault h).1
reading_body text body Begun h =
    let p = part_place text body h.0 h.1 in
    (leaves_walk text body p.sum p.place p.quiet p.sound p.stands).finds

-- a text whose body fits has no prefix whose body doesn't
not_over : (room : ℕ) (text body : List ℕ) (outcome : Outcome) → IsReading text body outcome → length body ≤ room → IsOver room text → ⊥
not_over room text body outcome reading fits over =
    let more = body_of (run start over.front) over.rest in
    let found : body_of start over.front ≡ over.body = reading_body over.front over.body over.outcome over.reading in
    let all : body ≡ body_of start over.front ++ more =
    sym (reading_body text body outcome reading) ∙ ap (body_of start) over.cut ∙ body_of-append start over.front over.rest in
    let n : length body ≡ length (body_of start over.front) + length more = ap length all ∙ length-append (body_of start over.front) more in
    let m : length (body_of start over.front) ≡ length over.body = ap length found in
    let o = over.over in
    absurd (omega (arith, n, m, fits, o))

-- the rest after a 100, with this outcome, is answered in one way
ends_rest_one : (s : Shown) (call : Call) (heads preview text body : List ℕ) (outcome : Outcome) (f f' : First)
    → EndsRest s call heads preview text body outcome f → EndsRest s call heads preview text body outcome f' → f ≡ f'
ends_rest_one s call heads preview text body Begun f f' e e' = e ∙ sym e'
ends_rest_one s call heads preview text body (Faulted fault) f f' e e' = e ∙ sym e'
ends_rest_one s call heads preview text body (Ended ieof used) f f' e e' = e ∙ sym e'

-- the text after a 100 is answered in one way
rest_one : (s : Shown) (call : Call) (heads preview text : List ℕ) (f f' : First) → ReadsRest s call heads preview text f
    → ReadsRest s call heads preview text f' → f ≡ f'
rest_one s call heads preview text f f' (inl (over, e)) (inl (over', e')) = e ∙ sym e'
rest_one s call heads preview text f f' (inl (over, e)) (inr (body, outcome, reading, fits, h)) =
    absurd (not_over (MAX_BODY - length preview) text body outcome reading (omega (arith, fits)) over)
rest_one s call heads preview text f f' (inr (body, outcome, reading, fits, h)) (inl (over, e)) =
    absurd (not_over (MAX_BODY - length preview) text body outcome reading (omega (arith, fits)) over)
rest_one s call heads preview text f f' (inr (body, outcome, reading, fits, h)) (inr (body', outcome', reading', fits', h')) =
    let same = one_outcome text body body' outcome outcome' reading reading' in
    let P : List ℕ → Type 0 = λ b. EndsRest s call heads preview text b outcome' f' in
    let Q : Outcome → Type 0 = λ o. EndsRest s call heads preview text body o f' in
    ends_rest_one s call heads preview text body outcome f f' h (subst Q (sym same.1) (subst P (sym same.0) h'))

-- the text after the last chunk of a body or preview is answered in one way
ends_first_one : (s : Shown) (call : Call) (heads body : List ℕ) (ieof preview : Bool) (rest : List ℕ) (f f' : First)
    → EndsFirst s call heads body ieof preview rest f → EndsFirst s call heads body ieof preview rest f' → f ≡ f'
ends_first_one s call heads body ieof false rest f f' e e' = e ∙ sym e'
ends_first_one s call heads body ieof true rest f f' (inl (w, e)) (inl (w', e')) = e ∙ sym e'
ends_first_one s call heads body ieof true rest f f' (inl (w, e)) (inr (w', h)) = absurd (false_true (sym w ∙ w'))
ends_first_one s call heads body ieof true rest f f' (inr (w, h)) (inl (w', e)) = absurd (false_true (sym w' ∙ w))
ends_first_one s call heads body ieof true rest f f' (inr (w, h)) (inr (w', h')) = rest_one s call heads body rest f f' h h'

-- a body with this outcome is answered in one way
ends_body_one : (s : Shown) (call : Call) (heads text body : List ℕ) (outcome : Outcome) (f f' : First)
    → EndsBody s call heads text body outcome f → EndsBody s call heads text body outcome f' → f ≡ f'
ends_body_one s call heads text body Begun f f' e e' = e ∙ sym e'
ends_body_one s call heads text body (Faulted fault) f f' e e' = e ∙ sym e'
ends_body_one s call heads text body (Ended ieof used) f f' h h' =
    ends_first_one s call heads body ieof call.preview (drop used text) f f' h h'

-- a body in chunks is answered in one way
chunks_one : (s : Shown) (call : Call) (heads text : List ℕ) (f f' : First) → ReadsChunks s call heads text f
    → ReadsChunks s call heads text f' → f ≡ f'
chunks_one s call heads text f f' (inl (over, e)) (inl (over', e')) = e ∙ sym e'
chunks_one s call heads text f f' (inl (over, e)) (inr (body, outcome, reading, fits, h)) =
    absurd (not_over MAX_BODY text body outcome reading fits over)
chunks_one s call heads text f f' (inr (body, outcome, reading, fits, h)) (inl (over, e)) =
    absurd (not_over MAX_BODY text body outcome reading fits over)
chunks_one s call heads text f f' (inr (body, outcome, reading, fits, h)) (inr (body', outcome', reading', fits', h')) =
    let same = one_outcome text body body' outcome outcome' reading reading' in
    let P : List ℕ → Type 0 = λ b. EndsBody s call heads text b outcome' f' in
    let Q : Outcome → Type 0 = λ o. EndsBody s call heads text body o f' in
    ends_body_one s call heads text body outcome f f' h (subst Q (sym same.1) (subst P (sym same.0) h'))

-- what follows the encapsulated heads is answered in one way
body_one : (s : Shown) (call : Call) (part : BodyPart) (heads text : List ℕ) (f f' : First) → ReadsBody s call part heads text f
    → ReadsBody s call part heads text f' → f ≡ f'
body_one s call NullBody heads text f f' e e' = e ∙ sym e'
body_one s call ReqBody heads text f f' h h' = chunks_one s call heads text f f' h h'
body_one s call ResBody heads text f f' h h' = chunks_one s call heads text f f' h h'
body_one s call OptBody heads text f f' h h' = chunks_one s call heads text f f' h h'

-- ---- encapsulated heads

-- a whole head isn't a broken one
not_broken : (size : ℕ) (text : List ℕ) → IsHead size text → BreaksHead size text → ⊥
not_broken size text h (inl b) = false_true (sym (h.first b.0 b.1) ∙ b.3)
not_broken size text h (inr b) = false_true (sym b.2 ∙ h.blank b.0)

-- a whole head isn't an open one
not_open : (size : ℕ) (text : List ℕ) → IsHead size text → OpenHead size text → ⊥
not_open size text h o = let a = h.inside in let b = o.0 in absurd (omega (arith, a, b))

-- a broken head isn't an open one
broken_not_open : (size : ℕ) (text : List ℕ) → BreaksHead size text → OpenHead size text → ⊥
broken_not_open size text (inl b) o = false_true (sym (o.1 b.0 b.2) ∙ b.3)
broken_not_open size text (inr b) o = let x = b.1 in let y = o.0 in absurd (omega (arith, x, y))

-- heads that are open aren't broken
open_not_broken : (l : Layout) (text : List ℕ) → HeadsOpen l text → HeadsBroken l text → ⊥
open_not_broken l text (inl o) (inl b) = broken_not_open (middle l) text b o
open_not_broken l text (inl o) (inr b) = not_open (middle l) text b.0 o
open_not_broken l text (inr o) (inl b) = not_broken (middle l) text o.0 b
open_not_broken l text (inr o) (inr b) = broken_not_open (l.offset - middle l) (drop (middle l) text) b.1 o.1

-- heads that are open aren't whole
open_not_whole : (l : Layout) (text : List ℕ) → HeadsOpen l text → HeadsWhole l text → ⊥
open_not_whole l text (inl o) w = not_open (middle l) text w.0 o
open_not_whole l text (inr o) w = not_open (l.offset - middle l) (drop (middle l) text) w.1 o.1

-- heads that are broken aren't whole
broken_not_whole : (l : Layout) (text : List ℕ) → HeadsBroken l text → HeadsWhole l text → ⊥
broken_not_whole l text (inl b) w = not_broken (middle l) text w.0 b
broken_not_whole l text (inr b) w = not_broken (l.offset - middle l) (drop (middle l) text) w.1 b.1

-- what follows an ICAP head with this verdict is answered in one way
follows_one : (s : Shown) (verdict : Verdict) (text : List ℕ) (f f' : First) → Follows s verdict text f → Follows s verdict text f' → f ≡ f'
follows_one s (Refused status) text f f' e e' = e ∙ sym e'
follows_one s (Describes point) text f f' e e' = e ∙ sym e'
follows_one s (Offers call) text f f' (inl (o, e)) (inl (o', e')) = e ∙ sym e'
follows_one s (Offers call) text f f' (inl (o, e)) (inr (inl (b, e'))) = absurd (open_not_broken call.layout text o b)
follows_one s (Offers call) text f f' (inl (o, e)) (inr (inr (w, h))) = absurd (open_not_whole call.layout text o w)
follows_one s (Offers call) text f f' (inr (inl (b, e))) (inl (o, e')) = absurd (open_not_broken call.layout text o b)
follows_one s (Offers call) text f f' (inr (inl (b, e))) (inr (inl (b', e'))) = e ∙ sym e'
follows_one s (Offers call) text f f' (inr (inl (b, e))) (inr (inr (w, h))) = absurd (broken_not_whole call.layout text b w)
follows_one s (Offers call) text f f' (inr (inr (w, h))) (inl (o, e')) = absurd (open_not_whole call.layout text o w)
follows_one s (Offers call) text f f' (inr (inr (w, h))) (inr (inl (b, e'))) = absurd (broken_not_whole call.layout text b w)
follows_one s (Offers call) text f f' (inr (inr (w, h))) (inr (inr (w', h'))) =
    body_one s call call.layout.body (take call.layout.offset text) (drop call.layout.offset text) f f' h h'

-- ---- what a head asks for

-- the values of the Preview fields say one thing of a preview
preview_one : (values : List (List ℕ)) (p q : Bool) → PreviewIs values p → PreviewIs values q → p ≡ q
preview_one [] p q e e' = e ∙ sym e'
preview_one (v ∷ values) p q h h' = h.0 ∙ sym h'.0

-- values that say whether there is a preview aren't bad ones
preview_not_bad : (values : List (List ℕ)) (p : Bool) → PreviewIs values p → PreviewBad values → ⊥
preview_not_bad [] p h bad = bad
preview_not_bad (v ∷ values) p h bad = bad h.1

-- from its Preview fields on a head is judged in one way
judged_preview : (m : Method) (point : Point) (service : Service) (l : Layout) (fields : FieldList) (v w : Verdict)
    → JudgesPreview m point service l fields v → JudgesPreview m point service l fields w → v ≡ w
judged_preview m point service l fields v w (inl (bad, e)) (inl (bad', e')) = e ∙ sym e'
judged_preview m point service l fields v w (inl (bad, e)) (inr (p, is, e')) =
    absurd (preview_not_bad (values_of (codes "Preview") fields) p is bad)
judged_preview m point service l fields v w (inr (p, is, e)) (inl (bad, e')) =
    absurd (preview_not_bad (values_of (codes "Preview") fields) p is bad)
judged_preview m point service l fields v w (inr (p, is, e)) (inr (q, is', e')) =
    let same = preview_one (values_of (codes "Preview") fields) p q is is' in
    e ∙ ap (λ x. accepted m point service l x (allows_204 (values_of (codes "Allow") fields))) same ∙ sym e'

-- a list's value is one layout at most
layout_one : (m : Method) (value : List ℕ) (l k : Layout) → IsLayout m OfRequest value l → IsLayout m OfRequest value k → l ≡ k
layout_one m value l k x y = layout_unique l k (parts_unique value (parts_of l) (parts_of k) x.parts y.parts)

-- the values of the Encapsulated fields are one layout at most
list_one : (m : Method) (values : List (List ℕ)) (l k : Layout) → ListIs m values l → ListIs m values k → l ≡ k
list_one Options [] l k x y = x ∙ sym y
list_one Reqmod [] l k x y = absurd x
list_one Respmod [] l k x y = absurd x
list_one Options (v ∷ []) l k x y = layout_one Options v l k x.0 y.0
list_one Reqmod (v ∷ []) l k x y = layout_one Reqmod v l k x.0 y.0
list_one Respmod (v ∷ []) l k x y = layout_one Respmod v l k x.0 y.0
list_one Options (v ∷ other ∷ more) l k x y = absurd x
list_one Reqmod (v ∷ other ∷ more) l k x y = absurd x
list_one Respmod (v ∷ other ∷ more) l k x y = absurd x

-- a value that is a layout, with sizes that heads can have, isn't a bad one
value_not_bad : (m : Method) (value : List ℕ) (l : Layout) → IsLayout m OfRequest value l → has_head_sizes l ≡ true → ValueBad m value → ⊥
value_not_bad m value l is sizes (inl (fault, stands)) = no_fault m OfRequest value l fault is stands
value_not_bad m value l is sizes (inr (k, also, none)) = false_true (sym none ∙ ap has_head_sizes (layout_one m value k l also is) ∙ sizes)

-- values that are a layout aren't bad ones
list_not_bad : (m : Method) (values : List (List ℕ)) (l : Layout) → ListIs m values l → ListBad m values → ⊥
list_not_bad Options [] l x bad = bad
list_not_bad Reqmod [] l x bad = x
list_not_bad Respmod [] l x bad = x
list_not_bad Options (v ∷ []) l x bad = value_not_bad Options v l x.0 x.1 bad
list_not_bad Reqmod (v ∷ []) l x bad = value_not_bad Reqmod v l x.0 x.1 bad
list_not_bad Respmod (v ∷ []) l x bad = value_not_bad Respmod v l x.0 x.1 bad
list_not_bad Options (v ∷ other ∷ more) l x bad = x
list_not_bad Reqmod (v ∷ other ∷ more) l x bad = x
list_not_bad Respmod (v ∷ other ∷ more) l x bad = x

-- from its list on a head is judged in one way
judged_list : (m : Method) (point : Point) (service : Service) (fields : FieldList) (v w : Verdict) → JudgesList m point service fields v
    → JudgesList m point service fields w → v ≡ w
judged_list m point service fields v w (inl (bad, e)) (inl (bad', e')) = e ∙ sym e'
judged_list m point service fields v w (inl (bad, e)) (inr (l, is, h)) =
    absurd (list_not_bad m (values_of (codes "Encapsulated") fields) l is bad)
judged_list m point service fields v w (inr (l, is, h)) (inl (bad, e)) =
    absurd (list_not_bad m (values_of (codes "Encapsulated") fields) l is bad)
judged_list m point service fields v w (inr (l, is, h)) (inr (k, is', h')) =
    let P : Layout → Type 0 = λ x. JudgesPreview m point service x fields w in
    judged_preview m point service l fields v w h (subst P (sym (list_one m (values_of (codes "Encapsulated") fields) l k is is')) h')

-- from its point on a head is judged in one way
judged_point : (m : Method) (point : Point) (service : Service) (fields : FieldList) (v w : Verdict) → JudgesPoint m point service fields v
    → JudgesPoint m point service fields w → v ≡ w
judged_point m point service fields v w (inl (never, e)) (inl (never', e')) = e ∙ sym e'
judged_point m point service fields v w (inl (never, e)) (inr (served, h)) = absurd (false_true (sym never ∙ served))
judged_point m point service fields v w (inr (served, h)) (inl (never, e)) = absurd (false_true (sym never ∙ served))
judged_point m point service fields v w (inr (served, h)) (inr (served', h')) = judged_list m point service fields v w h h'

-- the letters that tell paths and methods apart
letter : (a b : List ℕ) (k : ℕ) → a ≡ b → slice_index a k ≡ slice_index b k
letter a b k e = ap (λ t. slice_index t k) e

-- the service of the letter after the second slash
service_of : ℕ → Service
service_of b = if b == 112 then Pass else (if b == 115 then Stamp else (if b == 117 then Upper else Block))

-- the point of the fourth letter
point_of : ℕ → Point
point_of b = if b == 113 then AtRequest else AtResponse

-- the fourth byte of a service's path tells its point
named_point : (point : Point) (service : Service) → point_of (slice_index (path_text point service) 3) ≡ point
unfolding point_of
named_point AtRequest Pass = refl
named_point AtRequest Stamp = refl
named_point AtRequest Upper = refl
named_point AtRequest Block = refl
named_point AtResponse Pass = refl
named_point AtResponse Stamp = refl
named_point AtResponse Upper = refl
named_point AtResponse Block = refl

-- services that are found at the same path are of the same point
point_one : (p q : Point) (x y : Service) → path_text p x ≡ path_text q y → p ≡ q
point_one p q x y e = sym (named_point p x) ∙ ap point_of (letter _ _ 3 e) ∙ named_point q y

-- where the letter that tells a service stands in the paths of this point
at_letter : Point → ℕ
at_letter AtRequest = 8
at_letter AtResponse = 9

-- a letter of a service's path tells the service
named_service : (point : Point) (service : Service) → service_of (slice_index (path_text point service) (at_letter point)) ≡ service
unfolding service_of at_letter
named_service AtRequest Pass = refl
named_service AtRequest Stamp = refl
named_service AtRequest Upper = refl
named_service AtRequest Block = refl
named_service AtResponse Pass = refl
named_service AtResponse Stamp = refl
named_service AtResponse Upper = refl
named_service AtResponse Block = refl

-- services of one point that are found at the same path are the same
service_one : (p : Point) (x y : Service) → path_text p x ≡ path_text p y → x ≡ y
service_one p x y e = sym (named_service p x) ∙ ap service_of (letter _ _ (at_letter p) e) ∙ named_service p y

-- from its path on a head is judged in one way
judged_path : (m : Method) (path : List ℕ) (fields : FieldList) (v w : Verdict) → JudgesPath m path fields v → JudgesPath m path fields w
    → v ≡ w
judged_path m path fields v w (inl (none, e)) (inl (none', e')) = e ∙ sym e'
judged_path m path fields v w (inl (none, e)) (inr (p, x, is, h)) = absurd (none p x is)
judged_path m path fields v w (inr (p, x, is, h)) (inl (none, e)) = absurd (none p x is)
judged_path m path fields v w (inr (p, x, is, h)) (inr (q, y, is', h')) =
    let points = point_one p q x y (sym is ∙ is') in
    let P : Point → Type 0 = λ r. path ≡ path_text r y in
    let services = service_one p x y (sym is ∙ subst P (sym points) is') in
    let Q : Point → Type 0 = λ r. JudgesPoint m r y fields w in
    let R : Service → Type 0 = λ z. JudgesPoint m p z fields w in
    judged_point m p x fields v w h (subst R (sym services) (subst Q (sym points) h'))

-- the path, by the scheme and what comes after the authority
path_by : Option (List ℕ) → List ℕ → List ℕ
path_by scheme behind_it = if not (length behind_it == 0) || is_some scheme then path_of behind_it else []

-- a URI has one path at most
path_one : (text path path' : List ℕ) → HasPath text path → HasPath text path' → path ≡ path'
unfolding path_by
path_one text path path' (u, spells, e) (u', spells', e') =
    let same = Spells_unique text u u' spells spells' in
    let a : uri_path u ≡ path_by (uri_scheme u) (uri_data u) = refl in
    let b : uri_path u' ≡ path_by (uri_scheme u') (uri_data u') = refl in
    sym e ∙ a ∙ ap (λ x. path_by x (uri_data u)) same.0 ∙ ap (λ x. path_by (uri_scheme u') x) same.2 ∙ sym b ∙ e'

-- from its Host fields on a head is judged in one way
judged_host : (m : Method) (r : Request) (v w : Verdict) → JudgesHost m r v → JudgesHost m r w → v ≡ w
judged_host m r v w (inl (none, e)) (inl (none', e')) = e ∙ sym e'
judged_host m r v w (inl (none, e)) (inr (some, h)) = absurd (some none)
judged_host m r v w (inr (some, h)) (inl (none, e)) = absurd (some none)
judged_host m r v w (inr (some, (path, is, h))) (inr (some', (path', is', h'))) =
    let P : List ℕ → Type 0 = λ p. JudgesPath m p r.fields w in
    judged_path m path r.fields v w h (subst P (sym (path_one r.uri path path' is is')) h')

-- the method of the third letter
method_by_letter : ℕ → Method
method_by_letter b = if b == 81 then Reqmod else (if b == 83 then Respmod else Options)

-- the third letter of a method's name tells the method
named_method : (m : Method) → method_by_letter (slice_index (method_name m) 2) ≡ m
unfolding method_by_letter
named_method Reqmod = refl
named_method Respmod = refl
named_method Options = refl

-- methods with the same name are the same
method_one : (m n : Method) → method_name m ≡ method_name n → m ≡ n
method_one m n e = sym (named_method m) ∙ ap method_by_letter (letter _ _ 2 e) ∙ named_method n

-- a head asks for one thing
pub judges_one : (r : Request) (v w : Verdict) → JudgesRequest r v → JudgesRequest r w → v ≡ w
judges_one r v w (inl (none, e)) (inl (none', e')) = e ∙ sym e'
judges_one r v w (inl (none, e)) (inr (m, is, h)) = absurd (none m is)
judges_one r v w (inr (m, is, h)) (inl (none, e)) = absurd (none m is)
judges_one r v w (inr (m, is, h)) (inr (n, is', h')) =
    let P : Method → Type 0 = λ x. JudgesHost x r w in
    judged_host m r v w h (subst P (sym (method_one m n (sym is ∙ is'))) h')

-- ---- a request, and a stream

-- a text opens with one verdict at most, and one text follows its head
opens_one : (text a b : List ℕ) (v w : Verdict) → Opens text v a → Opens text w b → (v ≡ w) × (a ≡ b)
opens_one text a b v w (value, size, has, judges, e) (value', size', has', judges', e') =
    let same = request_unique text value value' size size' has has' in
    let P : Request → Type 0 = λ r. JudgesRequest r w in
    (judges_one value v w judges (subst P (sym same.0) judges'), e ∙ ap (λ k. drop k text) same.1 ∙ sym e')

-- the first request of a text is answered in one way
pub first_one : (s : Shown) (text : List ℕ) (f f' : First) → IsFirst s text f → IsFirst s text f' → f ≡ f'
first_one s text f f' (inl (fault, stands, e)) (inl (fault', stands', e')) =
    e ∙ ap (λ x. last (due_to s x)) (one_fault RequestForm request_version fault fault' text stands stands') ∙ sym e'
first_one s text f f' (inl (fault, stands, e)) (inr (v, a, (value, size, has, judges, at), h)) =
    absurd (no_request_fault fault text value size has stands)
first_one s text f f' (inr (v, a, (value, size, has, judges, at), h)) (inl (fault, stands, e)) =
    absurd (no_request_fault fault text value size has stands)
first_one s text f f' (inr (v, a, opens, h)) (inr (w, b, opens', h')) =
    let same = opens_one text a b v w opens opens' in
    let P : Verdict → Type 0 = λ x. Follows s x b f' in
    let Q : List ℕ → Type 0 = λ t. Follows s v t f' in
    follows_one s v a f f' h (subst Q (sym same.1) (subst P (sym same.0) h'))

-- what the first request of a text gets: its answer, or what is due
said : First → List ℕ
said (whole a r) = a
said (last a) = a

-- what the first request of a text leaves: nothing if it isn't whole
left : First → List ℕ
left (whole a r) = r
left (last a) = []

-- two requests that aren't whole, if they are answered alike, are due the same
last_one : (a b : List ℕ) → last a ≡ last b → a ≡ b
unfolding said
last_one a b e = ap said e

-- two whole requests that are answered alike have the same answer and leave the same text
whole_one : (a b r t : List ℕ) → whole a r ≡ whole b t → (a ≡ b) × (r ≡ t)
unfolding said left
whole_one a b r t e = (ap said e, ap left e)

-- a request isn't both whole and not whole
not_last : (a r d : List ℕ) → whole a r ≡ last d → ⊥
not_last a r d e = cc

-- whole requests of a stream, up to one that isn't, get the same answers and due in any two ways
leads_one : {s : Shown} {stream a rest a' rest' : List ℕ} (d d' : List ℕ) → Leads s stream a rest → Leads s stream a' rest'
    → IsFirst s rest (last d) → IsFirst s rest' (last d') → a ++ d ≡ a' ++ d'
leads_one {s} {stream} d d' here here f g = last_one d d' (first_one s stream (last d) (last d') f g)
leads_one {s} d d' here (behind {text = text} {answer = answer} {rest = next} one lead) f g =
    absurd (not_last answer next d (sym (first_one s text (last d) (whole answer next) f one)))
leads_one {s} d d' (behind {text = text} {answer = answer} {rest = next} one lead) here f g =
    absurd (not_last answer next d' (first_one s text (whole answer next) (last d') one g))
leads_one {s} d d' (behind {text = text} {answer = answer} {rest = next} {answers = answers} {text' = end} one lead)
    (behind {text = again} {answer = answer'} {rest = next'} {answers = answers'} {text' = end'} one' lead') f g =
    let same = whole_one answer answer' next next' (first_one s text (whole answer next) (whole answer' next') one one') in
    let P : List ℕ → Type 0 = λ t. Leads s t answers' end' in
    append_assoc answer answers d ∙ ap (λ t. answer ++ t) (leads_one d d' lead (subst P (sym same.1) lead') f g)
    ∙ ap (λ t. t ++ (answers' ++ d')) same.0 ∙ sym (append_assoc answer' answers' d')

-- a stream has one answer
pub answers_one : (s : Shown) (stream text other : List ℕ) → Answers s stream text → Answers s stream other → text ≡ other
answers_one s stream text other h g = h.text_is ∙ leads_one h.due g.due h.lead g.lead h.first g.first ∙ sym g.text_is
