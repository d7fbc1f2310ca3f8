-- What is written is a head of the grammar.
use Rattle.std.proofs.Common.{◌≡◌, ◌≢◌, ℕ, ◌<◌, Bool, true, false, not, ◌||◌, ◌&&◌, List, [], ◌∷◌, ◌++◌, length, map, take, drop, Some}
use Rattle.std.proofs.Common.{IsTrue, reverse, refl, sym, ap, ap₂, ◌∙◌, subst, inl, inr, arith, append_assoc, length-append, rules, get_or}
use Rattle.std.specs.Prelude.{All, codes, ◌==◌, nat_lt}
use Rattle.std.specs.List.{flat_map, list_all, filter}
use Rattle.std.proofs.lemmas.Bool.{cases_Bool}
use Rattle.std.proofs.lemmas.List.Elements.{All-map, All-cons, All-tail, All-append, All-take, All-drop, All-filter}
use Rattle.std.proofs.lemmas.List.{append-nil}
use Rattle.std.specs.Str.{str_eq_ignore_ascii_case}
use Rattle.httparse.specs.Grammar.{Field, IsField, IsToken, AllPass, skip_ows, is_value_byte, is_uri_byte, is_token_byte, print_field}
use Rattle.httparse.specs.Grammar.{print_request, print_response, print_version, print_end, crlf}
use Rattle.httparse.specs.Spans.{name_and_value}
use Rattle.httparse.proofs.GrammarLemmas.{print_request-append, cons-append}
use Rattle.httparse.proofs.TrimLemmas.{AllPass-trim_ows}
use Rattle.adapt_bytes.specs.Numeral.{three_digits}
use Rattle.adapt_bytes.proofs.ThreeDigits.{all_digits, digits_back}
use Rattle.http_side.specs.Heads.{RequestParts, ResponseParts, both_lengths, is_options}
use Rattle.http_side.specs.Targets.{authority_of, count_before, is_delimiter, is_hash, is_rooted, rooted, path_of, origin_form}
use Rattle.http_side.specs.declared.writing.Extra.{Extra}
use Rattle.http_side.specs.declared.writing.Beside.{Beside}
use Rattle.http_side.specs.Forward.{field_line, field_lines, head_text, request_line, status_line, target_form, request_fields}
use Rattle.http_side.specs.Forward.{response_fields, added_fields, extra_of, kept_fields, stays, once, is_length, hosted, host_line, when}
use Rattle.http_side.specs.Forward.{via_value, has_host}
use Rattle.http_side.specs.Laws.{WasRead, WasReadRequest, WasReadResponse, passed_fields, minor_of}
use Rattle.http_side.specs.declared.forward.Message.{Message}
use Rattle.http_side.specs.declared.forward.Message.TheVariants.{Request, Response}
use Rattle.httparse.proofs.TrimLemmas.{trim_ows_space}
use Rattle.http_side.proofs.Trimmed.{trimmed_front, trimmed_back, visible_front, visible_back}
use Rattle.http_side.proofs.TargetForms.{target_utf8}
use Rattle.http_side.specs.Written.{written_field, written_request, written_response, IsWritable, IsUnbroken, HasNoBreak, ReadsBackRequest}
use Rattle.http_side.specs.Written.{ReadsBackResponse, WritesNoBreaks}

-- ---- texts

-- fields that may be written are written as fields of the grammar
all_fields : (fields : List (List ℕ × List ℕ)) → All IsWritable fields → All IsField (map written_field fields)
all_fields fields h = All-map IsField written_field fields (λ k d l. let w = h k d l in
    record { name = w.name; raw = All-cons (λ b. IsTrue (is_value_byte b)) 32 _ refl w.value })

-- the line of a field is what the grammar prints for it
line_printed : (f : List ℕ × List ℕ) → field_line f ≡ print_field (written_field f)
line_printed f = simp append_assoc refl

-- the lines of some fields are what the grammar prints for them
lines_printed : (fields : List (List ℕ × List ℕ)) → field_lines fields ≡ flat_map print_field (map written_field fields)
lines_printed [] = refl
lines_printed (f ∷ fields) = rw (lines_printed fields) (ap (λ t. t ++ flat_map print_field (map written_field fields)) (line_printed f))

-- the same parts, grouped otherwise
regroup : (m t v l s e : List ℕ) → ((m ++ 32 ∷ [] ++ t ++ (32 ∷ v)) ++ e ++ l) ++ e ≡ []
    ++ (m ++ 32 ∷ (t ++ 32 ∷ (v ++ (e ++ ((l ++ e) ++ [])))))
regroup m t v l s e = simp (append_assoc, cons-append, append-nil) refl

-- a request's head as it is written is what the grammar prints for it
head_printed : (method target : List ℕ) (fields : List (List ℕ × List ℕ))
    → head_text (request_line method target) fields ≡ print_request (written_request method target fields) ++ []
head_printed method target fields =
    let h = written_request method target fields in
    rw (lines_printed fields) (regroup method target (print_version 1) (flat_map print_field (map written_field fields)) [] (print_end crlf)
    ∙ sym (print_request-append h []))

-- a response's head as it is written is what the grammar prints for it
answer_printed : (status : ℕ) (phrase : List ℕ) (fields : List (List ℕ × List ℕ))
    → head_text (status_line status phrase) fields ≡ print_response (written_response status phrase fields) ++ []
unfolding print_response
answer_printed status phrase fields =
    let lines = flat_map print_field (map written_field fields) in
    rw (lines_printed fields) (simp (append_assoc, cons-append, append-nil)
    (ap (λ t. codes "HTTP/1.1 " ++ (three_digits status ++ (32 ∷ t))) (append_assoc (phrase ++ 13 ∷ 10 ∷ []) lines (13 ∷ 10 ∷ []))))

-- ---- the fields of a head that was read

pub record IsValue (v : List ℕ) : Type 0 where
  pub bytes : AllPass is_value_byte v
  pub front : skip_ows v ≡ v
  pub back : skip_ows (reverse v) ≡ reverse v

-- the names and trimmed values of fields of the grammar may be written
read_fields : (fields : List Field) → All IsField fields → All IsWritable (map name_and_value fields)
read_fields fields h = All-map IsWritable name_and_value fields (λ k d l. let w = h k d l in
    record { name = w.name; value = AllPass-trim_ows is_value_byte _ w.raw; front = trimmed_front _; back = trimmed_back _ })

-- the fields of a request that was read may be written
pub request_writable : (r : RequestParts) → WasReadRequest r → All IsWritable r.fields
request_writable r w = let at = w.3.there in subst (λ x. All IsWritable x.fields) at.parts_are
    (read_fields at.head.fields at.reads.0.fields)

-- the fields of a response that was read may be written
pub response_writable : (r : ResponseParts) → WasReadResponse r → All IsWritable r.fields
response_writable r w = let at = w.3.there in subst (λ x. All IsWritable x.fields) at.parts_are
    (read_fields at.head.fields at.reads.0.fields)

-- a test of each byte of a text
tested : (test : ℕ → Bool) (xs : List ℕ) → list_all test xs ≡ true → AllPass test xs
tested test [] e = λ k d l. absurd (omega arith)
tested test (x ∷ xs) e = elim (cases_Bool (test x)) [
  | inl on ↦ All-cons (λ b. IsTrue (test b)) x xs on (tested test xs (let more : list_all test xs ≡ true = rw on at e in more))
  | inr off ↦ absurd (let f : false ≡ true = rw off at e in cc)
]

-- those that go on are among them
all_once : (seen : Bool) (xs : List (List ℕ × List ℕ)) → All IsWritable xs → All IsWritable (once seen xs)
all_once seen [] h = h
all_once seen (f ∷ xs) h = elim (cases_Bool (is_length f && seen)) [
  | inl gone ↦ rw gone (all_once seen xs (All-tail IsWritable f xs h))
  | inr on ↦ rw on (All-cons IsWritable f (once (seen || is_length f) xs) (h 0 f (omega arith))
      (all_once (seen || is_length f) xs (All-tail IsWritable f xs h)))
]

-- of fields that may be written, those that go on may be
all_kept : (beside : Beside) (fields : List (List ℕ × List ℕ)) → All IsWritable fields → All IsWritable (kept_fields beside fields)
all_kept beside fields h = all_once false (filter (stays beside fields) fields) (All-filter (stays beside fields) IsWritable fields h)

-- a field that may be written may be so with the authority in place of a Host's value
host_ok : (authority : List ℕ) → IsValue authority → (f : List ℕ × List ℕ) → IsWritable f → IsWritable (host_line authority f)
host_ok authority v f w = elim (cases_Bool (str_eq_ignore_ascii_case f.0 (codes "host"))) [
  | inl host ↦ rw host (record { name = w.name; value = v.bytes; front = v.front; back = v.back })
  | inr other ↦ rw other w
]

-- fields that may be written may be so with the authority in each Host
all_hosted : (authority : List ℕ) (xs : List (List ℕ × List ℕ)) → IsValue authority → All IsWritable xs
    → All IsWritable (map (hosted (Some authority)) xs)
all_hosted authority xs v h = All-map IsWritable (hosted (Some authority)) xs (λ k d l. host_ok authority v _ (h k d l))

-- of no fields all may be written
none_is : All IsWritable []
none_is = λ k d l. absurd (omega arith)

-- a token and a value of the grammar are a field that may be written
word : (name value : List ℕ) → nat_lt 0 (length name) ≡ true → list_all is_token_byte name ≡ true → IsValue value → IsWritable (name, value)
word name value n t v = record { name = (search rules, tested is_token_byte name t); value = v.bytes; front = v.front; back = v.back }

-- a list of one field that may be written, or of none, may be written
all_when : (b : Bool) (f : List ℕ × List ℕ) → IsWritable f → All IsWritable (when b f)
all_when true f w = All-cons IsWritable f [] w none_is
all_when false f w = none_is

-- value bytes without blanks at their ends are a value of the grammar
value : (v : List ℕ) → list_all is_value_byte v ≡ true → skip_ows v ≡ v → skip_ows (reverse v) ≡ reverse v → IsValue v
value v e front back = record { bytes = tested is_value_byte v e; front = front; back = back }

-- what Via says is a value of the grammar
via_ok : (minor : ℕ) → IsValue (via_value minor)
via_ok minor = elim (cases_Bool (minor == 0)) [
  | inl old ↦ rw old (value (codes "1.0 adaptproxy") refl refl refl)
  | inr new ↦ rw new (value (codes "1.1 adaptproxy") refl refl refl)
]

-- where each of the four fields that are added may be written, all added ones may be
four_words : (x : Extra) (minor : ℕ) → IsWritable (codes "Content-Length", codes "0")
    → IsWritable (codes "Transfer-Encoding", codes "chunked")
    → IsWritable (codes "Connection", codes "close") → IsWritable (codes "Via", via_value minor) → All IsWritable (added_fields x minor)
four_words x minor a b c d =
    let e = when x.empty (codes "Content-Length", codes "0") in
    let f = when x.chunked (codes "Transfer-Encoding", codes "chunked") in
    let g = when x.close (codes "Connection", codes "close") in
    let h = when x.via (codes "Via", via_value minor) in
    All-append IsWritable ((e ++ f) ++ g) h
    (All-append IsWritable (e ++ f) g
    (All-append IsWritable e f (all_when x.empty (codes "Content-Length", codes "0") a)
    (all_when x.chunked (codes "Transfer-Encoding", codes "chunked") b))
    (all_when x.close (codes "Connection", codes "close") c))
    (all_when x.via (codes "Via", via_value minor) d)

-- all fields that are added may be written
all_added : (x : Extra) (minor : ℕ) → All IsWritable (added_fields x minor)
unfolding is_token_byte
all_added x minor = four_words x minor
    (word (codes "Content-Length") (codes "0") refl refl (value (codes "0") refl refl refl))
    (word (codes "Transfer-Encoding") (codes "chunked") refl refl (value (codes "chunked") refl refl refl))
    (word (codes "Connection") (codes "close") refl refl (value (codes "close") refl refl refl))
    (word (codes "Via") (via_value minor) refl refl (via_ok minor))

-- a Host with an authority that is a value may be written
host_word : (authority : List ℕ) → IsValue authority → IsWritable (codes "Host", authority)
unfolding is_token_byte
host_word authority v = word (codes "Host") authority refl refl v

-- all fields of a request that was read, as they go on, and the added ones may be written
pub request_all : (r : RequestParts) (authority : List ℕ) (x : Extra) → WasReadRequest r → IsValue authority
    → All IsWritable (request_fields authority r.fields ++ added_fields x r.minor)
request_all r authority x w v =
    let b : Beside = record { expect = true; length = false } in
    All-append IsWritable (request_fields authority r.fields) (added_fields x r.minor)
    (All-append IsWritable (when (not (has_host r.fields)) (codes "Host", authority))
    (map (hosted (Some authority)) (kept_fields b r.fields))
    (all_when (not (has_host r.fields)) (codes "Host", authority) (host_word authority v))
    (all_hosted authority (kept_fields b r.fields) v (all_kept b r.fields (request_writable r w))))
    (all_added x r.minor)

-- all fields of a response that was read, as they go on, and the added ones may be written
pub response_all : (r : ResponseParts) (x : Extra) → WasReadResponse r → All IsWritable (response_fields r.fields ++ added_fields x r.minor)
response_all r x w =
    All-append IsWritable (response_fields r.fields) (added_fields x r.minor)
    (all_kept (record { expect = false; length = both_lengths r.fields }) r.fields (response_writable r w)) (all_added x r.minor)

-- ---- targets

abbrev IsVisible : List ℕ → Type 0
IsVisible t = AllPass is_uri_byte t

-- the target of a request that was read is of target bytes
pub target_visible : (r : RequestParts) → WasReadRequest r → IsVisible r.target
target_visible r w = let at = w.3.there in subst (λ x. IsVisible x.target) at.parts_are at.reads.0.target.1

-- what follows some bytes of a text of target bytes is of target bytes
visible_drop : (n : ℕ) (t : List ℕ) → IsVisible t → IsVisible (drop n t)
visible_drop n t h = All-drop (λ b. IsTrue (is_uri_byte b)) n t h

-- a prefix of a text of target bytes is of target bytes
visible_take : (n : ℕ) (t : List ℕ) → IsVisible t → IsVisible (take n t)
visible_take n t h = All-take (λ b. IsTrue (is_uri_byte b)) n t h

-- the authority of a target of target bytes is of target bytes
authority_visible : (t : List ℕ) → IsVisible t → IsVisible (authority_of t)
authority_visible t h = visible_take (count_before is_delimiter (drop 7 t)) (drop 7 t) (visible_drop 7 t h)

-- the path and query of a target of target bytes are of target bytes
path_visible : (t : List ℕ) → IsVisible t → IsVisible (path_of t)
path_visible t h = elim (cases_Bool (is_rooted t)) [
  | inl on ↦ rw on (visible_take (count_before is_hash t) t h)
  | inr off ↦ rw off (let behind = drop (count_before is_delimiter (drop 7 t)) (drop 7 t) in
      visible_take (count_before is_hash behind) behind (visible_drop (count_before is_delimiter (drop 7 t)) (drop 7 t)
      (visible_drop 7 t h)))
]

-- a path of target bytes, with its slash, isn't empty and is of target bytes
rooted_ok : (p : List ℕ) → IsVisible p → (0 < length (rooted p)) × IsVisible (rooted p)
rooted_ok [] h = (omega arith, All-cons (λ b. IsTrue (is_uri_byte b)) 47 [] refl h)
rooted_ok (b ∷ p) h = elim (cases_Bool (is_rooted (b ∷ p))) [
  | inl on ↦ rw on (omega arith, h)
  | inr off ↦ rw off (omega arith, All-cons (λ b. IsTrue (is_uri_byte b)) 47 (b ∷ p) refl h)
]

-- the target that is written, of target bytes and such an authority, isn't empty and is of target bytes
target_ok : (absolute : Bool) (authority t : List ℕ) → IsVisible authority → IsVisible t
    → (0 < length (target_form absolute authority t)) × IsVisible (target_form absolute authority t)
target_ok false authority t a h = rooted_ok (path_of t) (path_visible t h)
target_ok true authority t a h =
    let path = rooted_ok (path_of t) (path_visible t h) in (
      omega (arith, length-append (codes "http://") (authority ++ origin_form t), let l : length (codes "http://") ≡ 7 = refl in l),
      All-append (λ b. IsTrue (is_uri_byte b)) (codes "http://") (authority ++ origin_form t) (tested is_uri_byte (codes "http://") refl)
          (All-append (λ b. IsTrue (is_uri_byte b)) authority (origin_form t) a path.1),
    )

-- a target byte is a value byte
value_of_visible : (b : ℕ) → IsTrue (is_uri_byte b) → IsTrue (is_value_byte b)
value_of_visible b h = search rules

-- a text of target bytes is a value of the grammar
values_of_visible : (t : List ℕ) → IsVisible t → IsValue t
values_of_visible t h = record {
  bytes = λ k d l. value_of_visible (get_or t k d) (h k d l);
  front = visible_front t h;
  back = visible_back t h;
}

-- ---- what is read again

-- a field that may be written is read back as itself
field_back : (f : List ℕ × List ℕ) → IsWritable f → name_and_value (written_field f) ≡ f
field_back f w = ap (λ v. (f.0, v)) (trim_ows_space f.1 w.front w.back)

-- fields that may be written are read back as themselves
fields_back : (fields : List (List ℕ × List ℕ)) → All IsWritable fields → map name_and_value (map written_field fields) ≡ fields
fields_back [] h = refl
fields_back (f ∷ fields) h = ap₂ ◌∷◌ (field_back f (h 0 f (omega arith))) (fields_back fields (All-tail IsWritable f fields h))

-- a request that was read is written as a head that is read as the request that is meant
pub reads_back_request : ReadsBackRequest
reads_back_request r user w u absolute extra =
    let authority = authority_of user.target in
    let from_user : WasReadRequest user = (false, u.0, u.1, u.2) in
    let seen = authority_visible user.target (target_visible user from_user) in
    let target = target_form absolute authority r.target in
    let fields = request_fields authority r.fields ++ added_fields extra r.minor in
    let all = request_all r authority extra w (values_of_visible authority seen) in
    let at = w.3.there in
    let method : IsToken r.method = subst (λ x. IsToken x.method) at.parts_are at.reads.0.method in (
      written_request r.method target fields,
      (
        record {
          method = method;
          target = target_ok absolute authority r.target seen (target_visible r w);
          target_text = target_utf8 w.0 (is_options r) (is_options user) absolute r.target user.target w.3.taken.served u.2.taken.served;
          minor = omega arith;
          fields = all_fields fields all;
        },
        head_printed r.method target fields,
      ),
      ap (λ x. sent r.method target x) (fields_back fields all),
    )
  where
    sent : List ℕ → List ℕ → List (List ℕ × List ℕ) → RequestParts
    sent method target fields = record { method = method; target = target; minor = 1; fields = fields }

-- a response that was read is written as a head that is read as the response that is meant
pub reads_back_response : ReadsBackResponse
reads_back_response r w small extra =
    let fields = response_fields r.fields ++ added_fields extra r.minor in
    let all = response_all r extra w in
    let at = w.3.there in (
      written_response r.status r.phrase fields,
      (
        record {
          minor = omega arith;
          digits = (refl, all_digits r.status small);
          reason = subst (λ x. AllPass is_value_byte x.phrase) at.parts_are at.reads.0.reason;
          fields = all_fields fields all;
        },
        answer_printed r.status r.phrase fields,
      ),
      ap (λ n. sent n (map name_and_value (map written_field fields))) (digits_back r.status small)
          ∙ ap (sent r.status) (fields_back fields all),
    )
  where
    sent : ℕ → List (List ℕ × List ℕ) → ResponseParts
    sent status fields = record { status = status; phrase = r.phrase; minor = 1; fields = fields; to_head = r.to_head }

-- ---- no breaks

-- a byte that passes a test isn't one that doesn't
differs : (test : ℕ → Bool) (b c : ℕ) → test c ≡ false → IsTrue (test b) → b ≢ c
differs test b c off on = λ e. absurd (let x : true ≡ false = sym on ∙ ap test e ∙ off in cc)

-- a text whose bytes all pass a test that CR, LF and NUL don't has no break
unbroken : (test : ℕ → Bool) (t : List ℕ) → test 13 ≡ false → test 10 ≡ false → test 0 ≡ false → AllPass test t → HasNoBreak t
unbroken test t a b c h = λ k d l. let on = h k d l in
    (differs test (get_or t k d) 13 a on, differs test (get_or t k d) 10 b on, differs test (get_or t k d) 0 c on)

-- a field that may be written has no break in its name or its value
field_unbroken : (f : List ℕ × List ℕ) → IsWritable f → IsUnbroken f
unfolding is_token_byte
field_unbroken f w = record {
  name = unbroken is_token_byte f.0 refl refl refl w.name.1;
  value = unbroken is_value_byte f.1 refl refl refl w.value;
}

-- of fields that may be written none has a break in its name or its value
all_unbroken : (fields : List (List ℕ × List ℕ)) → All IsWritable fields → All IsUnbroken fields
all_unbroken fields h = λ k d l. field_unbroken (get_or fields k d) (h k d l)

-- no byte of a field of a forwarded head ends a line
pub writes_no_breaks : WritesNoBreaks
writes_no_breaks f w u = by_message f.message w
  where
    by_message : (m : Message) → WasRead m → All IsUnbroken (passed_fields (authority_of f.user.now.target) m
        ++ added_fields (extra_of f) (minor_of m))
    by_message (Request r) w =
        let user = f.user.now in
        let from_user : WasReadRequest user = (false, u.0, u.1, u.2) in
        let seen = authority_visible user.target (target_visible user from_user) in
        all_unbroken _ (request_all r.now (authority_of user.target) (extra_of f) w (values_of_visible (authority_of user.target) seen))
    by_message (Response r) w = all_unbroken _ (response_all r.now (extra_of f) w)
