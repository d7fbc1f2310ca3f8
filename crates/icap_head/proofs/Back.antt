-- What is written is read again.
use Rattle.std.proofs.Common.{◌≡◌, ℕ, ◌+◌, ◌-◌, ◌/◌, ◌%◌, IsTrue, List, [], ◌∷◌, ◌++◌, length, get_or, map, refl, sym, ap, ap₂, ◌∙◌, arith}
use Rattle.std.proofs.Common.{length-append, append_assoc, append-nil, codes, All, inr}
use Rattle.std.specs.List.{flat_map, AllByRecursion}
use Rattle.std.proofs.Math.Seq.{take-append_seam}
use Rattle.std.proofs.lemmas.List.{get_or_at}
use Rattle.std.proofs.lemmas.List.Elements.{All-cons, All-nil}
use Rattle.adapt_bytes.specs.Text.{Lacks}
use Rattle.adapt_bytes.specs.Numeral.{three_digits}
use Rattle.adapt_bytes.proofs.ThreeDigits.{all_digits, digits_back}
use Rattle.httparse.specs.Grammar.{crlf, Field as Line, IsField, print_field, print_section, is_value_byte}
use Rattle.httparse.specs.Spans.{name_and_value}
use Rattle.httparse.proofs.TrimLemmas.{trim_ows_space}
use Rattle.adapt_bytes.specs.Fields.{FieldList}
use Rattle.icap_head.specs.StartLines.{without_cr, IsStatus, IsVersion}
use Rattle.icap_head.specs.Heads.{Request, Response, ReadsHead, IsRequestHead, IsResponseHead, StartsRequest, StartsResponse}
use Rattle.icap_head.specs.Written.{IsFieldPair, IsRequest, IsResponse, field_text, fields_text, request_line, request_text, status_line}
use Rattle.icap_head.specs.Written.{response_text}
use Rattle.icap_head.proofs.Lacking.{no_feed, lacks_append, lacks_cons, lacks_from, lacks_nil, tested}

-- a line to which a CR is added is that line again without it
cr_off : (line : List ℕ) → without_cr (line ++ 13 ∷ []) ≡ line
cr_off line =
    let long = length-append line (13 ∷ []) in
    let at : length (line ++ 13 ∷ []) - 1 ≡ length line = omega arith in
    let last : get_or (line ++ 13 ∷ []) (length line) 0 ≡ 13 = get_or_at line 13 [] 0 (length line) refl in
    rw (at, last) (take-append_seam line (13 ∷ []))

-- the version ICAP/1.0 has the form of a version
version_itself : IsVersion (codes "ICAP/1.0")
version_itself = record { major = 49; minor = 48; text_is = refl; major_digit = refl; minor_digit = refl }

-- the line that a field is written on: a space before its value, and a CR LF
line_of : (List ℕ × List ℕ) → Line
line_of field = record { name = field.0; raw = 32 ∷ field.1; end = crlf }

-- the names and trimmed values of the lines that fields are written on are those fields
fields_back : (fields : FieldList) → AllByRecursion IsFieldPair fields → map name_and_value (map line_of fields) ≡ fields
unfolding line_of
fields_back [] h = refl
fields_back (f ∷ fields) h = ap₂ (λ x l. x ∷ l) (ap (λ v. (f.0, v)) (trim_ows_space f.1 h.0.front h.0.back)) (fields_back fields h.1)

-- fields that lines can hold are written on valid field lines
fields_valid : (fields : FieldList) → AllByRecursion IsFieldPair fields → All IsField (map line_of fields)
unfolding line_of
fields_valid [] h = All-nil IsField
fields_valid (f ∷ fields) h =
    All-cons IsField (line_of f) (map line_of fields) (record {
      name = h.0.name;
      raw = All-cons (λ b. IsTrue (is_value_byte b)) 32 f.1 refl h.0.value;
    }) (fields_valid fields h.1)

-- the lines of fields have the bytes that the fields are written as
lines_printed : (fields : FieldList) → flat_map print_field (map line_of fields) ≡ flat_map field_text fields
unfolding line_of
lines_printed [] = refl
lines_printed (f ∷ fields) = ap (λ t. field_text f ++ t) (lines_printed fields)

-- the lines of fields and an empty one have the bytes of the written fields, to their last
fields_printed : (fields : FieldList) → print_section (map line_of fields) crlf ≡ fields_text fields
unfolding line_of
fields_printed fields = ap (λ t. t ++ 13 ∷ 10 ∷ []) (lines_printed fields)

-- a start line and fields, written, are a head
head_back : (S : List ℕ → Type 0) (line : List ℕ) (fields : FieldList) → S line → Lacks 10 line → AllByRecursion IsFieldPair fields
    → ReadsHead S (line ++ 13 ∷ 10 ∷ fields_text fields) fields []
head_back S line fields start lacks h = record {
  line = line;
  behind = fields_text fields;
  first = record {
    raw = line ++ 13 ∷ [];
    cut = sym (append_assoc line (13 ∷ []) (10 ∷ fields_text fields));
    no_feed = lacks_append 10 line (13 ∷ []) lacks (lacks_from 10 (13 ∷ []) refl);
    line_is = sym (cr_off line);
  };
  start = start;
  section = (
    map line_of fields,
    crlf,
    (
      fields_valid fields h,
      sym (fields_printed fields) ∙ sym (append-nil (print_section (map line_of fields) crlf)),
    ),
    fields_back fields h,
  );
}

-- ---- requests

-- the written start line of a request that a head can hold has no LF
request_lacks : (value : Request) → IsRequest value → Lacks 10 (request_line value)
request_lacks value h =
    lacks_append 10 (value.method ++ 32 ∷ value.uri) (32 ∷ codes "ICAP/1.0")
    (lacks_append 10 value.method (32 ∷ value.uri) (no_feed value.method h.method)
    (lacks_cons 10 32 value.uri (tested 10 32 refl) h.one_line))
    (lacks_from 10 (32 ∷ codes "ICAP/1.0") refl)

-- what is written of a request that a head can hold is the head of this request
pub request_back : (value : Request) → IsRequest value → IsRequestHead (request_text value) value
unfolding request_text
request_back value h =
    head_back (StartsRequest value) (request_line value) value.fields
    (record { line_is = refl; method_is = h.method; uri_is = h.uri; one_word = h.one_word; version_is = version_itself })
    (request_lacks value h) h.fields

-- the text as it is put together
pub request_text_is : (value : Request) → (((value.method ++ 32 ∷ []) ++ value.uri) ++ (codes " ICAP/1.0" ++ 13 ∷ 10 ∷ []))
    ++ fields_text value.fields ≡ request_text value
unfolding request_text
request_text_is value = simp append_assoc

-- ---- responses

-- three digits, a space and the phrase, of a response that a head can hold, have the form of its status and phrase
status_back : (value : Response) → IsResponse value → IsStatus (three_digits value.status ++ 32 ∷ value.phrase) value.status value.phrase
status_back value h =
    let n = value.status in
    let small = h.status in
    record {
      digits = three_digits n;
      behind = 32 ∷ value.phrase;
      text_is = refl;
      three = refl;
      all_digits = all_digits n small;
      value = digits_back n small;
      phrase_is = inr refl;
    }

-- a byte from the digit 0 upwards is no LF
digit_no_feed : (d : ℕ) → 48 + d ≡ 10 → ⊥
digit_no_feed d e = omega (arith, e)

-- the written status line of a response that a head can hold has no LF
status_lacks : (value : Response) → IsResponse value → Lacks 10 (status_line value)
status_lacks value h =
    let n = value.status in
    lacks_append 10 (codes "ICAP/1.0" ++ 32 ∷ three_digits n) (32 ∷ value.phrase)
    (lacks_append 10 (codes "ICAP/1.0") (32 ∷ three_digits n) (lacks_from 10 (codes "ICAP/1.0") refl)
    (lacks_cons 10 32 (three_digits n) (tested 10 32 refl)
    (lacks_cons 10 (48 + n / 100) ((48 + n / 10 % 10) ∷ (48 + n % 10) ∷ []) (digit_no_feed (n / 100))
    (lacks_cons 10 (48 + n / 10 % 10) ((48 + n % 10) ∷ []) (digit_no_feed (n / 10 % 10))
    (lacks_cons 10 (48 + n % 10) [] (digit_no_feed (n % 10)) (lacks_nil 10))))))
    (lacks_cons 10 32 value.phrase (tested 10 32 refl) h.one_line)

-- what is written of a response that a head can hold is the head of this response
pub response_back : (value : Response) → IsResponse value → IsResponseHead (response_text value) value
unfolding response_text
response_back value h =
    head_back (StartsResponse value) (status_line value) value.fields
    (record {
      text = three_digits value.status ++ 32 ∷ value.phrase;
      line_is = append_assoc (codes "ICAP/1.0") (32 ∷ three_digits value.status) (32 ∷ value.phrase);
      version_is = version_itself;
      status_is = status_back value h;
    })
    (status_lacks value h) h.fields

-- the text as it is put together
pub response_text_is : (value : Response) → (((((codes "ICAP/1.0 " ++ three_digits value.status) ++ 32 ∷ []) ++ value.phrase)
    ++ 13 ∷ 10 ∷ []) ++ fields_text value.fields) ≡ response_text value
unfolding response_text
response_text_is value = simp append_assoc
