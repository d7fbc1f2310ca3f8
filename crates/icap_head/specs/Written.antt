-- How a head is written: CRLF at each line, one space after each colon, three digits of a status.
use Rattle.std.specs.Prelude.{◌≡◌, ℕ, ◌<◌, ◌++◌, List, [], ◌∷◌, reverse, codes}
use Rattle.std.specs.List.{flat_map, AllByRecursion}
use Rattle.adapt_bytes.specs.Text.{IsToken, Lacks}
use Rattle.httparse.specs.Grammar.{IsToken as IsFieldName, AllPass, is_value_byte, skip_ows}
use Rattle.adapt_bytes.specs.Fields.{FieldList}
use Rattle.adapt_bytes.specs.Numeral.{three_digits}
use Rattle.icap_head.specs.Heads.{Request, Response}
use Rattle.icap_head.specs.StartLines.{IsIcapUri}

-- a field that a line can hold: a token, and a value of value bytes without blanks at its ends (RFC 9110, section 5.5)
pub record IsFieldPair (field : List ℕ × List ℕ) : Type 0 where
  pub name : IsFieldName field.0
  pub value : AllPass is_value_byte field.1
  pub front : skip_ows field.1 ≡ field.1
  pub back : skip_ows (reverse field.1) ≡ reverse field.1

-- a request that a head can hold
pub record IsRequest (value : Request) : Type 0 where
  pub method : IsToken value.method
  pub uri : IsIcapUri value.uri
  pub one_word : Lacks 32 value.uri
  pub one_line : Lacks 10 value.uri
  pub fields : AllByRecursion IsFieldPair value.fields

-- a response that a head can hold
pub record IsResponse (value : Response) : Type 0 where
  pub status : value.status < 1000
  pub one_line : Lacks 10 value.phrase
  pub fields : AllByRecursion IsFieldPair value.fields

-- name: value, on a line
abbrev pub field_text : List ℕ × List ℕ → List ℕ
field_text field = field.0 ++ 58 ∷ 32 ∷ field.1 ++ 13 ∷ 10 ∷ []

-- the field lines and the empty line
abbrev pub fields_text : FieldList → List ℕ
fields_text fields = flat_map field_text fields ++ 13 ∷ 10 ∷ []

-- method, URI and version, with a space between them
abbrev pub request_line : Request → List ℕ
request_line value = value.method ++ 32 ∷ value.uri ++ 32 ∷ codes "ICAP/1.0"

-- the head of a request
unfoldable pub request_text : Request → List ℕ
request_text value = request_line value ++ 13 ∷ 10 ∷ fields_text value.fields

-- version, status and phrase, with a space between them, also before an empty phrase
abbrev pub status_line : Response → List ℕ
status_line value = codes "ICAP/1.0" ++ 32 ∷ three_digits value.status ++ 32 ∷ value.phrase

-- the head of a response
unfoldable pub response_text : Response → List ℕ
response_text value = status_line value ++ 13 ∷ 10 ∷ fields_text value.fields
