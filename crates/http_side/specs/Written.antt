-- What is written is a head that is read back.
use Rattle.std.specs.Prelude.{◌≡◌, ◌≢◌, ℕ, ◌<◌, List, [], ◌∷◌, ◌++◌, map, reverse, All, Some, Bool, false}
use Rattle.httparse.specs.Grammar.{Field, crlf, IsToken, AllPass, is_value_byte, skip_ows, RequestHead, ResponseHead}
use Rattle.httparse.specs.Grammar.{ReadsResponse}
use Rattle.adapt_bytes.specs.Numeral.{three_digits}
use Rattle.http_side.specs.Heads.{RequestParts, ResponseParts, response_parts, IsRequestText}
use Rattle.http_side.specs.Requests.{IsRead}
use Rattle.http_side.specs.Targets.{authority_of}
use Rattle.http_side.specs.Forward.{request_text, response_text, target_form, request_fields, response_fields, added_fields}
use Rattle.http_side.specs.declared.writing.Extra.{Extra}
use Rattle.http_side.specs.declared.forward.Forward.{Forward}
use Rattle.http_side.specs.Laws.{WasRead, WasReadRequest, WasReadResponse, forwarded_fields}

-- a field line that is written
abbrev pub written_field : List ℕ × List ℕ → Field
written_field f = record { name = f.0; raw = 32 ∷ f.1; end = crlf }

-- the head that is written, of HTTP/1.1
abbrev pub written_request : List ℕ → List ℕ → List (List ℕ × List ℕ) → RequestHead
written_request method target fields =
    record { blank = []; method = method; target = target; minor = 1; line_end = crlf; fields = map written_field fields; last = crlf }

abbrev pub written_response : ℕ → List ℕ → List (List ℕ × List ℕ) → ResponseHead
written_response status phrase fields =
    record {
      blank = [];
      minor = 1;
      digits = three_digits status;
      reason = Some phrase;
      line_end = crlf;
      fields = map written_field fields;
      last = crlf;
    }

-- a field that may be written: a token, and a value of the grammar without blanks at its ends
pub record IsWritable (f : List ℕ × List ℕ) : Type 0 where
  pub name : IsToken f.0
  pub value : AllPass is_value_byte f.1
  pub front : skip_ows f.1 ≡ f.1
  pub back : skip_ows (reverse f.1) ≡ reverse f.1

-- no byte of it ends a line or a string
abbrev pub HasNoBreak : List ℕ → Type 0
HasNoBreak text = All (λ b. (b ≢ 13) × (b ≢ 10) × (b ≢ 0)) text

abbrev pub IsResponseText : List ℕ → ResponseParts → Type 0
IsResponseText text parts = (head : ResponseHead) × ReadsResponse text head [] × (response_parts head parts.to_head ≡ parts)

-- the user's own request was read
abbrev pub WasReadFromUser : RequestParts → Type 0
WasReadFromUser user = (text : List ℕ) × (len : ℕ) × IsRead false text user len

-- the request that is meant: of HTTP/1.1, with the fields that go on and those that are added
abbrev pub sent_request : RequestParts → List ℕ → Bool → Extra → RequestParts
sent_request r authority absolute extra =
    record {
      method = r.method;
      target = target_form absolute authority r.target;
      minor = 1;
      fields = request_fields authority r.fields ++ added_fields extra r.minor;
    }

abbrev pub sent_response : ResponseParts → Extra → ResponseParts
sent_response r extra =
    record {
      status = r.status;
      phrase = r.phrase;
      minor = 1;
      fields = response_fields r.fields ++ added_fields extra r.minor;
      to_head = r.to_head;
    }

-- a request that was read is written as a head that is read as the request that is meant
abbrev pub ReadsBackRequest : Type 0
ReadsBackRequest = (r user : RequestParts) → WasReadRequest r → WasReadFromUser user → (absolute : Bool) (extra : Extra)
    → IsRequestText (request_text r (authority_of user.target) absolute extra) (sent_request r (authority_of user.target) absolute extra)

abbrev pub ReadsBackResponse : Type 0
ReadsBackResponse = (r : ResponseParts) → WasReadResponse r → r.status < 1000 → (extra : Extra)
    → IsResponseText (response_text r extra) (sent_response r extra)

-- no byte of this field's name or value ends a line or a string
pub record IsUnbroken (f : List ℕ × List ℕ) : Type 0 where
  pub name : HasNoBreak f.0
  pub value : HasNoBreak f.1

-- no byte of a field that goes on, or is added, ends a line: a value can't begin another field, nor another head
abbrev pub WritesNoBreaks : Type 0
WritesNoBreaks = (f : Forward) → WasRead f.message → WasReadFromUser f.user.now → All IsUnbroken (forwarded_fields f)
