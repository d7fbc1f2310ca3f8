-- The first line of an ICAP message (RFC 3507, sections 4.3.2 and 4.3.3).
use Rattle.std.specs.Prelude.{◌≡◌, ◌≢◌, ℕ, ◌-◌, ◌⊎◌, ◌++◌, List, [], ◌∷◌, length, take, codes, slice_index, if◌then◌else◌, ◌==◌, Some}
use Rattle.std.specs.Prelude.{IsTrue, All}
use Rattle.std.specs.Char.{is_ascii_digit}
use Rattle.std.specs.Str.Parse.{digits_value}
use Rattle.adapt_bytes.specs.Text.{IsToken, SameAscii, Lacks}
use Rattle.http_uri.specs.Uri.{Spells, uri_scheme}
use Rattle.http_uri.specs.declared.uri.Uri.{Uri}
use Rattle.icap_head.specs.declared.reading.HeadFault.{HeadFault}
use Rattle.icap_head.specs.declared.reading.HeadFault.TheVariants.{StartLine, Version}

-- a line without one CR at its end
abbrev pub without_cr : List ℕ → List ℕ
without_cr raw = if slice_index raw (length raw - 1) == 13 then take (length raw - 1) raw else raw

-- the text is a line, up to its first LF and without one CR before that, and then rest
pub record IsFirstLine (text line rest : List ℕ) : Type 0 where
  pub raw : List ℕ
  pub cut : text ≡ raw ++ 10 ∷ rest
  pub no_feed : Lacks 10 raw
  pub line_is : line ≡ without_cr raw

-- no line ends in the text
abbrev pub HasNoLine : List ℕ → Type 0
HasNoLine text = (line rest : List ℕ) → ¬ (IsFirstLine text line rest)

-- an ICAP URI (RFC 3507, section 4.2): of scheme `icap` in any case, hence with an authority, and with no fragment
pub record IsIcapUri (text : List ℕ) : Type 0 where
  pub uri : Uri
  pub spells : Spells text uri
  pub scheme : List ℕ
  pub scheme_is : uri_scheme uri ≡ Some scheme
  pub icap : SameAscii scheme (codes "icap")
  pub no_fragment : Lacks 35 text

-- a version: `ICAP/`, a digit, a dot and a digit
pub record IsVersion (text : List ℕ) : Type 0 where
  pub major : ℕ
  pub minor : ℕ
  pub text_is : text ≡ codes "ICAP/" ++ major ∷ 46 ∷ minor ∷ []
  pub major_digit : IsTrue (is_ascii_digit major)
  pub minor_digit : IsTrue (is_ascii_digit minor)

-- a method, a space, a URI, a space and a version (RFC 3507, section 4.3.2)
pub record IsRequestLine (line method uri version : List ℕ) : Type 0 where
  pub line_is : line ≡ method ++ 32 ∷ uri ++ 32 ∷ version
  pub method_is : IsToken method
  pub uri_is : IsIcapUri uri
  pub one_word : Lacks 32 uri
  pub version_is : IsVersion version

-- the line is three words with one space between them, the first a method and the last a version
pub record MayBeRequestLine (line : List ℕ) : Type 0 where
  pub method : List ℕ
  pub word : List ℕ
  pub version : List ℕ
  pub line_is : line ≡ method ++ 32 ∷ word ++ 32 ∷ version
  pub method_is : IsToken method
  pub one_word : Lacks 32 word
  pub version_is : IsVersion version

-- each of the three is a digit
abbrev pub AreDigits : ℕ → ℕ → ℕ → Type 0
AreDigits a b c = IsTrue (is_ascii_digit a) × IsTrue (is_ascii_digit b) × IsTrue (is_ascii_digit c)

-- three digits, and nothing or a space and a phrase
pub record IsStatus (text : List ℕ) (status : ℕ) (phrase : List ℕ) : Type 0 where
  pub digits : List ℕ
  pub behind : List ℕ
  pub text_is : text ≡ digits ++ behind
  pub three : length digits ≡ 3
  pub all_digits : All (λ b. IsTrue (is_ascii_digit b)) digits
  pub value : digits_value 10 digits ≡ status
  pub phrase_is : ((behind ≡ []) × (phrase ≡ [])) ⊎ (behind ≡ 32 ∷ phrase)

-- a version, a space, a status and its phrase, which may be absent or empty (RFC 3507, section 4.3.3)
pub record IsStatusLine (line : List ℕ) (status : ℕ) (phrase version : List ℕ) : Type 0 where
  pub text : List ℕ
  pub line_is : line ≡ version ++ 32 ∷ text
  pub version_is : IsVersion version
  pub status_is : IsStatus text status phrase

-- the form of a request line, of some method and URI
abbrev pub RequestForm : List ℕ → List ℕ → Type 0
RequestForm version line = (method : List ℕ) × (uri : List ℕ) × IsRequestLine line method uri version

-- the form of a status line, of some status and phrase
abbrev pub StatusForm : List ℕ → List ℕ → Type 0
StatusForm version line = (status : ℕ) × (phrase : List ℕ) × IsStatusLine line status phrase version

-- why a start line of that form is refused: it has the form for no version, or for another than 1.0
abbrev pub RefusesStartLine : (List ℕ → List ℕ → Type 0) → HeadFault → List ℕ → Type 0
RefusesStartLine Form fault line =
    ((fault ≡ StartLine) × ((version : List ℕ) → ¬ (Form version line)))
    ⊎ ((fault ≡ Version) × ((version : List ℕ) × Form version line × (version ≢ codes "ICAP/1.0")))
