-- The proxy's own error responses that have a page: a text of the status, the page, the reason's word and a number.
use Rattle.std.specs.Prelude.{◌≡◌, ℕ, Bool, ◌==◌, List, [], ◌∷◌, ◌++◌, length, Option, Some, None, if◌then◌else◌, codes}
use Rattle.adapt_bytes.specs.Numeral.{numeral}
use Rattle.http_side.specs.Refusals.{status_text}
use Rattle.exchange_report.specs.Entry.{why_word}
use Rattle.exchange_report.specs.declared.why.Why.{Why}

-- what goes in where these two bytes stand: the word for %w, the number for %i
abbrev pub gap : (word number : List ℕ) → (first second : ℕ) → Option (List ℕ)
gap word number first second =
    if first == 37 then (if second == 119 then Some word else (if second == 105 then Some number else None)) else None

-- A page with its gaps filled, in one pass from left to right: what went in isn't read again, and any other byte stays.
abbrev pub filled : (word number : List ℕ) → List ℕ → List ℕ
filled word number [] = []
filled word number (byte ∷ []) = byte ∷ []
filled word number (byte ∷ next ∷ page) = elim (gap word number byte next) [
  | None ↦ byte ∷ filled word number (next ∷ page)
  | Some text ↦ text ++ filled word number page
]

-- the head of such a response, whose page has so many bytes (RFC 9110, sections 8.3 and 8.6)
unfoldable pub page_head : (status bytes : ℕ) → List ℕ
page_head status bytes = codes "HTTP/1.1 " ++ status_text status ++ codes "\r\nContent-Type: text/html\r\nContent-Length: "
    ++ numeral 10 bytes
    ++ codes "\r\nConnection: close\r\n\r\n"

-- the page as it is sent for this reason
abbrev pub page_body : (page : List ℕ) → Why → (number : ℕ) → List ℕ
page_body page why number = filled (why_word why) (numeral 10 number) page

-- the head and the page; to a HEAD request the head alone (RFC 9110, section 9.3.2)
abbrev pub page_refusal : (status : ℕ) → (page : List ℕ) → Why → (number : ℕ) → (to_head : Bool) → List ℕ
page_refusal status page why number to_head = page_head status (length (page_body page why number))
    ++ (if to_head then [] else page_body page why number)

-- the text is such a response with this page
abbrev pub IsPageRefusal : (status : ℕ) → (page text : List ℕ) → Type 0
IsPageRefusal status page text = (why : Why) × (number : ℕ) × (to_head : Bool) × (text ≡ page_refusal status page why number to_head)
