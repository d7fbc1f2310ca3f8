-- The log's line of an exchange: the fields of Squid's native format in their order, and those that it hasn't.
use Rattle.std.specs.Prelude.{ℕ, ◌/◌, ◌%◌, Bool, false, List, [], ◌∷◌, ◌++◌, Option, Some, None, take, nat_lt, if◌then◌else◌, codes}
use Rattle.adapt_bytes.specs.Numeral.{numeral, three_digits}
use Rattle.exchange_report.specs.Reasons.{reason_word}
use Rattle.exchange_report.specs.Words.{word_of}
use Rattle.exchange_report.specs.declared.entry.Address.{Address}
use Rattle.exchange_report.specs.declared.entry.Destination.{Destination}
use Rattle.exchange_report.specs.declared.entry.Destination.TheVariants.{Origin, Parent}
use Rattle.exchange_report.specs.declared.entry.Entry.{Entry}
use Rattle.exchange_report.specs.declared.entry.Summary.{Summary}
use Rattle.exchange_report.specs.declared.verdict.Reply.{Reply}
use Rattle.exchange_report.specs.declared.verdict.Reply.TheVariants.{Missing, Plain, Unchanged, Changed}
use Rattle.exchange_report.specs.declared.verdict.Verdict.{Verdict}
use Rattle.exchange_report.specs.declared.why.Why.{Why}
use Rattle.exchange_report.specs.declared.why.Why.TheVariants.{Served, UserGone, Failed}
use Rattle.exchange_report.specs.declared.words.TheConstants.{MAX_TARGET, MAX_METHOD, MAX_KIND, MAX_FOUND}

abbrev pub address_text : Address → List ℕ
address_text a = numeral 10 a.first ++ codes "." ++ numeral 10 a.second ++ codes "." ++ numeral 10 a.third ++ codes "."
    ++ numeral 10 a.fourth

-- the user's address, or a hyphen
abbrev pub user_text : Option Address → List ℕ
user_text (Some address) = address_text address
user_text None = codes "-"

-- where the request went: straight to its origin, to the parent, or nowhere
abbrev pub destination_text : Option Destination → List ℕ
destination_text (Some (Origin address)) = codes "HIER_DIRECT/" ++ address_text address
destination_text (Some (Parent address)) = codes "FIRSTUP_PARENT/" ++ address_text address
destination_text None = codes "HIER_NONE/-"

-- whose answer it is: the proxy's own is denied
abbrev pub tag_text : Bool → List ℕ
tag_text refused = if refused then codes " TCP_DENIED/" else codes " TCP_MISS/"

-- a status has three digits (RFC 9112, section 4)
abbrev pub status_text : ℕ → List ℕ
status_text status = if nat_lt status 1000 then three_digits status else numeral 10 status

-- a moment in seconds, with three decimals
abbrev pub moment_text : ℕ → List ℕ
moment_text milliseconds = numeral 10 (milliseconds / 1000) ++ codes "." ++ three_digits (milliseconds % 1000)

-- the moment of the end, the milliseconds that it took, the user, whose answer and its status, and the bytes
-- that went to the user
abbrev pub head_text : Entry → List ℕ
head_text e = moment_text e.ended ++ codes " " ++ numeral 10 e.elapsed ++ codes " "
    ++ user_text e.user ++ tag_text e.refused ++ status_text e.status ++ codes " " ++ numeral 10 e.sent

-- the method, the target, no login, where the request went, and the media type of the answer
abbrev pub request_text : Entry → List ℕ
request_text e = codes " " ++ word_of (take MAX_METHOD e.method.now) ++ codes " " ++ word_of (take MAX_TARGET e.target.now) ++ codes " - "
    ++ destination_text e.destination ++ codes " " ++ word_of (take MAX_KIND e.kind.now)

abbrev pub reply_word : Reply → List ℕ
reply_word Missing = codes "-"
reply_word Plain = codes "plain"
reply_word Unchanged = codes "204"
reply_word Changed = codes "200"

-- what became of a message: that it was sent anew, that more than the preview was asked for, and the reply
abbrev pub verdict_text : Verdict → List ℕ
verdict_text v = (if v.retried then codes "retry+" else []) ++ (if v.continued then codes "100+" else []) ++ reply_word v.reply

abbrev pub why_word : Why → List ℕ
why_word Served = codes "-"
why_word UserGone = codes "user-gone"
why_word (Failed reason) = reason_word reason

-- nothing became of an exchange: no service has seen a message of it, nothing came of its body, and its user got no page; if it ends
-- so, its user is gone
abbrev pub nothing : Summary
nothing = record {
  reqmod = record { retried = false; continued = false; reply = Missing };
  respmod = record { retried = false; continued = false; reply = Missing };
  why = UserGone;
  received = 0;
  refusal = None;
}

-- A field that Squid's format hasn't: its name, as it stands before its value, and the value.
pub data Field : Type 0 where
  -- a number
  Number : (name : List ℕ) → ℕ → Field
  -- a number, or no field at all
  Optional : (name : List ℕ) → Option ℕ → Field
  -- so many bytes at most of a value from outside
  Outside : (name : List ℕ) → (most : ℕ) → (value : List ℕ) → Field
  -- what became of a message
  Judged : (name : List ℕ) → Verdict → Field
  -- why an exchange ended as it did
  Ended : (name : List ℕ) → Why → Field

-- its name and its value, as they are written
unfoldable pub field_text : Field → List ℕ
field_text (Field.Number name n) = name ++ numeral 10 n
field_text (Field.Optional name (Some n)) = name ++ numeral 10 n
field_text (Field.Optional name None) = []
field_text (Field.Outside name most value) = name ++ word_of (take most value)
field_text (Field.Judged name verdict) = name ++ verdict_text verdict
field_text (Field.Ended name why) = name ++ why_word why

-- those of a list, one after another
abbrev pub fields_text : List Field → List ℕ
fields_text [] = []
fields_text (field ∷ fields) = field_text field ++ fields_text fields

-- a text, and these fields after it
abbrev pub with_fields : List ℕ → List Field → List ℕ
with_fields text [] = text
with_fields text (field ∷ fields) = with_fields (text ++ field_text field) fields

-- what a service made of the request and of the response, why the exchange ended otherwise than by its answer, what a service
-- found, the bytes of the request's body, and the number in the page of a refusal
abbrev pub fields_of : Entry → List Field
fields_of e =
    Field.Judged (codes " reqmod=") e.summary.reqmod
    ∷ Field.Judged (codes " respmod=") e.summary.respmod
    ∷ Field.Ended (codes " why=") e.summary.why
    ∷ Field.Outside (codes " found=") MAX_FOUND e.found.now
    ∷ Field.Number (codes " in=") e.summary.received
    ∷ Field.Optional (codes " refusal=") e.summary.refusal
    ∷ []

-- those, and the line's end
unfoldable pub end_text : Entry → List ℕ
end_text e = fields_text (fields_of e) ++ codes "\n"

-- the whole line
abbrev pub line_text : Entry → List ℕ
line_text e = head_text e ++ request_text e ++ end_text e
