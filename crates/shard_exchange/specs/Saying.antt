-- What goes out to a user of a text that the proxy itself says.
use Rattle.std.specs.Prelude.{◌≡◌, ℕ, ◌==◌, ◌&&◌, Bool, true, false, not, List, length, codes, Option, Some, None, is_some, IfSome}
use Rattle.exchange_report.specs.Pages.{IsPageRefusal}
use Rattle.http_side.specs.Refusals.{refusal}
use Rattle.shard_exchange.specs.Hand.{Refused}
use Rattle.wire_kit.specs.Past.{Past}
use Rattle.adapt_sides.specs.Saying.{Says}
use Rattle.adapt_sides.specs.declared.saying.Said.{Said}
use Rattle.adapt_sides.specs.declared.saying.Said.TheVariants.{Whole, Part, Broken}

-- how many bytes of a text are out after that
abbrev pub out_after : (text : List ℕ) → (before : ℕ) → Said → ℕ
out_after text before Whole = length text
out_after text before (Part out) = out
out_after text before _ = before

-- what may have happened so far on a connection that may be gone
abbrev pub past_of : {W : Type 0} → (W → Past → Type 0) → Option W → Past → Type 0
past_of past None p = ⊥
past_of past (Some wire) p = past wire p

-- The user gets what is left of a text, in one write at most: it takes up where the call before ended. A user whose connection has
-- failed is gone.
pub record SaysOn (old new : Past → Type 0) (text : List ℕ) (before out : ℕ) (said : Said) : Type 0 where
  pub says : (said ≡ Broken → ⊥) → Says old new text before said
  pub out_is : out ≡ out_after text before said

-- what tells a user to send its body (RFC 9110, section 15.2.1)
abbrev pub interim_text : List ℕ
interim_text = codes "HTTP/1.1 100 Continue\r\n\r\n"

-- the refusal of a status: the one with a page, where it was laid, or the plain one
abbrev pub refusal_by : (status : ℕ) → (page : Option (List ℕ)) → List ℕ
refusal_by status None = refusal status
refusal_by status (Some text) = text

-- one with a page may still be laid: no byte of a refusal is out
abbrev pub may_lay : Refused → Bool
may_lay old = (old.out == 0) && not (is_some old.page)

-- A refusal with a page that is laid is one of this status, with a page that refusals of it have. Once it is laid, or a byte of the plain
-- one is out, the text of the refusal stays what it is.
pub record LaysPage (has_page : List ℕ → Type 0) (status : ℕ) (old : Refused) (new : Option (List ℕ)) : Type 0 where
  pub laid : may_lay old ≡ true → IfSome new (λ text. (page : List ℕ) × has_page page × IsPageRefusal status page text)
  pub stays : may_lay old ≡ false → new ≡ old.page
