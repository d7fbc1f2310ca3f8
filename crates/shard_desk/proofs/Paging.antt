-- A page that says what is noted is one of its status.
use Rattle.std.proofs.Common.{ℕ, List, Option, Some, None, IsSomeAnd}
use Rattle.exchange_report.specs.Pages.{IsPageRefusal}
use Rattle.shard_report.specs.Notes.{SaysPage, noted_why}
use Rattle.shard_report.specs.declared.notes.Note.{Note}

-- a text that says the page of a note that was found is a refusal with that page
pub says_page : (status : ℕ) (page : List ℕ) (number : ℕ) (found : Option Note) (text : List ℕ)
    → IsSomeAnd found (λ note. SaysPage status page number note text) → IsPageRefusal status page text
says_page status page number (Some note) text says = (noted_why note, number, note.is_head, says.1)
says_page status page number None text says = absurd says
