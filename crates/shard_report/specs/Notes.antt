-- What is noted of the exchanges of a loop.
use Rattle.std.specs.Prelude.{◌≡◌, ℕ, List, [], Some, None, MatchOption, IsTrue, IsSomeAnd, slice_get, slice_set}
use Rattle.trace_core.specs.declared.history.Point.TheVariants.{Reqmod}
use Rattle.exchange_report.specs.Entry.{nothing}
use Rattle.exchange_report.specs.Pages.{page_refusal}
use Rattle.exchange_report.specs.declared.why.Why.{Why}
use Rattle.shard_report.specs.declared.notes.Note.{Note}
use Rattle.shard_report.specs.declared.notes.Notes.{Notes}
use Rattle.shard_report.specs.declared.notes.Words.{Words}

-- an exchange goes on under this key
abbrev pub IsOpen : List Note → ℕ → Type 0
IsOpen notes key = IsSomeAnd (slice_get notes key) (λ note. IsTrue note.is_open)

-- why an exchange ended as it did, as far as that is noted
abbrev pub noted_why : Note → Why
noted_why note = note.summary.why

-- A refusal with this page says what is noted: the word of the reason, and the number; and to a HEAD request its head alone goes.
abbrev pub SaysPage : (status : ℕ) → (page : List ℕ) → (number : ℕ) → Note → (text : List ℕ) → Type 0
SaysPage status page number note text =
    (note.summary.refusal ≡ Some number) × (text ≡ page_refusal status page (noted_why note) number note.is_head)

-- the same note, of a request that is begun anew: it went nowhere yet, and nothing became of it, so no service has seen it
abbrev pub begun_anew : Note → Note
begun_anew note = record note {
  point = Reqmod;
  dialled = None;
  destination = None;
  summary = nothing;
}

-- the same texts, of a message in which nothing was found
abbrev pub Forgets : (old new : Words) → Type 0
Forgets old new = (new ≡ record old { found = new.found }) × (new.found.items ≡ [])

-- what is kept under this key has changed so, and what is kept under the others stays; where there is no such key, all of it stays
abbrev pub ChangesAt : {X : Type 0} → (key : ℕ) → (X → X → Type 0) → (old new : List X) → Type 0
ChangesAt key changes old new =
    MatchOption (slice_get old key) (new ≡ old) (λ x. IsSomeAnd (slice_get new key) (λ y. changes x y × (new ≡ slice_set old key y)))

-- The request under this key is begun anew.
pub record Withdraws (key : ℕ) (old new : Notes) : Type 0 where
  -- it went nowhere yet, and nothing became of it
  pub note : ChangesAt key (λ x y. y ≡ begun_anew x) old.notes.items new.notes.items
  -- nothing was found in it
  pub found : ChangesAt key Forgets old.words.items new.words.items
  -- no further exchange has begun
  pub begun : new.begun ≡ old.begun
