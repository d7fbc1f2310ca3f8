-- What is kept of what a service said.
use Rattle.std.specs.Prelude.{◌≡◌, ℕ, false, MatchOption, option_map}
use Rattle.options_book.specs.Options.{IsFresh}
use Rattle.service_pool.specs.declared.book.PointBook.{PointBook}

-- there is a record that serves at this moment, by the last tag that an answer had, and nobody wants the service asked again
abbrev pub Serves : PointBook → ℕ → Type 0
Serves book now = MatchOption book.said ⊥ (λ said. (book.stale ≡ false) × IsFresh said now (option_map (λ tag. tag.items) book.tag))
