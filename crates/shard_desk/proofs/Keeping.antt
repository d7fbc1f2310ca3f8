-- What a service said is kept in the book of its own point.
use Rattle.std.proofs.Common.{◌≡◌, Option, refl, sym, subst}
use Rattle.trace_core.specs.declared.history.Point.{Point}
use Rattle.trace_core.specs.declared.history.Point.TheVariants.{Reqmod, Respmod}
use Rattle.options_book.specs.Options.{Options}
use Rattle.proxy_config.specs.declared.point.ServicePoint.{ServicePoint}
use Rattle.service_pool.specs.declared.book.PointBook.{PointBook}
use Rattle.shard_desk.specs.Books.{book_at, Keeps, KeepsAt}

-- it changes the book of requests alone
pub keeps_request : {point : Point} {service : Option ServicePoint} {said : Options} {old new responses : PointBook}
    → point ≡ Reqmod → Keeps point service said old new → KeepsAt point service said (book_at old responses) (book_at new responses)
keeps_request {service = service} {said = said} {old = old} {new = new} {responses = responses} at keeps =
    subst (λ p. KeepsAt p service said (book_at old responses) (book_at new responses)) (sym at)
    (record { own = subst (λ p. Keeps p service said old new) at keeps; other = refl })

-- it changes the book of responses alone
pub keeps_response : {point : Point} {service : Option ServicePoint} {said : Options} {old new requests : PointBook}
    → point ≡ Respmod → Keeps point service said old new → KeepsAt point service said (book_at requests old) (book_at requests new)
keeps_response {service = service} {said = said} {old = old} {new = new} {requests = requests} at keeps =
    subst (λ p. KeepsAt p service said (book_at requests old) (book_at requests new)) (sym at)
    (record { own = subst (λ p. Keeps p service said old new) at keeps; other = refl })
