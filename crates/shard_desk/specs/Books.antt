-- What the services said, as one thread keeps it.
use Rattle.std.specs.Prelude.{◌≡◌, ℕ, false, Option, Some, None, option_and_then}
use Rattle.trace_core.specs.declared.history.Point.{Point}
use Rattle.trace_core.specs.declared.history.Point.TheVariants.{Reqmod, Respmod}
use Rattle.options_book.specs.Options.{Options, most_connections}
use Rattle.proxy_config.specs.declared.point.ServicePoint.{ServicePoint}
use Rattle.proxy_rules.specs.Pools.{maximum_of}
use Rattle.service_pool.specs.Limits.{IsSetTo}
use Rattle.service_pool.specs.declared.book.PointBook.{PointBook}

-- what the service of a point said, of these two
abbrev pub book_at : (requests responses : PointBook) → Point → PointBook
book_at requests responses Reqmod = requests
book_at requests responses Respmod = responses

abbrev pub other_point : Point → Point
other_point Reqmod = Respmod
other_point Respmod = Reqmod

-- the most connections to a service that said this
abbrev pub maximum_by : ServicePoint → Options → ℕ
maximum_by service said = maximum_of (option_and_then most_connections (Some said)) service.connections

-- the book of a point has what its service said just now: the service isn't to be asked again, no later tag is known, and the point's
-- pool was set to the maximum for it
pub record HasKept (point : Point) (service : ServicePoint) (said : Options) (book : PointBook) : Type 0 where
  pub record_is : book.said ≡ Some said
  pub tag : book.tag ≡ None
  pub current : book.stale ≡ false
  pub maximum : IsSetTo point (maximum_by service said) book.maximum

-- what the service of a point said is kept; what a point without a service has stays
abbrev pub Keeps : Point → Option ServicePoint → Options → (old new : PointBook) → Type 0
Keeps point (Some service) said old new = HasKept point service said new
Keeps point None said old new = new ≡ old

-- it is kept in the book of its own point, and the other point's book stays
pub record KeepsAt (point : Point) (service : Option ServicePoint) (said : Options) (old new : Point → PointBook) : Type 0 where
  pub own : Keeps point service said (old point) (new point)
  pub other : new (other_point point) ≡ old (other_point point)
