-- The refusal has the page that the exchange's configuration has for its status.
use Rattle.std.proofs.Common.{sym}
use Rattle.std.proofs.lemmas.Option.{IfSome_then}
use Rattle.shard_desk.proofs.outside.noting.DeskNotingSpot.refusal_page.Goals as goal

-- the page is that of the configuration which the exchange goes by
pub returns : goal.returns
returns g c = IfSome_then c.refusal_with.result c.refusal_with.ensures
    (λ text is. (c.in_ok-page.page.now, (c.config.result.now, c.config.ensures, sym c.in_ok-page.ensures), is))
