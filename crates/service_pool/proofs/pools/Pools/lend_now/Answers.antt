-- What is lent is what was found after the idle connections that were looked at and weren't fit for use.
use Rattle.service_pool.proofs.LendingLemmas.{lends_found}
use Rattle.service_pool.proofs.pools.Pools.lend_now.Goals as goal

pub returns-clause-lends : goal.returns-clause-lends
returns-clause-lends g c =
    let live = c.take_live-found.ensures in
    let lent = c.lend_found.ensures in
    lends_found g.E.Edge.since g.E.Edge.home c.args.point c.args.pass.moment c.args.self.now.idle_seconds c.args.self.now.thread _ _ _
    c.take_live-found.result c.lend_found.result
    live.takes live.tells live.young live.own lent.busy lent.free lent.lease lent.asked
