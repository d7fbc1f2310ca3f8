-- A name that the table lacks goes to the parent.
use Rattle.std.proofs.Common.{sym, subst}
use Rattle.std.specs.declared.net.socket_addr.SocketAddrV4.{SocketAddrV4}
use Rattle.http_side.specs.declared.forward.NextServer.{NextServer}
use Rattle.proxy_rules.specs.Routes.{GoesNext, GoesToParent}
use Rattle.proxy_rules.proofs.RouteLemmas.{missing_through}
use Rattle.proxy_rules.proofs.route.found_route.Goals as goal

pub returns-in-None-Some-clause-route : goal.returns-in-None-Some-clause-route
returns-in-None-Some-clause-route c =
    let config = c.args.config.now in
    let host = c.args.origin.host.now in
    let port = c.args.origin.port in
    let goes = missing_through config host port c.in-None-Some.parent c.in-None-Some.is-1 c.in-None-Some.ensures.none in
    subst (λ (next : NextServer). GoesNext next config host port c.through.result.address) (sym c.through.ensures.0)
    (subst (λ (address : SocketAddrV4). GoesToParent config host port address) (sym c.through.ensures.1) goes)
