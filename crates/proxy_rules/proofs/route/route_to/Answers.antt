-- An address goes to the parent.
use Rattle.std.proofs.Common.{◌≡◌, true, rules, sym, subst}
use Rattle.std.specs.declared.net.socket_addr.SocketAddrV4.{SocketAddrV4}
use Rattle.http_side.specs.declared.forward.NextServer.{NextServer}
use Rattle.proxy_rules.specs.Routes.{IsOwn, IsDeniedAt, GoesNext, GoesToParent}
use Rattle.proxy_rules.proofs.RouteLemmas.{literal_through}
use Rattle.proxy_rules.proofs.route.route_to.Goals as goal

pub returns-then-is_literal-clause-route : goal.returns-then-is_literal-clause-route
returns-then-is_literal-clause-route c =
    let config = c.args.config.now in
    let host = c.args.origin.host.now in
    let port = c.args.origin.port in
    let other : IsOwn config c.args.address → ⊥ = search rules in
    let spared : IsDeniedAt config c.args.address → ⊥ = search rules in
    let literal : c.is_literal.result ≡ true = search rules in
    let text = c.is_literal.ensures.address literal in
    let goes = literal_through config host port c.args.address c.in-Some.parent c.requires other spared c.in-Some.is text.0 text.1 in
    subst (λ (next : NextServer). GoesNext next config host port c.through.result.address) (sym c.through.ensures.0)
    (subst (λ (address : SocketAddrV4). GoesToParent config host port address) (sym c.through.ensures.1) goes)
