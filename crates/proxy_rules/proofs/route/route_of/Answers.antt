-- The target's host and port lead one way, or nowhere.
use Rattle.std.proofs.Common.{List, ℕ, Option, subst}
use Rattle.std.specs.Prelude.{IfOk, IfErr}
use Rattle.http_side.specs.Targets.{authority_of}
use Rattle.proxy_rules.specs.Origins.{host_of, port_of}
use Rattle.proxy_rules.specs.Routes.{GoesBy, GoesNowhereBy}
use Rattle.proxy_rules.specs.declared.route.Unrouted.TheVariants.{Unknown, Denied}
use Rattle.proxy_rules.proofs.RouteLemmas.{route_is, reason_is}
use Rattle.proxy_rules.proofs.route.route_of.Goals as goal

pub returns-clause-route : goal.returns-clause-route
returns-clause-route c =
    let authority = authority_of c.args.user.now.target in
    let config = c.args.config.now in
    let found = c.found_route.result in
    let host = c.origin_of.ensures.host in
    let port = c.origin_of.ensures.port in
    route_is config (host_of authority) (port_of authority) found
    (subst (λ (p : Option ℕ). IfOk found (GoesBy config (host_of authority) p)) port
    (subst (λ (h : List ℕ). IfOk found (GoesBy config h c.origin_of.result.port)) host c.found_route.ensures.route))
    (subst (λ (p : Option ℕ). IfErr found (GoesNowhereBy config (host_of authority) p)) port
    (subst (λ (h : List ℕ). IfErr found (GoesNowhereBy config h c.origin_of.result.port)) host c.found_route.ensures.none))

pub returns-clause-unknown : goal.returns-clause-unknown
returns-clause-unknown c =
    let authority = authority_of c.args.user.now.target in
    let config = c.args.config.now in
    let found = c.found_route.result in
    let host = c.origin_of.ensures.host in
    let port = c.origin_of.ensures.port in
    reason_is config (host_of authority) (port_of authority) found
    (subst (λ (p : Option ℕ). IfOk found (GoesBy config (host_of authority) p)) port
    (subst (λ (h : List ℕ). IfOk found (GoesBy config h c.origin_of.result.port)) host c.found_route.ensures.route))
    (subst (λ (p : Option ℕ). IfErr found (GoesNowhereBy config (host_of authority) p)) port
    (subst (λ (h : List ℕ). IfErr found (GoesNowhereBy config h c.origin_of.result.port)) host c.found_route.ensures.none))
    Unknown

pub returns-clause-denied : goal.returns-clause-denied
returns-clause-denied c =
    let authority = authority_of c.args.user.now.target in
    let config = c.args.config.now in
    let found = c.found_route.result in
    let host = c.origin_of.ensures.host in
    let port = c.origin_of.ensures.port in
    reason_is config (host_of authority) (port_of authority) found
    (subst (λ (p : Option ℕ). IfOk found (GoesBy config (host_of authority) p)) port
    (subst (λ (h : List ℕ). IfOk found (GoesBy config h c.origin_of.result.port)) host c.found_route.ensures.route))
    (subst (λ (p : Option ℕ). IfErr found (GoesNowhereBy config (host_of authority) p)) port
    (subst (λ (h : List ℕ). IfErr found (GoesNowhereBy config h c.origin_of.result.port)) host c.found_route.ensures.none))
    Denied
