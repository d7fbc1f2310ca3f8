-- A host and a port of a target lead one way, or nowhere, for one reason.
use Rattle.std.proofs.Common.{◌≡◌, ℕ, List, Option, Some, None, refl, sym, ap, subst, ◌∙◌, inl, inr, ◌⊎◌}
use Rattle.std.proofs.lemmas.Option.{same_Some}
use Rattle.std.specs.Prelude.{◌↔◌, Result, Ok, Err, IfOk, IfErr}
use Rattle.std.specs.Net.Grammar.{IsIpv4Text}
use Rattle.std.specs.declared.net.ipv4_addr.Ipv4Addr.{Ipv4Addr}
use Rattle.std.specs.declared.net.socket_addr.SocketAddrV4.{SocketAddrV4}
use Rattle.http_side.specs.declared.forward.NextServer.{NextServer}
use Rattle.http_side.specs.declared.forward.NextServer.TheVariants.{Origin, Parent}
use Rattle.proxy_config.proofs.HostLemmas.{IsAt_unique}
use Rattle.proxy_config.specs.Hosts.{IsAt, IsLiteral, IsNamed}
use Rattle.proxy_config.specs.declared.config.Config.{Config}
use Rattle.proxy_rules.specs.Routes.{IsOwn, IsDeniedAt, IsAllowed, GoesStraight, GoesToParent, GoesNext, GoesBy, IsUnknown, IsDenied}
use Rattle.proxy_rules.specs.Routes.{GoesNowhereBy}
use Rattle.proxy_rules.specs.declared.route.Route.{Route}
use Rattle.proxy_rules.specs.declared.route.Unrouted.{Unrouted}
use Rattle.proxy_rules.specs.declared.route.Unrouted.TheVariants.{Unknown, Denied}

module _ (config : Config) (host : List ℕ) (port : Option ℕ) where
  -- where a request goes straight, its origin is
  at_of : (address : SocketAddrV4) → IsNamed config.hosts host port address ⊎ (IsLiteral host port address × (config.parent ≡ None))
      → IsAt config.hosts host port address
  at_of address (inl named) = inr named
  at_of address (inr literal) = inl literal.0

  -- the host's one address
  same : (a b : SocketAddrV4) → IsAt config.hosts host port a → IsAt config.hosts host port b → a ≡ b
  same a b = IsAt_unique config.hosts host port a b

  -- a host and a port don't go both straight to an origin and to the parent
  apart : (address parent : SocketAddrV4) → GoesStraight config host port address → GoesToParent config host port parent → ⊥
  apart address parent straight through = elim straight.at [
    | inl named ↦ through.missing address named
    | inr literal ↦ (let both : None ≡ Some parent = sym literal.1 ∙ through.parent_is in cc)
  ]

  -- two ways of a host and a port go to the same kind of server, and to the same address
  one_next : (n m : NextServer) (a b : SocketAddrV4) → GoesNext n config host port a → GoesNext m config host port b → (n ≡ m) × (a ≡ b)
  one_next Origin Origin a b x y = (refl, same a b (at_of a x.at) (at_of b y.at))
  one_next Parent Parent a b x y = (refl, same_Some a b (sym x.parent_is ∙ y.parent_is))
  one_next Origin Parent a b x y = absurd (apart a b x y)
  one_next Parent Origin a b x y = absurd (apart b a y x)

  -- an address goes to the parent
  pub literal_through : (a parent : SocketAddrV4) → IsAt config.hosts host port a → (IsOwn config a → ⊥) → (IsDeniedAt config a → ⊥)
      → config.parent ≡ Some parent → (ip : Ipv4Addr) → IsIpv4Text host ip → GoesToParent config host port parent
  literal_through a parent at other spared e ip text = record {
    parent_is = e;
    missing = λ b named. named.no_literal ip text;
    allowed = λ b literal. subst (λ (z : SocketAddrV4). IsAllowed config z) (same a b at (inl literal))
        (record { other = other; spared = spared });
  }

  -- and so does a name that the table lacks
  pub missing_through : (parent : SocketAddrV4) → config.parent ≡ Some parent → ((a : SocketAddrV4) → IsAt config.hosts host port a → ⊥)
      → GoesToParent config host port parent
  missing_through parent e none = record {
    parent_is = e;
    missing = λ a named. none a (inr named);
    allowed = λ a literal. absurd (none a (inl literal));
  }

  -- a host and a port have one route at most
  pub one_route : (r s : Route) → GoesBy config host port r → GoesBy config host port s → r ≡ s
  one_route r s x y = let e = one_next r.next s.next r.address s.address x y in λ i. record { next = e.0 i; address = e.1 i }

  -- a route and a reason for none exclude each other
  nowhere_by : (n : NextServer) (a : SocketAddrV4) (why : Unrouted) → GoesNext n config host port a → GoesNowhereBy config host port why → ⊥
  nowhere_by Origin a Unknown x (inl none) = none.1 a (at_of a x.at)
  nowhere_by Origin a Unknown x (inr own) = x.allowed.other (subst (λ (z : SocketAddrV4). IsOwn config z)
      (same own.0 a own.1 (at_of a x.at)) own.2)
  nowhere_by Origin a Denied x d = x.allowed.spared (subst (λ (z : SocketAddrV4). IsDeniedAt config z)
      (same d.address a d.at (at_of a x.at)) d.denied)
  nowhere_by Parent a Unknown x (inl none) = let both : None ≡ Some a = sym none.0 ∙ x.parent_is in cc
  nowhere_by Parent a Unknown x (inr own) = elim own.1 [
    | inl literal ↦ (x.allowed own.0 literal).other own.2
    | inr named ↦ x.missing own.0 named
  ]
  nowhere_by Parent a Denied x d = elim d.at [
    | inl literal ↦ (x.allowed d.address literal).spared d.denied
    | inr named ↦ x.missing d.address named
  ]

  -- a host and a port that have a route have no reason for none
  pub not_both : (r : Route) (why : Unrouted) → GoesBy config host port r → GoesNowhereBy config host port why → ⊥
  not_both r why = nowhere_by r.next r.address why

  -- a host isn't both unknown and denied
  known : IsUnknown config host port → IsDenied config host port → ⊥
  known (inl none) d = none.1 d.address d.at
  known (inr own) d = d.other (subst (λ (z : SocketAddrV4). IsOwn config z) (same own.0 d.address own.1 d.at) own.2)

  -- a host and a port have one reason at most for no route
  pub one_reason : (v w : Unrouted) → GoesNowhereBy config host port v → GoesNowhereBy config host port w → v ≡ w
  one_reason Unknown Unknown x y = refl
  one_reason Denied Denied x y = refl
  one_reason Unknown Denied x y = absurd (known x y)
  one_reason Denied Unknown x y = absurd (known y x)

  -- so an answer that is a route, or a reason, is so exactly where that holds
  pub route_is : (r : Result Route Unrouted) → IfOk r (GoesBy config host port) → IfErr r (GoesNowhereBy config host port)
      → (route : Route) → (r ≡ Ok route) ↔ GoesBy config host port route
  route_is (Ok x) ok err route = (
    λ e. subst (λ (z : Result Route Unrouted). IfOk z (GoesBy config host port)) e ok,
    λ goes. ap Ok (one_route x route ok goes),
  )
  route_is (Err why) ok err route = (λ e. absurd (let both : Err why ≡ Ok route = e in cc), λ goes. absurd (not_both route why goes err))

  -- an answer that fits is a given reason exactly where the host and the port go nowhere for that reason
  pub reason_is : (r : Result Route Unrouted) → IfOk r (GoesBy config host port) → IfErr r (GoesNowhereBy config host port)
      → (why : Unrouted) → (r ≡ Err why) ↔ GoesNowhereBy config host port why
  reason_is (Ok x) ok err why = (λ e. absurd (let both : Ok x ≡ Err why = e in cc), λ nowhere. absurd (not_both x why ok nowhere))
  reason_is (Err found) ok err why = (
    λ e. subst (λ (z : Result Route Unrouted). IfErr z (GoesNowhereBy config host port)) e err,
    λ nowhere. ap Err (one_reason found why err nowhere),
  )
