-- An address shares no port with that of a key just where it shares none with the one that the key has.
use Rattle.std.proofs.Common.{ℕ, List, Option, Some, None, IfNone, IsSome, rules, codes, subst, sym, ◌∙◌}
use Rattle.std.specs.declared.net.socket_addr.SocketAddrV4.{SocketAddrV4}
use Rattle.toml.specs.Data.{Members, get_member}
use Rattle.proxy_config.specs.Ports.{SharesPort, IsAdmin, IsApart, IsMetrics}
use Rattle.proxy_config.specs.Values.{HasAddress}
use Rattle.proxy_config.proofs.Addresses.{one_address, some_is_none}

-- an address that shares no port with that of a key is apart from the key
pub shares_none : (key : List ℕ) (document : Members) (has address : SocketAddrV4) → HasAddress key document has
    → (SharesPort has address → ⊥) → IsApart key document address
shares_none key document has address at none other other_at shares =
    let P : SocketAddrV4 → Type 0 = λ a. SharesPort a address in
    none (subst P (one_address key document other has other_at at) shares)

-- where the addresses of two keys share a port, no address of the second key is apart from the first key
pub not_apart : (key own : List ℕ) (document : Members) (has address : SocketAddrV4) → HasAddress key document has
    → HasAddress own document address
    → SharesPort has address → (found : SocketAddrV4) → HasAddress own document found → IsApart key document found → ⊥
not_apart key own document has address at own_at shares found found_at is_apart =
    let P : SocketAddrV4 → Type 0 = λ a. SharesPort has a in
    is_apart has at (subst P (one_address own document address found own_at found_at) shares)

-- what holds anyway holds where nothing was found
pub then_none : {A : Type 0} {Q : Type 0} (found : Option A) → Q → IfNone found Q
then_none None q = q
then_none (Some x) q = tt

-- no such address is found for the administrator, or the counters, where it shares a port
pub no_admin : (document : Members) (listen admin : SocketAddrV4) → HasAddress (codes "listen") document listen
    → HasAddress (codes "admin") document admin → SharesPort listen admin → (found : SocketAddrV4) → IsAdmin document found → ⊥
no_admin document listen admin at own shares found is =
    not_apart (codes "listen") (codes "admin") document listen admin at own shares found is.0 is.1

-- nothing is said of the counters where their address shares a port with that of the users
pub no_metrics : (document : Members) (listen metrics : SocketAddrV4) → HasAddress (codes "listen") document listen
    → HasAddress (codes "metrics") document metrics → SharesPort listen metrics → (found : Option SocketAddrV4) → IsMetrics document found
    → ⊥
no_metrics document listen metrics at own shares None is = some_is_none own.0 (sym own.1 ∙ is)
no_metrics document listen metrics at own shares (Some found) is =
    not_apart (codes "listen") (codes "metrics") document listen metrics at own shares found is.0 is.1

-- nothing is said of the counters where their address shares a port with the administrator's
pub no_metrics_beside : (document : Members) (admin metrics : SocketAddrV4) → HasAddress (codes "admin") document admin
    → HasAddress (codes "metrics") document metrics → SharesPort admin metrics → (found : Option SocketAddrV4) → IsMetrics document found
    → ⊥
no_metrics_beside document admin metrics at own shares None is = some_is_none own.0 (sym own.1 ∙ is)
no_metrics_beside document admin metrics at own shares (Some found) is =
    not_apart (codes "admin") (codes "metrics") document admin metrics at own shares found is.0 is.2

-- nor where the key is there and no address
pub no_metrics_at : (document : Members) → IsSome (get_member (codes "metrics") document)
    → ((address : SocketAddrV4) → HasAddress (codes "metrics") document address → ⊥) → (found : Option SocketAddrV4)
    → IsMetrics document found → ⊥
no_metrics_at document there none None is = search (rules, there, is)
no_metrics_at document there none (Some found) is = none found is.0
