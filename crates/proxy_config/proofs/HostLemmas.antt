-- A host and a port are at one address at most.
use Rattle.std.proofs.Common.{◌≡◌, ℕ, List, Option, inl, inr, sym, ap, ◌∙◌}
use Rattle.std.proofs.lemmas.Option.{same_Some}
use Rattle.std.proofs.NetLemmas.Theorems.{IsIpv4Text_unique}
use Rattle.std.specs.declared.net.socket_addr.SocketAddrV4.{SocketAddrV4}
use Rattle.std.specs.Net.Socket.{v4_ip, v4_port}
use Rattle.proxy_config.specs.declared.host_table.Hosts.{Hosts}
use Rattle.proxy_config.specs.Hosts.{port_or, IsAt, IsLiteral, IsNamed}

-- addresses of one IP address and one port are one
pub same_address : (a b : SocketAddrV4) → v4_ip a ≡ v4_ip b → v4_port a ≡ v4_port b → a ≡ b
same_address a b ip port = λ i. record { ip = ip i; port = port i }

-- a host that is an IPv4 address is at one address at most, with its port
both_literal : (host : List ℕ) (port : Option ℕ) (a b : SocketAddrV4) → IsLiteral host port a → IsLiteral host port b → a ≡ b
both_literal host port a b h k =
    same_address a b (IsIpv4Text_unique host (v4_ip a) (v4_ip b) h.ip k.ip) (h.of_port ∙ sym k.of_port)

-- a host that is a name is at one address at most, with its port
both_named : (hosts : Hosts) (host : List ℕ) (port : Option ℕ) (a b : SocketAddrV4) → IsNamed hosts host port a → IsNamed hosts host port b
    → a ≡ b
both_named hosts host port a b h k =
    let same : h.entry ≡ k.entry = same_Some h.entry k.entry (sym h.found ∙ k.found) in
    same_address a b
    (h.ip ∙ ap v4_ip same ∙ sym k.ip)
    (h.of_port ∙ ap (λ e. port_or (v4_port e) port) same ∙ sym k.of_port)

-- a host and a port are at one address at most
pub IsAt_unique : (hosts : Hosts) (host : List ℕ) (port : Option ℕ) (a b : SocketAddrV4) → IsAt hosts host port a → IsAt hosts host port b
    → a ≡ b
IsAt_unique hosts host port a b (inl h) (inl k) = both_literal host port a b h k
IsAt_unique hosts host port a b (inl h) (inr k) = absurd (k.no_literal (v4_ip a) h.ip)
IsAt_unique hosts host port a b (inr h) (inl k) = absurd (h.no_literal (v4_ip b) k.ip)
IsAt_unique hosts host port a b (inr h) (inr k) = both_named hosts host port a b h k
