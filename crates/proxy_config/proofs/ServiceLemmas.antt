-- A text that is no address is no host of a service.
use Rattle.std.proofs.Common.{◌≡◌, ℕ, List, Some, codes, sym, ◌∙◌, subst, rules}
use Rattle.std.specs.declared.net.ipv4_addr.Ipv4Addr.{Ipv4Addr}
use Rattle.std.specs.Net.Grammar.{IsIpv4Text}
use Rattle.toml.specs.Data.{Members}
use Rattle.proxy_config.specs.Services.{text_at, HasHost}

-- two options that are equal and not none have one value
same_some : {A : Type 0} (x y : A) → Some x ≡ Some y → x ≡ y
same_some x y e = search (rules, e)

-- a table whose host is no IPv4 address has no host
pub no_host : (table : Members) (text : List ℕ) → text_at (codes "host") table ≡ Some text → ((ip : Ipv4Addr) → IsIpv4Text text ip → ⊥)
    → HasHost table → ⊥
no_host table text at none has =
    let P : List ℕ → Type 0 = λ t. IsIpv4Text t has.1 in
    none has.1 (subst P (same_some has.0 text (sym has.2 ∙ at)) has.3)
