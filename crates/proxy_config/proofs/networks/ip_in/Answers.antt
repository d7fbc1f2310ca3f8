-- The bytes of the text are the text.
use Rattle.std.proofs.Common.{◌≡◌, ℕ, List, rules, subst}
use Rattle.std.specs.Net.Grammar.{IsIpv4Text}
use Rattle.std.specs.declared.net.ipv4_addr.Ipv4Addr.{Ipv4Addr}
use Rattle.proxy_config.proofs.networks.ip_in.Goals as goal

pub returns-in-Err-clause-none : goal.returns-in-Err-clause-none
returns-in-Err-clause-none c = λ ip says.
    let same : c.as_bytes.result.now ≡ c.args.text.now = search rules in
    let P : List ℕ → Type 0 = λ text. (a : Ipv4Addr) → IsIpv4Text text a → ⊥ in
    subst P same c.in-Err.ensures ip says
