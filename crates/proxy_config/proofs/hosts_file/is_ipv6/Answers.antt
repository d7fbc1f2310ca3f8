-- What is no address up to its zone is none.
use Rattle.std.proofs.Common.{subst, sym}
use Rattle.std.specs.Net.Grammar.{IsIpv6Text}
use Rattle.proxy_config.proofs.hosts_file.is_ipv6.Goals as goal

pub returns-in-Err : goal.returns-in-Err
returns-in-Err c = λ said. c.in-Err.ensures said.0 (subst (λ text. IsIpv6Text text said.0) (sym c.before-2.ensures) said.1)
