-- From a host with a higher number on none has the name.
use Rattle.std.proofs.Common.{◌<◌, sym, ◌∙◌, subst}
use Rattle.proxy_config.proofs.HostSearch.{none_at}
use Rattle.proxy_config.proofs.hosts.among.Goals as goal

pub returns-then-host-number : goal.returns-then-host-number
returns-then-host-number c = sym (c.loop-host.invariant ∙ none_at
    c.args.name.now
    c.args.hosts.now
    c.loop-host.host-index
    c.host-item.result
    c.loop-host-test.true
    c.host-item.is
    c.requires.rising
    (subst (λ number. number < c.host-item.result.number) c.requires.number c.if-host-number.true))
