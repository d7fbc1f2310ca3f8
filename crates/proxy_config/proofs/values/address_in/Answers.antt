-- A text says one address, whose port is 0 here.
use Rattle.std.proofs.Common.{ap, sym, ◌∙◌}
use Rattle.std.proofs.NetLemmas.Theorems.{IsSocketV4Text_unique}
use Rattle.std.specs.Net.Socket.{v4_port}
use Rattle.proxy_config.proofs.values.address_in.Goals as goal

pub returns-else-port-ne0-clause-none : goal.returns-else-port-ne0-clause-none
returns-else-port-ne0-clause-none c = λ address says some.
    some (ap v4_port (IsSocketV4Text_unique c.args.text.now address c.in-Ok.address says c.in-Ok.ensures)
    ∙ sym c.port.ensures ∙ c.if-port-ne0.false)
