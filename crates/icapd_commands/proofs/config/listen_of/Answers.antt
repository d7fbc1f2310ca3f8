-- A text that writes no IPv4 address, or one with port 0, says no address to listen at.
use Rattle.std.proofs.Common.{◌∙◌, sym}
use Rattle.toml.specs.View.{table_view}
use Rattle.icapd_commands.proofs.Forms.{no_address, no_port}
use Rattle.icapd_commands.proofs.config.listen_of.Goals as goal

pub returns-in_default-parse-clause-none : goal.returns-in_default-parse-clause-none
returns-in_default-parse-clause-none c = no_address (table_view c.args.table.now) c.in-Some.text.now (sym c.in-Some.ensures)
    c.in_default-parse.ensures.value

pub returns-then-port-eq0-clause-none : goal.returns-then-port-eq0-clause-none
returns-then-port-eq0-clause-none c = no_port (table_view c.args.table.now) c.in-Some.text.now c.in-Ok.address (sym c.in-Some.ensures)
    c.in-Ok.ensures.value (sym c.port.ensures ∙ c.if-port-eq0.true)
