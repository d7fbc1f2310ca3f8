-- The users' address is the one that the document says.
use Rattle.std.proofs.Common.{codes, sym, ◌∙◌}
use Rattle.std.proofs.lemmas.Bool.{false≢true}
use Rattle.toml.specs.View.{table_view}
use Rattle.proxy_config.proofs.PortLemmas.{shares_none, no_admin, then_none}
use Rattle.proxy_config.proofs.ports.admin.Goals as goal

pub returns-in_err-admin-clause-none : goal.returns-in_err-admin-clause-none
returns-in_err-admin-clause-none c = then_none c.from_residual.result (λ found is. c.in_err-admin.ensures.none found is.0)

pub returns-then-shares_port-clause-none : goal.returns-then-shares_port-clause-none
returns-then-shares_port-clause-none c =
    no_admin (table_view c.args.table.now) c.args.listen c.in_ok-admin.admin c.requires c.in_ok-admin.ensures.found
    (c.shares_port.ensures.0 c.if-shares_port.true)

pub returns-else-shares_port-clause-found : goal.returns-else-shares_port-clause-found
returns-else-shares_port-clause-found c = (
  c.in_ok-admin.ensures.found,
  shares_none (codes "listen") (table_view c.args.table.now) c.args.listen c.in_ok-admin.admin c.requires
      (λ shares. false≢true (sym c.if-shares_port.false ∙ c.shares_port.ensures.1 shares)),
)
