-- The other addresses are those that the document says.
use Rattle.std.proofs.Common.{IsSome, codes, rules, sym, ◌∙◌}
use Rattle.std.proofs.lemmas.Bool.{false≢true}
use Rattle.toml.specs.Data.{get_member}
use Rattle.toml.specs.View.{table_view}
use Rattle.proxy_config.specs.Ports.{SharesPort}
use Rattle.proxy_config.proofs.PortLemmas.{shares_none, no_metrics, no_metrics_beside, no_metrics_at, then_none}
use Rattle.proxy_config.proofs.ports.metrics.Goals as goal

pub returns-in_err-metrics-clause-none : goal.returns-in_err-metrics-clause-none
returns-in_err-metrics-clause-none c =
    let document = table_view c.args.table.now in
    let there : IsSome (get_member (codes "metrics") document) = search rules in
    then_none c.from_residual.result (no_metrics_at document there c.in_err-metrics.ensures.none)

pub returns-then-shares_port-clause-none : goal.returns-then-shares_port-clause-none
returns-then-shares_port-clause-none c =
    no_metrics (table_view c.args.table.now) c.args.listen c.in_ok-metrics.metrics c.requires.listen c.in_ok-metrics.ensures.found
    (c.shares_port.ensures.0 c.if-shares_port.true)

pub returns-then-shares_port-2-clause-none : goal.returns-then-shares_port-2-clause-none
returns-then-shares_port-2-clause-none c =
    no_metrics_beside (table_view c.args.table.now) c.args.admin c.in_ok-metrics.metrics c.requires.admin c.in_ok-metrics.ensures.found
    (c.shares_port-2.ensures.0 c.if-shares_port-2.true)

pub returns-clause-found : goal.returns-clause-found
returns-clause-found c =
    let document = table_view c.args.table.now in
    let metrics = c.in_ok-metrics.metrics in
    let listens : SharesPort c.args.listen metrics → ⊥ =
    λ shares. false≢true (sym c.if-shares_port.false ∙ c.shares_port.ensures.1 shares) in
    let asks : SharesPort c.args.admin metrics → ⊥ =
    λ shares. false≢true (sym c.if-shares_port-2.false ∙ c.shares_port-2.ensures.1 shares) in (
      c.in_ok-metrics.ensures.found,
      shares_none (codes "listen") document c.args.listen metrics c.requires.listen listens,
      shares_none (codes "admin") document c.args.admin metrics c.requires.admin asks,
    )
