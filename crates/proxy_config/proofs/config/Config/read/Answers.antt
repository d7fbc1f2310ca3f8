-- Each value is what its key says.
use Rattle.std.proofs.Common.{refl}
use Rattle.toml.specs.View.{table_view}
use Rattle.proxy_config.proofs.Judging.{◌&◌}
use Rattle.proxy_config.proofs.Said.{is_config}
use Rattle.proxy_config.proofs.config.Config.read.Goals as goal

pub returns-clause-ok : goal.returns-clause-ok
returns-clause-ok c =
    let wait = c.in_ok-wait.ensures.ok in
    is_config (table_view c.args.table.now) _ c.in_ok-users.field-0 c.in_ok-keep_origins.field-0 c.in_ok-hosts.field-0
    (c.in_ok-listen.ensures.ok & c.in_ok-admin.ensures.ok & tt)
    c.in_ok-shards.ensures.ok.said
    (c.in_ok-retry.ensures.ok & wait.said.0 & c.in_ok-log.ensures.ok & c.in_ok-log_query.ensures.ok & c.in_ok-metrics.ensures.ok & tt)
    c.in_ok-users.ensures.ok
    c.in_ok-keep_origins.ensures.ok
    c.in_ok-service_idle.ensures.ok.said
    (c.in_ok-refusal_pages.ensures.ok & tt)
    c.in_ok-hosts.ensures.ok
    c.in_ok-check_keys.ensures.ok
    c.new.ensures
    (refl, refl, refl, refl, refl, refl, refl)
    (refl, refl, refl, refl)
    (refl, refl, refl, refl)

pub invariant_of-result-clause-sizes_fit : goal.invariant_of-result-clause-sizes_fit
invariant_of-result-clause-sizes_fit c = c.in_ok-shards.ensures.ok.within

pub invariant_of-result-clause-times_fit : goal.invariant_of-result-clause-times_fit
invariant_of-result-clause-times_fit c = c.in_ok-service_idle.ensures.ok.within
