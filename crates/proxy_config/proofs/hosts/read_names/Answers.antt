-- A document without hosts has no names.
use Rattle.std.proofs.Common.{◌≡◌, List, [], None, codes, sym, subst, rules}
use Rattle.toml.specs.Data.{no_members, get_member}
use Rattle.toml.specs.View.{table_view}
use Rattle.proxy_config.specs.declared.host.Host.{Host}
use Rattle.proxy_config.specs.HostNames.{HasEach}
use Rattle.proxy_config.proofs.NoHosts.{without_names, has_none}
use Rattle.proxy_config.proofs.hosts.read_names.Goals as goal

pub returns-in-None-clause-ok : goal.returns-in-None-clause-ok
returns-in-None-clause-ok c =
    let none : get_member (codes "hosts") (table_view c.args.table.now) ≡ None = search rules in
    let empty : c.new.result.items ≡ [] = search rules in
    let P : List Host → Type 0 = λ hosts. HasEach no_members hosts in
    (no_members, without_names (table_view c.args.table.now) none, subst P (sym empty) has_none)
