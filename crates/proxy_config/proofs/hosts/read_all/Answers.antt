-- Each name is read at its turn, and the first bad one is the fault.
use Rattle.std.proofs.Common.{◌≡◌, List, [], ◌∷◌, ◌++◌, sym, subst, rules}
use Rattle.std.proofs.lemmas.Map.Iter.{rest_more, rest_all}
use Rattle.std.specs.Map.Iter.{deref_pair}
use Rattle.toml.proofs.Views.{Entry}
use Rattle.toml.specs.View.{table_view}
use Rattle.proxy_config.specs.declared.host.Host.{Host}
use Rattle.proxy_config.specs.Fault.{Names}
use Rattle.proxy_config.specs.HostNames.{IsInHosts}
use Rattle.proxy_config.proofs.HostReading.{IsReading, starts, continues_at, bad_name, finishes}
use Rattle.proxy_config.proofs.hosts.read_all.Goals as goal

pub loop-name-init : goal.loop-name-init
loop-name-init c =
    let names = table_view c.args.names.now in
    let gives = c.into_iter-name-iterator.ensures.into_iter_gives in
    let P : List Entry → Type 0 = λ rest. IsReading names c.new-seen.result [] rest in
    let Q : List Host → Type 0 = λ hosts. IsReading names c.new-seen.result hosts c.into_iter-name-iterator.result in
    let empty : c.new-all.result.items ≡ [] = search rules in
    subst Q (sym empty) (subst P (sym gives.0) (starts c.args.names.now.entries c.new-seen.result c.new-seen.ensures.empty gives.5 gives.6))

pub returns-in_err-host-clause-err : goal.returns-in_err-host-clause-err
returns-in_err-host-clause-err c =
    let names = table_view c.args.names.now in
    let entry : Entry = (c.in-Some.name.now, c.in-Some.value.now) in
    let rest : c.loop-name.name-iterator ≡ entry ∷ c.next.new.self
    = rest_more deref_pair c.loop-name.name-iterator c.next.new.self c.next.result (c.in-Some.name, c.in-Some.value) c.in-Some.is
    c.next.ensures.steps in
    let P : List Entry → Type 0 = λ es. IsReading names c.loop-name.seen c.loop-name.all.items es in
    let reading : IsReading names c.loop-name.seen c.loop-name.all.items (entry ∷ c.next.new.self) = subst P rest c.loop-name.invariant in
    let named : Names (IsInHosts names) c.in_err-host.field-0.0
    = bad_name names c.loop-name.seen c.loop-name.all.items entry c.next.new.self c.as_str.result.now reading c.as_str.ensures.value
    c.in_err-host.field-0.0
    c.in_err-host.ensures.err
    c.in_err-host.ensures.bad in
    search rules

pub loop-name-preserved : goal.loop-name-preserved
loop-name-preserved c =
    let names = table_view c.args.names.now in
    let entry : Entry = (c.in-Some.name.now, c.in-Some.value.now) in
    let rest : c.loop-name.name-iterator ≡ entry ∷ c.next.new.self
    = rest_more deref_pair c.loop-name.name-iterator c.next.new.self c.next.result (c.in-Some.name, c.in-Some.value) c.in-Some.is
    c.next.ensures.steps in
    let P : List Entry → Type 0 = λ es. IsReading names c.loop-name.seen c.loop-name.all.items es in
    let reading : IsReading names c.loop-name.seen c.loop-name.all.items (entry ∷ c.next.new.self) = subst P rest c.loop-name.invariant in
    let pushed : c.push.new.self.items ≡ c.loop-name.all.items ++ c.in_ok-host.host ∷ [] = search rules in
    let Q : List Host → Type 0 = λ hosts. IsReading names c.read_host.new.seen hosts c.next.new.self in
    subst Q (sym pushed) (continues_at names c.loop-name.seen c.read_host.new.seen c.loop-name.all.items c.in_ok-host.host entry
    c.next.new.self c.as_str.result.now reading c.as_str.ensures.value
    c.in_ok-host.ensures.new
    c.in_ok-host.ensures.marks
    c.in_ok-host.ensures.name
    c.in_ok-host.ensures.address)

pub returns-clause-ok : goal.returns-clause-ok
returns-clause-ok c =
    let names = table_view c.args.names.now in
    let none : c.loop-name.name-iterator ≡ [] = rest_all deref_pair c.loop-name.name-iterator c.next.new.self c.next.result c.in-None.is
    c.next.ensures.steps in
    let P : List Entry → Type 0 = λ es. IsReading names c.loop-name.seen c.loop-name.all.items es in
    finishes names c.loop-name.seen c.loop-name.all.items (subst P none c.loop-name.invariant)
