-- The hosts before the first whose number isn't lower have other names.
use Rattle.std.proofs.Common.{◌≡◌, ◌<◌, ◌≤◌, ℕ, List, length, get_or, drop, ltb, ltb-true, arith, rules, sym, ◌∙◌}
use Rattle.std.proofs.lemmas.List.{take_rest}
use Rattle.std.proofs.lemmas.List.Sorted.{IsPartitionPoint-from_clause, IsPartitionedBy-ltb}
use Rattle.proxy_config.specs.declared.host.Host.{Host as AnyHost}
use Rattle.proxy_config.specs.Hosts.{address_of_name}
use Rattle.proxy_config.specs.Names.{number_of_name}
use Rattle.proxy_config.proofs.HostSearch.{passes_lower}
use Rattle.proxy_config.proofs.host_table.HostTable.find.Goals as goal

pub returns : goal.returns
returns c =
    let table = c.args.self.now in
    let hosts : List AnyHost = table.entries.items in
    let name : List ℕ = c.args.name.now in
    let number : ℕ = c.number_of-number.result in
    let first : ℕ = c.partition_point-first.result in
    let parted = IsPartitionedBy-ltb (λ (host : AnyHost). host.number) c.deref.result.now number (search rules) in
    let point = IsPartitionPoint-from_clause (λ (host : AnyHost). ltb host.number number) _ _ c.partition_point-first.ensures.partitioned
    parted (λ a r q k. search rules) in
    let lower : (k : ℕ) (d : AnyHost) → k < first → (get_or hosts k d).number < number_of_name name
    = λ k d before. search (rules, ltb-true _ _ (point.0 k d (omega arith) before)) in
    let few : first ≤ length hosts = search rules in
    let among : c.among.result ≡ address_of_name name (drop first hosts) = search (rules, take_rest) in
    among ∙ sym (passes_lower name hosts first lower few)
