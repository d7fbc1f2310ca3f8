-- Each value says a name that may follow those before it, or one of them says none.
use Rattle.std.proofs.Common.{◌≡◌, ◌∷◌, ◌++◌, [], Some, None, map, string_bytes, rules}
use Rattle.toml.specs.View.{view}
use Rattle.proxy_config.specs.Carry.{name_in}
use Rattle.proxy_config.proofs.CarryLemmas.{no_name, one_more}
use Rattle.proxy_config.proofs.carry.names_in.Goals as goal

pub returns-in_default : goal.returns-in_default
returns-in_default c =
    let none : name_in (map string_bytes c.loop-value.names.items) (view c.value-item.result) ≡ None = search rules in
    no_name c.args.values.now c.loop-value.names.items c.loop-value.value-index c.value-item.result c.loop-value-test.true c.value-item.is
    c.loop-value.invariant none

pub loop-value-preserved : goal.loop-value-preserved
loop-value-preserved c =
    let found : name_in (map string_bytes c.loop-value.names.items) (view c.value-item.result) ≡ Some (string_bytes c.in_ok-name.name) =
    search rules in
    let added : c.push.new.self.items ≡ c.loop-value.names.items ++ c.in_ok-name.name ∷ [] = search rules in
    one_more c.args.values.now c.loop-value.names.items c.push.new.self.items c.loop-value.value-index c.value-item.result c.in_ok-name.name
    c.loop-value-test.true c.value-item.is c.loop-value.invariant found added
