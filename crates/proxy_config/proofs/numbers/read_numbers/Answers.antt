-- The key at fault is the document's first, and else the numbers are what the document says.
use Rattle.std.proofs.Common.{◌≡◌, sym, ◌∙◌, subst, rules}
use Rattle.std.proofs.lemmas.List.{length-map}
use Rattle.std.proofs.lemmas.Option.{slice_get_read}
use Rattle.toml.specs.View.{table_view}
use Rattle.proxy_config.specs.Config.{IsFirstFault}
use Rattle.proxy_config.specs.Fault.{Names}
use Rattle.proxy_config.specs.Numbers.{key_rules, rule_of}
use Rattle.proxy_config.specs.declared.number_key.NumberKey.{NumberKey}
use Rattle.proxy_config.proofs.NumberRuns.{first_of_run, read_more, rule_at, said_of_all}
use Rattle.proxy_config.proofs.Refusals.{names_so}
use Rattle.proxy_config.proofs.numbers.read_numbers.Goals as goal

pub returns-in_err-numbers-clause-err : goal.returns-in_err-numbers-clause-err
returns-in_err-numbers-clause-err g c =
    let document = table_view c.args.table.now in
    let key : NumberKey = c.index-keys-i.result in
    let at = rule_at c.args.keys.now c.loop-i.i key
    (slice_get_read c.args.keys.now g.row.N c.loop-i.i key (sym c.requires.length) c.loop-i-test.true c.index-keys-i.is) in
    let first : IsFirstFault document key.name.now =
    first_of_run (key_rules c.args.keys.now) document c.loop-i.numbers c.loop-i.i g.row.N (rule_of key) c.loop-i.invariant at
    (sym c.number_or-number.ensures.number ∙ c.in_err-numbers.ensures.none) in
    let named : Names (IsFirstFault document) c.in_err-numbers.field-0.0 =
    names_so (λ name. name ≡ key.name.now) (IsFirstFault document) (λ name same. subst (IsFirstFault document) (sym same) first)
    c.in_err-numbers.field-0.0 c.in_err-numbers.ensures.err in
    search (rules, named)

pub loop-i-preserved : goal.loop-i-preserved
loop-i-preserved g c =
    let found = c.in_ok-numbers.ensures.ok in
    let key : NumberKey = c.index-keys-i.result in
    let at = rule_at c.args.keys.now c.loop-i.i key
    (slice_get_read c.args.keys.now g.row.N c.loop-i.i key (sym c.requires.length) c.loop-i-test.true c.index-keys-i.is) in
    read_more (key_rules c.args.keys.now) (table_view c.args.table.now) c.loop-i.numbers c.loop-i.i g.row.N c.in_ok-numbers.field-0
    (rule_of key) c.loop-i.invariant at c.loop-i-test.true
    (sym c.number_or-number.ensures.number ∙ found, (search (rules, found), search (rules, found)))

pub returns-clause-ok : goal.returns-clause-ok
returns-clause-ok g c =
    let all = length-map c.args.keys.now rule_of ∙ c.requires.length in
    said_of_all (key_rules c.args.keys.now) (table_view c.args.table.now) c.loop-i.numbers c.loop-i.i g.row.N all c.loop-i-test.false
    c.loop-i.invariant
