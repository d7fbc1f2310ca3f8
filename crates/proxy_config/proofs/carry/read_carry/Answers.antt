-- The key is good where it has names, or is missing, and else it is the first at fault.
use Rattle.std.proofs.Common.{◌≡◌, List, ℕ, Some, String, Global, Vec, codes, map, string_bytes}
use Rattle.toml.specs.Data.{get_member}
use Rattle.toml.specs.View.{table_view}
use Rattle.proxy_config.specs.Carry.{carry_or}
use Rattle.proxy_config.specs.Keys.Kind.{field_names}
use Rattle.proxy_config.proofs.CarryLemmas.{said_by, unsaid_by}
use Rattle.proxy_config.proofs.Judging.{past_found, fault_without}
use Rattle.proxy_config.proofs.carry.read_carry.Goals as goal

abbrev texts_of : Vec (String Global) Global → List (List ℕ)
texts_of names = map string_bytes names.items

pub returns-clause-past : goal.returns-clause-past
returns-clause-past c =
    let document = table_view c.args.table.now in
    let says = carry_or (get_member (codes "carry") document) in
    past_found (λ (names : Vec (String Global) Global). says ≡ Some (texts_of names)) c.in_ok-found.found c.needed.result
    (codes "carry")
    field_names
    document
    c.requires
    (λ names is. (texts_of names, is))
    (said_by texts_of c.in_ok-found.found says c.in_ok-found.ensures)
    c.needed.ensures.ok

pub returns-clause-err : goal.returns-clause-err
returns-clause-err c =
    let document = table_view c.args.table.now in
    let says = carry_or (get_member (codes "carry") document) in
    fault_without c.in_ok-found.found c.needed.result (codes "carry") field_names document c.requires
    (λ found none same. (λ good. none good.0 good.1, same))
    (unsaid_by texts_of c.in_ok-found.found says c.in_ok-found.ensures)
    c.needed.ensures.none
    c.needed.ensures.err
