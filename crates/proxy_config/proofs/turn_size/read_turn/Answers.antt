-- The key is good where its number fits the window, or is missing, and else it is the first at fault.
use Rattle.std.proofs.Common.{◌≡◌, Option, Some, codes, ap, sym, ◌∙◌, option_and_then, rules}
use Rattle.toml.specs.Data.{get_member}
use Rattle.toml.specs.View.{table_view}
use Rattle.proxy_config.specs.Keys.Kind.{turn_size}
use Rattle.proxy_config.specs.TurnSize.{turn_at, turn_or}
use Rattle.proxy_config.proofs.Judging.{past_found, fault_found, said, unsaid}
use Rattle.proxy_config.proofs.turn_size.read_turn.Goals as goal

-- what the key has by the window is what the document says
by_window : {A B : Type 0} {x : Option A} {a : A} (f : A → Option B) → x ≡ Some a → f a ≡ option_and_then f x
by_window f e = sym (ap (option_and_then f) e)

pub returns-clause-ok : goal.returns-clause-ok
returns-clause-ok c = search rules

pub returns-clause-past : goal.returns-clause-past
returns-clause-past c =
    let document = table_view c.args.table.now in
    let says = turn_at document in
    past_found (λ turn. says ≡ Some turn) c.turn_of.result c.needed.result (codes "turn") turn_size document c.requires.next
    (λ turn is. (turn, is))
    (said c.turn_of.result says
    (c.turn_of.ensures.said ∙ by_window (λ window. turn_or window (get_member (codes "turn") document)) c.requires.window))
    c.needed.ensures.ok

pub returns-clause-err : goal.returns-clause-err
returns-clause-err c =
    let document = table_view c.args.table.now in
    let says = turn_at document in
    fault_found (λ turn. says ≡ Some turn) c.turn_of.result c.needed.result (codes "turn") turn_size document c.requires.next
    (λ found none same. (λ good. none good.0 good.1, same))
    (unsaid c.turn_of.result says
    (c.turn_of.ensures.said ∙ by_window (λ window. turn_or window (get_member (codes "turn") document)) c.requires.window))
    c.needed.ensures.none
    c.needed.ensures.err
