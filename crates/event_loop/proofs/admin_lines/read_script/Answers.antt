-- What follows the word is all that can spell an id.
use Rattle.std.proofs.Common.{◌≡◌, ℕ, List, Option, Some, None, IfNone, drop, ap, sym, subst, ◌∙◌}
use Rattle.exchange_report.specs.Live.{SpellsId}
use Rattle.exchange_report.specs.declared.exchange_id.ExchangeId.{ExchangeId}
use Rattle.event_loop.specs.Requests.{AsksForScript}
use Rattle.event_loop.proofs.admin_lines.read_script.Goals as goal

-- where the rest of a line spells no id, the line asks for no script
no_script : (read : Option ExchangeId) (line rest : List ℕ) → rest ≡ drop 6 line
    → IfNone read ((id : ExchangeId) → SpellsId rest id → ⊥) → IfNone read ((id : ExchangeId) → AsksForScript line id → ⊥)
no_script (Some id) line rest is none = none
no_script None line rest is none =
    λ id asks. none id (subst (λ text. SpellsId text id) (sym (is ∙ ap (drop 6) asks.1)) asks.2)

pub returns-clause-none : goal.returns-clause-none
returns-clause-none c =
    no_script c.read_id.result c.args.line.now c.in-Some.text.now c.in-Some.ensures.cases.1 c.read_id.ensures.none
