-- A field that has the name gives the name a value.
use Rattle.std.proofs.Common.{sym, ◌∙◌, arith}
use Rattle.http_side.proofs.FieldLemmas.{has_value}
use Rattle.http_side.proofs.fields.Fields.has.Goals as goal

pub returns-then-is_named : goal.returns-then-is_named
returns-then-is_named c = has_value c.args.name.now c.args.self.now c.loop-at.at (omega arith) (sym c.is_named.ensures ∙ c.if-is_named.true)
