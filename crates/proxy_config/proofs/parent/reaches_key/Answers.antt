-- The key has one address, or none.
use Rattle.std.proofs.lemmas.Bool.{false≢true}
use Rattle.toml.specs.View.{table_view}
use Rattle.proxy_config.proofs.ParentLemmas.{at_its_address}
use Rattle.proxy_config.proofs.parent.reaches_key.Goals as goal

pub returns-in-Some : goal.returns-in-Some
returns-in-Some c = (
  λ is. (c.in-Some.listener, c.in-Some.ensures.found, c.reaches.ensures.0 is),
  λ is. c.reaches.ensures.1 (at_its_address c.args.key.now (table_view c.args.table.now) c.args.to c.in-Some.listener
      c.in-Some.ensures.found is),
)

pub returns-in-None : goal.returns-in-None
returns-in-None c = (λ never. absurd (false≢true never), λ is. absurd (c.in-None.ensures.none is.0 is.1))
