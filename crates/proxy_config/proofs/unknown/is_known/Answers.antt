-- The search finds just the keys that are known.
use Rattle.std.proofs.Common.{sym, ◌∙◌}
use Rattle.proxy_config.proofs.UnknownKeys.{known_if, if_known}
use Rattle.proxy_config.proofs.unknown.is_known.Goals as goal

pub returns : goal.returns
returns c = (
  λ found. known_if c.args.known.now c.args.key.now (sym c.contains.ensures.value ∙ found),
  λ contains. c.contains.ensures.value ∙ if_known c.args.known.now c.args.key.now contains,
)
