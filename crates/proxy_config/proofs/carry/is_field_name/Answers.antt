-- A token is a name, and no other text is.
use Rattle.proxy_config.proofs.CarryLemmas.{token_name}
use Rattle.proxy_config.proofs.carry.is_field_name.Goals as goal

pub returns : goal.returns
returns c = token_name c.is_token.result c.args.name.now c.is_token.ensures.0 c.is_token.ensures.1
