-- The configuration that was looked at is the desk's, and its users may come from there.
use Rattle.std.proofs.Common.{option_map, rules}
use Rattle.proxy_config.specs.Networks.{MayUse}
use Rattle.shard_desk.proofs.headers.announce.Goals as goal

pub returns-clause-may : goal.returns-clause-may
returns-clause-may g c = λ purpose same.
    let may : MayUse (option_map (λ vec. vec.items) c.config.result.now.users) c.args.from = search rules in
    (c.config.result.now, c.config.ensures, may)
