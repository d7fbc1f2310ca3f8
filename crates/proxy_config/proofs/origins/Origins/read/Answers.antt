-- Each value is what its key says.
use Rattle.std.proofs.Common.{Some, ap, sym, ◌∙◌}
use Rattle.proxy_config.proofs.Judging.{◌&◌}
use Rattle.proxy_config.proofs.origins.Origins.read.Goals as goal

pub returns-clause-ok : goal.returns-clause-ok
returns-clause-ok c config has =
    let kept = c.in_ok-keep_origins.ensures.ok in
    kept.said.0 ∙ ap Some (sym has.0)
    & kept.said.1.0 ∙ ap Some (sym has.1)
    & c.in_ok-read_dial.ensures.ok ∙ ap Some (sym has.2)
    & c.in_ok-read_turn.ensures.ok ∙ ap Some (sym has.3)
    & tt
