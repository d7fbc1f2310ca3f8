-- Each value is what its key says.
use Rattle.std.proofs.Common.{Some, ap, sym, ◌∙◌}
use Rattle.proxy_config.proofs.Judging.{◌&◌}
use Rattle.proxy_config.proofs.entrance.Entrance.read.Goals as goal

pub returns-clause-ok : goal.returns-clause-ok
returns-clause-ok c config has =
    let crowds = c.in_ok-user_connections.ensures.ok in
    rw (has.0, has.1, has.4, has.6)
    (c.in_ok-users.ensures.ok
    & c.in_ok-denied.ensures.ok
    & crowds.said.0 ∙ ap Some (sym has.2)
    & c.in_ok-read_truth.ensures.ok ∙ ap Some (sym has.3)
    & c.in_ok-read_carry.ensures.ok
    & c.in_ok-read_truth-2.ensures.ok ∙ ap Some (sym has.5)
    & c.in_ok-read_path.ensures.ok
    & tt)
