-- Each value is what its key says.
use Rattle.proxy_config.proofs.Judging.{◌&◌}
use Rattle.proxy_config.proofs.places.Places.read.Goals as goal

pub returns-clause-ok : goal.returns-clause-ok
returns-clause-ok c config has =
    rw (has.0, has.1, has.2, has.3)
    (c.in_ok-read_hosts.ensures.ok
    & c.in_ok-read_point.ensures.ok
    & c.in_ok-read_point-2.ensures.ok
    & c.in_ok-read_parent.ensures.ok
    & tt)
