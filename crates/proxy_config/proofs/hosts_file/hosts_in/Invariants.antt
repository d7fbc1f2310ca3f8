-- The lines before the rest were read.
use Rattle.std.proofs.Common.{length}
use Rattle.proxy_config.specs.HostsFile.{lines_left, lines_of}
use Rattle.proxy_config.proofs.ReadLines.{Reading}
use Rattle.proxy_config.proofs.hosts_file.hosts_in.Given as goal

abbrev pub invariant-loop-rest : goal.invariant-loop-rest
invariant-loop-rest l = Reading (lines_of l.fn.text) (lines_left l.rest) l.hosts.items l.number

abbrev pub decreases-loop-rest : goal.decreases-loop-rest
decreases-loop-rest l = length (lines_left l.rest)
