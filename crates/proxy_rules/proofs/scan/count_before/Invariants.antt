-- The bytes counted so far, and those before the first of the three in the rest, make the number.
use Rattle.std.proofs.Common.{◌≡◌, ◌+◌, length}
use Rattle.http_side.specs.Targets.{count_before}
use Rattle.proxy_rules.specs.Origins.{is_any}
use Rattle.proxy_rules.proofs.scan.count_before.Given as goal

abbrev pub invariant-loop-rest : goal.invariant-loop-rest
invariant-loop-rest l = record {
  left : count_before (is_any l.first l.second l.third) l.fn.text ≡ l.count + count_before (is_any l.first l.second l.third) l.rest;
  room : l.count + length l.rest ≡ length l.fn.text;
}

abbrev pub decreases-loop-rest : goal.decreases-loop-rest
decreases-loop-rest l = length l.rest
