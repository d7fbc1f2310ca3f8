-- No Expect field so far names 100-continue.
use Rattle.std.proofs.Common.{◌≡◌, take, false}
use Rattle.proxy_rules.specs.Users.{expects_continue}
use Rattle.proxy_rules.proofs.expect.expects_continue.Given as goal

abbrev pub invariant-loop-at : goal.invariant-loop-at
invariant-loop-at l = expects_continue (take l.at l.fields) ≡ false
