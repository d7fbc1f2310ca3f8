-- Where a connection broke, the request begins anew on the one that was brought, and none was given up since.
use Rattle.std.proofs.Common.{None, inr}
use Rattle.adapt_turn.specs.ChosenHead.{wire_of}
use Rattle.proxy_rules.proofs.CallLemmas.{fresh_line}
use Rattle.proxy_rules.proofs.running.Running.renew.Goals as goal

pub returns-then-is_broken : goal.returns-then-is_broken
returns-then-is_broken g c =
    let renewed = c.retry.new.self.tx in
    record {
      renews = λ s h. (
        wire_of renewed.ends.service,
        None,
        inr (fresh_line renewed.ends.service c.args.fresh c.in-Some.wire c.in-Some.is c.retry.ensures.fresh),
        c.retry.ensures.lasts s h,
      );
    }
