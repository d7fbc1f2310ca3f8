-- The pace begins now, has the configured deadline and a second more, and knows whether the service's connection was used before.
use Rattle.std.proofs.Common.{refl, sym, subst, arith}
use Rattle.plan_rules.specs.declared.pace.Pace.{Pace}
use Rattle.shard_message.specs.Begun.{IsPaceOf}
use Rattle.shard_message.proofs.start.pace_of.Goals as goal

pub returns : goal.returns
returns g c = subst (λ (pace : Pace). IsPaceOf (g.O.Clocked.now_is c.args.out.now c.args.at.now)
    (g.O.ThreadSettings.config_is c.args.out.now) c.args.state pace) (sym c.new.ensures) (record {
      config = c.config.result.now;
      config_is_so = c.config.ensures;
      moment = c.now.ensures;
      deadline = λ small. let e = c.saturating_add-deadline.ensures in omega (arith, e, small);
      line = (c.is_reused.ensures, refl);
    })
