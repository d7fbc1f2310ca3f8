-- There may be more to do.
use Rattle.std.proofs.Common.{◌≡◌, sym, ap, inl, inr}
use Rattle.event_loop.specs.declared.work.Driven.TheVariants.{CutShort, Over}
use Rattle.shard_exchange.specs.declared.tasks.Task.TheVariants as tasks
use Rattle.shard_desk.specs.Driving.{left_at}
use Rattle.shard_desk.specs.Driving.Doing.{Did}
use Rattle.shard_desk.proofs.driving.leave_on.Goals as goal

pub returns-in-On : goal.returns-in-On
returns-in-On g c =
    let leads : CutShort ≡ left_at c.act-2.result = elim c.in-On.is [
      | inl on ↦ sym (ap left_at on)
      | inr other ↦ elim other [ inl turned ↦ sym (ap left_at turned.1) | inr unmoved ↦ sym (ap left_at unmoved) ]
    ] in
    record {
      leaves = record {
        doing = Did (g.E.Exchange.Slotted.phase_of c.args.exchange.now) tasks.TakeLeave c.act-2.result;
        past = c.act-2.ensures.past;
        leads = leads;
      };
      over = λ no. let no : CutShort ≡ Over = no in cc;
    }
