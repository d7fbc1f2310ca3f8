-- Where nothing of the refusal goes out now, the exchange waits on, or lets its user go once the deadline has passed.
use Rattle.adapt_sides.specs.declared.saying.Said.TheVariants.{Nothing}
use Rattle.shard_exchange.proofs.exchange.Exchange.write_refusal.Goals as goal

pub returns-in-Nothing-clause-refused : goal.returns-in-Nothing-clause-refused
returns-in-Nothing-clause-refused g c = record {
  lays = rw c.wait.ensures.held c.in-Nothing.ensures.lays;
  says = record {
    said = Nothing;
    text = rw c.wait.ensures.held c.in-Nothing.ensures.says;
    leads = c.wait.ensures.course;
  };
}
