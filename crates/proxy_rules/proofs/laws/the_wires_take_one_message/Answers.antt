-- By what stands, the wires gave the two bodies and took prefixes of one request and of one message, which is whole once Done.
use Rattle.adapt_hold.specs.Holding.{shows}
use Rattle.proxy_rules.specs.Running.{MadeOf}
use Rattle.proxy_rules.proofs.WireLemmas.{service_one, whole_one, hops_one, other_one}
use Rattle.proxy_rules.proofs.laws.the_wires_take_one_message.Goals as goal

pub returns-clause-took : goal.returns-clause-took
returns-clause-took g c = λ request t s.
    let tx = c.args.tx.now in
    record {
      original = s.original;
      adapted = s.adapted;
      original_is = s.original_is;
      adapted_is = s.adapted_is;
      original_read = s.read_is;
      adapted_read = s.heard_is;
      service_took = service_one request tx.hold s.original t.service_taken tx.ends.service c.seen.ensures.tied s.original_is s.sent_is;
      next_and_back =
          hops_one tx.hold tx.ends.next tx.ends.back (MadeOf tx.ends tx.ends.next) (MadeOf tx.ends tx.ends.back)
          s.original s.adapted t.next_taken t.back_taken c.seen.ensures.tied s.original_is s.adapted_is s.hops_are;
      other =
          other_one (shows tx.hold.history).plan.point tx.hold tx.ends.next tx.ends.back (MadeOf tx.ends tx.ends.next)
          (MadeOf tx.ends tx.ends.back)
          s.original s.adapted t.next_taken t.back_taken c.seen.ensures.tied s.original_is s.adapted_is s.refuses_is.1 s.refuses_is.2
          s.hops_are;
      done = λ d.
          whole_one tx.ends.next tx.ends.back (MadeOf tx.ends tx.ends.next) (MadeOf tx.ends tx.ends.back)
          tx.refusing (shows tx.hold.history) _ t.next_taken t.back_taken (s.done_is d);
    }
