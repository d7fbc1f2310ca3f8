-- The service's connection, then the reservation, then the origin's connection go back, each where it is due.
use Rattle.exchange_core.proofs.Stepping.{goes_on}
use Rattle.shard_exchange.proofs.exchange.Exchange.free.Goals as goal

pub returns-clause-goes : goal.returns-clause-goes
returns-clause-goes g c = goes_on _ _ _ c.free_connection.ensures.goes
    (goes_on _ _ _ c.free_room.ensures.goes c.free_origin.ensures.goes)

-- each thing where it was due
pub returns-clause-back : goal.returns-clause-back
returns-clause-back g c =
    let held = c.args.self.now.holdings in
    let line = c.free_connection.ensures.line in
    let origin = c.free_origin.ensures.origin in
    record {
      unleased = c.free_connection.new.self.course;
      free = c.free_room.new.self.course;
      line = (λ due. (held, c.free_connection.new.self.holdings, c.args.out.now, c.free_connection.new.out, line.0 due), line.1);
      room = c.free_room.ensures.room;
      origin = (λ due. (c.free_room.new.self.holdings, c.free_room.new.out, c.free_origin.new.out, origin.0 due), origin.1);
    }
