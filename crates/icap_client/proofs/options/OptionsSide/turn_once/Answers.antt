-- A turn stays what it was if empty room is given back after it.
use Rattle.icap_client.proofs.Asked.{asks_drop_text}
use Rattle.icap_client.proofs.options.OptionsSide.turn_once.Goals as goal

pub returns-clause-asks : goal.returns-clause-asks
returns-clause-asks g c =
    asks_drop_text c.args.self.now c.write_or_read-result.new.self c.free_memory.new.self (g.W.Wire.past c.args.wire.now)
    (g.W.Wire.past c.write_or_read-result.new.wire) c.write_or_read-result.result c.free_memory.ensures
    c.write_or_read-result.ensures.asks
