-- A turn that failed stays what it was once its fault is kept.
use Rattle.std.proofs.Common.{ap, Err}
use Rattle.icap_client.specs.Asking.{Asker}
use Rattle.icap_client.proofs.Asked.{asks_kept}
use Rattle.icap_client.proofs.options.OptionsSide.turn.Goals as goal

pub returns-in-Err-clause-asks : goal.returns-in-Err-clause-asks
returns-in-Err-clause-asks g c = λ none.
    asks_kept c.args.self.now c.turn_once.new.self _ (g.W.Wire.past c.args.wire.now) (g.W.Wire.past c.turn_once.new.wire)
    (Err c.in-Err.fault)
    (ap (λ (s : Asker). s.waiting) c.self-2.view_is) (ap (λ (s : Asker). s.stage) c.self-2.view_is)
    (ap (λ (s : Asker). s.response) c.self-2.view_is) (ap (λ (s : Asker). s.raw) c.self-2.view_is) c.in-Err.ensures.asks
