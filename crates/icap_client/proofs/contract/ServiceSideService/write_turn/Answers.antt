-- The first fault of a write is that its wire failed.
use Rattle.trace_core.specs.History.{shows}
use Rattle.icap_client.proofs.Both.{offer_fails}
use Rattle.icap_client.proofs.contract.ServiceSideService.write_turn.Goals as goal

pub returns-clause-reason : goal.returns-clause-reason
returns-clause-reason g c = λ none fault e.
    let t = c.write_turn.ensures.turn none in
    offer_fails (shows c.args.state.now) c.write_turn.new.self.writer t.answer c.write_turn.result t.fits fault e
