-- A first fault of a read turn is the wire's, want of memory, or what the raw bytes are refused for.
use Rattle.http_relay.proofs.contract.SourceSideSource.read_turn.Goals as goal

pub returns-clause-reason : goal.returns-clause-reason
returns-clause-reason g c = λ none fault e. (c.read_turn.ensures.turn none).cause fault e
