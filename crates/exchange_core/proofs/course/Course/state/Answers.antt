-- Once the proxy stops, a refusal is due or the user is gone.
use Rattle.exchange_core.proofs.Doing.{stops_there}
use Rattle.exchange_core.proofs.course.Course.state.Goals as goal

pub returns-clause-stops : goal.returns-clause-stops
returns-clause-stops c = stops_there c.self.inside.state c.self.invariant
