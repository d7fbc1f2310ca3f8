-- Until all is over something is due and may be done; each wait has a deadline; while the user alone is waited for, nothing is held.
use Rattle.exchange_core.proofs.Going.{over_means_nothing, nothing_means_over, goes_on, wait_has_deadline, user_holds_nothing}
use Rattle.exchange_core.proofs.Going.{queue_is_free}
use Rattle.exchange_core.proofs.Doing.{fails_there}
use Rattle.exchange_core.proofs.Dials.{queue_has_no_origin}
use Rattle.exchange_core.proofs.laws.no_exchange_is_forgotten.Goals as goal

pub returns : goal.returns
returns c = record {
  over = λ d. (over_means_nothing d, nothing_means_over d);
  goes_on = goes_on;
  deadline = wait_has_deadline;
  failure = fails_there;
  free = user_holds_nothing;
  queue = queue_is_free;
  queue_origin = queue_has_no_origin;
}
