-- What may go to the service lies on the original's tape; what may go out of the chosen body begins its tape.
use Rattle.adapt_hold.proofs.Bodies.{to_service, original_to_next, adapted_to_next}
use Rattle.adapt_hold.proofs.laws.what_may_be_sent_is_on_its_tape.Goals as goal

pub returns : goal.returns
returns c = record {
  service = λ h n t m. to_service h n t m;
  original = λ h n t m o. original_to_next h n t m o;
  adapted = λ h n t m o. adapted_to_next h n t m o;
}
