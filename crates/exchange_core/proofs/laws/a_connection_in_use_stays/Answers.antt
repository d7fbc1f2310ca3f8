-- In the midst of a message a service's connection goes back only if all was said; it is kept only if ready and usable.
use Rattle.exchange_core.specs.Log.{course_of}
use Rattle.exchange_core.proofs.Serving.{returned_once_served, kept_if_ready, kept_if_usable, out_once_served}
use Rattle.exchange_core.proofs.laws.a_connection_in_use_stays.Goals as goal

pub returns : goal.returns
returns c = record {
  served = returned_once_served;
  kept = λ events l. kept_if_ready (course_of events) l.0;
  usable = kept_if_usable;
  out = out_once_served;
}
