-- A refusal goes to a user with no byte of an answer; it is the only one, stays the same, and only the end follows.
use Rattle.exchange_core.proofs.Leaving.{untouched, whole, keeps_to, one_refusal, parting}
use Rattle.exchange_core.proofs.laws.a_refusal_stands_alone.Goals as goal

pub returns : goal.returns
returns c = record { untouched = untouched; whole = whole; same = keeps_to; once = one_refusal; last = parting }
