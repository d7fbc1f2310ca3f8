-- For each request an origin is dialed once, and once more, afresh, if it is withdrawn; a kept connection only if it is repeatable.
use Rattle.exchange_core.proofs.Dials.{dialed_once_more, dialed_twice, second_is_fresh, kept_if_repeatable, kept_if_not_withdrawn}
use Rattle.exchange_core.proofs.laws.an_origin_is_dialed_at_most_twice.Goals as goal

pub returns : goal.returns
returns c = record {
  dialed = dialed_once_more;
  twice = dialed_twice;
  second = second_is_fresh;
  repeatable = kept_if_repeatable;
  fresh = kept_if_not_withdrawn;
}
