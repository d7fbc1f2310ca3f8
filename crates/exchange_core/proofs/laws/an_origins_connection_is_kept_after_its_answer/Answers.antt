-- An origin's connection is kept only if it lasts after a whole request and answer, and before a drain or stop.
use Rattle.exchange_core.proofs.Keeping.{kept_if_it_lasts, kept_if_sent, kept_if_read, kept_if_it_goes_on}
use Rattle.exchange_core.proofs.laws.an_origins_connection_is_kept_after_its_answer.Goals as goal

pub returns : goal.returns
returns c = record { lasts = kept_if_it_lasts; request = kept_if_sent; response = kept_if_read; goes_on = kept_if_it_goes_on }
