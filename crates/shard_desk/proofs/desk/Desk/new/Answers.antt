-- A desk's limits, deadlines and number of kept origins are those of the configuration that its threads share.
use Rattle.std.proofs.Common.{refl, ◌∙◌}
use Rattle.shard_desk.proofs.desk.Desk.new.Goals as goal

-- all of it is taken from the configuration that its threads share
pub returns : goal.returns
returns g c = (
  c.config-config.result.now,
  c.config-config.ensures,
  c.limits_of-limits.ensures,
  refl,
  c.terms_of-terms.ensures,
  c.in_ok-kept.ensures.0 ∙ c.most_origins-most.ensures,
)
