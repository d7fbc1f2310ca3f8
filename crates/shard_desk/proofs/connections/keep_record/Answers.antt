-- What the point's service in the configuration said is kept; without such a service the book stays as it is.
use Rattle.std.proofs.Common.{subst, refl}
use Rattle.std.proofs.lemmas.Result.{IfOk-weaker}
use Rattle.shard_desk.specs.Books.{Keeps}
use Rattle.shard_desk.proofs.connections.keep_record.Goals as goal

pub returns-in-Some-clause-keeps : goal.returns-in-Some-clause-keeps
returns-in-Some-clause-keeps g c = IfOk-weaker c.keep_of.result _ _ (λ _ kept. (
  c.config.result.now,
  c.config.ensures,
  subst (λ service. Keeps c.args.point service c.args.said c.args.book.now c.keep_of.new.book) c.in-Some.ensures kept,
)) c.keep_of.ensures.kept

pub returns-in-None-clause-keeps : goal.returns-in-None-clause-keeps
returns-in-None-clause-keeps g c = (
  c.config.result.now,
  c.config.ensures,
  subst (λ service. Keeps c.args.point service c.args.said c.args.book.now c.args.book.now) c.in-None.ensures refl,
)
