-- The user gets what is left of its refusal: the one with a page where one was laid, else the plain one.
use Rattle.std.proofs.Common.{ℕ, List, subst}
use Rattle.shard_exchange.specs.Saying.{SaysOn, past_of}
use Rattle.shard_message.proofs.doing.HoldingsEffects.refuse.Goals as goal

pub returns-clause-says : goal.returns-clause-says
returns-clause-says g c =
    subst (λ (text : List ℕ).
    SaysOn (past_of g.O.User.Wire.past c.args.self.now.user) (past_of g.O.User.Wire.past c.say_to.new.user) text
    c.args.self.now.refused c.say_to.new.out c.say_to.result)
    c.refusal_by-text.ensures c.say_to.ensures.says
