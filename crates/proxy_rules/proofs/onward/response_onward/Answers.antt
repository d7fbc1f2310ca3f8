-- A response may go on whatever the use of the origin's connection, and its head is that of this very response.
use Rattle.std.proofs.Common.{refl}
use Rattle.http_side.specs.declared.forward.Message.TheVariants.{Response}
use Rattle.proxy_rules.specs.Onward.{IsResponse}
use Rattle.proxy_rules.proofs.OnwardLemmas.{answers_suit, goes_on}
use Rattle.proxy_rules.proofs.onward.response_onward.Goals as goal

pub returns-clause-ok : goal.returns-clause-ok
returns-clause-ok c = goes_on c.onward.result (record {
  user = c.args.asked.user;
  message = Response c.args.response;
  part = c.args.part;
  carries_on = c.args.asked.carries_on;
  origin = c.args.asked.origin;
})
    (IsResponse c.args.response.now) refl (answers_suit c.args.asked.origin.connection (Response c.args.response) _ refl)
    c.onward.ensures.head c.onward.ensures.framing c.onward.ensures.closes
