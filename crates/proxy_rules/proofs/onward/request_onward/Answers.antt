-- A request goes on where it suits the connection; else no head is made of it.
use Rattle.std.proofs.Common.{◌≡◌, true, false, rules, refl, sym, ◌∙◌, inr}
use Rattle.http_side.specs.declared.forward.Forward.{Forward}
use Rattle.http_side.specs.declared.forward.Message.TheVariants.{Request}
use Rattle.proxy_rules.specs.Onward.{IsRequest}
use Rattle.proxy_rules.proofs.OnwardLemmas.{goes_on}
use Rattle.proxy_rules.proofs.onward.request_onward.Goals as goal

pub returns-then-not-suits-clause-err : goal.returns-then-not-suits-clause-err
returns-then-not-suits-clause-err c =
    let forward : Forward = record {
      user = c.args.asked.user;
      message = Request c.args.request;
      part = c.args.part;
      carries_on = c.args.asked.carries_on;
      origin = c.args.asked.origin;
    } in
    let unfit : c.suits.result ≡ false = search rules in
    inr (
      refl,
      record {
        forward = forward;
        user_is = refl;
        origin_is = refl;
        part_is = refl;
        message_is = refl;
        unfit = sym c.suits.ensures ∙ unfit;
      },
    )

pub returns-clause-ok : goal.returns-clause-ok
returns-clause-ok c =
    let forward : Forward = record {
      user = c.args.asked.user;
      message = Request c.args.request;
      part = c.args.part;
      carries_on = c.args.asked.carries_on;
      origin = c.args.asked.origin;
    } in
    let fit : c.suits.result ≡ true = search rules in
    goes_on c.onward.result forward (IsRequest c.args.request.now) refl (sym c.suits.ensures ∙ fit) c.onward.ensures.head
    c.onward.ensures.framing c.onward.ensures.closes
