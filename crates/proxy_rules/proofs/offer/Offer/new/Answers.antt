-- An offer's side is unused and is of the plan, which isn't Plain and previews no body known to be empty.
use Rattle.std.proofs.Common.{sym, ap, ◌∙◌}
use Rattle.icap_client.specs.Heard.{Reader}
use Rattle.proxy_rules.proofs.BeginLemmas.{fresh_reader}
use Rattle.proxy_rules.proofs.offer.Offer.new.Goals as goal

pub invariant_of-offer : goal.invariant_of-offer
invariant_of-offer c =
    let reader = c.in_ok-side.ensures.reader in
    record {
      from = c.args.from;
      carried = c.args.carried.now;
      host = c.args.host.now;
      port = c.args.port;
      path = c.args.path.now;
      req = c.args.req.now;
      res = c.args.res.now;
      unused = record {
        writer = c.in_ok-side.ensures.writer;
        reader = fresh_reader c.args.plan.point c.in_ok-side.side.replies.reader reader;
        raw = c.in_ok-side.ensures.raw;
        marks = c.in_ok-side.ensures.marks;
        fault = c.in_ok-side.ensures.fault;
      };
      point = ap (λ (r : Reader). r.point) reader;
      offered = sym c.is_plain.ensures ∙ c.if-is_plain.false;
      some = sym c.previews_nothing.ensures ∙ c.if-previews_nothing.false;
    }
