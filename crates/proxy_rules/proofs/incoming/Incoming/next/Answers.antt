-- The next message begins with the bytes left over, and is a request as the one before it was.
use Rattle.std.proofs.Common.{inl, ◌∙◌}
use Rattle.proxy_rules.proofs.incoming.Incoming.next.Goals as goal

pub invariant_of-next : goal.invariant_of-next
invariant_of-next c = record {
  read = c.args.request.raw.items;
  has_come = inl c.next.ensures.begins;
  asks = c.next.ensures.asks ∙ c.reads_requests.ensures.0 c.if-not-reads_requests.false;
}
