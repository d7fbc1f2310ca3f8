-- The raw bytes that are left over are the first of the next message, whose head is to come.
use Rattle.std.proofs.Common.{refl, None}
use Rattle.http_relay.specs.declared.side.SourceSide.{SourceSide}
use Rattle.http_relay.specs.declared.side.head.SourceHead.TheVariants as heads
use Rattle.http_relay.proofs.Beginning.{fresh_at_head}
use Rattle.http_relay.proofs.side.SourceSide.next.Goals as goal

pub returns-clause-begins : goal.returns-clause-begins
returns-clause-begins c =
    let new : SourceSide = record {
      alloc = c.args.self.now.alloc;
      asks = c.args.self.now.asks;
      head = heads.Unread;
      head_fault = None;
      body = c.idle-self.result;
      raw = c.args.self.now.raw;
      judged = 0;
      interims = 0;
      fault = None;
    } in
    fresh_at_head new refl refl
