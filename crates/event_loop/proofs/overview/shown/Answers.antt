-- The lines as they came, and in their order.
use Rattle.std.proofs.Common.{rules}
use Rattle.event_loop.proofs.overview.shown.Goals as goal

pub returns : goal.returns
returns c = record {
  lines = c.in_ok-all_lines.field-0.items;
  all = search rules;
  order = c.in_ok-lines.lines.items;
  ordered = search rules;
  is = search rules;
}
