-- The refusal that goes out has the row's page, with the reason that was noted and the number after the last one.
use Rattle.edge_rows.proofs.exchanges.memory.outside.MemoryOutsideNotingRowMoment.refusal_page.Goals as goal

pub returns-in-Ok : goal.returns-in-Ok
returns-in-Ok g c = (
  c.get-page.result.now,
  tt,
  (c.args.self.now.why, c.saturating_add-self.result, c.args.self.now.is_head, c.in-Ok.ensures),
)
