-- The items, the parts and the layout of a text are unique; the message doesn't matter.
use Rattle.encapsulated.proofs.OneAnswer.{items_unique, parts_unique, layout_unique}
use Rattle.encapsulated.proofs.laws.reads_one_way.Goals as goal

pub returns-clause-items : goal.returns-clause-items
returns-clause-items c = items_unique

pub returns-clause-parts : goal.returns-clause-parts
returns-clause-parts c = parts_unique

pub returns-clause-layout : goal.returns-clause-layout
returns-clause-layout c = λ text method other direction opposite layout same is also.
    layout_unique layout same (parts_unique text _ _ is.parts also.parts)
