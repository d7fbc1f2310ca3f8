-- A sound journal with room stays sound by an allowed step, and keeps its capacity.
use Rattle.std.proofs.Common.{arith}
use Rattle.service_pool.specs.Journal.{Journaled}
use Rattle.service_pool.proofs.StepLemmas.{sound-fields}
use Rattle.service_pool.proofs.rebasing.RebasingJournal.push.Goals as goal

-- the fields that were opened are the journal that was passed, and the two writes are one step of it
pub invariant_of-self : goal.invariant_of-self
invariant_of-self c =
    let fields = c.self.inside in
    let shown : Journaled = record { numbers = fields.numbers; base = fields.base; steps = fields.steps.items; room = fields.room } in (
      sound-fields shown c.args.self.now c.args.step _ _ c.self.view_is c.self.invariant.0 c.requires.allowed c.requires.room
          c.after-self-inside.ensures c.push_reserved.ensures.items,
      omega (arith, c.self.invariant.1, c.push_reserved.ensures.capacity),
    )

pub returns-clause-sound : goal.returns-clause-sound
returns-clause-sound c = (invariant_of-self c).0
