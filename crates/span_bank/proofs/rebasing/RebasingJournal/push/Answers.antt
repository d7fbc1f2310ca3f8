-- An allowed step for which there is room leaves the journal sound, and its room within the reserved one.
use Rattle.std.proofs.Common.{arith}
use Rattle.span_bank.specs.Journal.{Journaled}
use Rattle.span_bank.proofs.StepLemmas.{sound-fields}
use Rattle.span_bank.proofs.rebasing.RebasingJournal.push.Goals as goal

-- the fields that were opened are the journal that was passed, and the two writes are one step of it
pub invariant_of-self : goal.invariant_of-self
invariant_of-self c =
    let fields = c.self.inside in
    let shown : Journaled = record { numbers = fields.numbers; base = fields.base; steps = fields.steps.items; room = fields.room } in (
      sound-fields shown c.args.self.now c.args.step _ _ c.self.view_is c.self.invariant.0 c.requires.allowed c.requires.room
          c.after-self-inside.ensures c.push_reserved.ensures.items,
      omega (arith, c.self.invariant.1, c.push_reserved.ensures.capacity),
    )

pub returns-clause-sound : goal.returns-clause-sound
returns-clause-sound c = (invariant_of-self c).0
