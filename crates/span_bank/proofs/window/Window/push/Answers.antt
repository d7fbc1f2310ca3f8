-- An allowed step for which there is room leaves the window sound.
use Rattle.span_bank.specs.Journal.{Journaled}
use Rattle.span_bank.proofs.StepLemmas.{sound-ring}
use Rattle.span_bank.proofs.window.Window.push.Goals as goal

-- the fields that were opened are the window that was passed, and the two writes are one step of it
pub invariant_of-self : goal.invariant_of-self
invariant_of-self c =
    let fields = c.self.inside in
    let shown : Journaled = record {
      numbers = fields.numbers;
      base = fields.base;
      steps = fields.steps.items;
      room = fields.steps.capacity;
    } in
    sound-ring shown c.args.self.now c.args.step _ c.push_back.new.self c.self.view_is c.self.invariant c.requires.allowed c.requires.room
    c.after-self-inside.ensures c.push_back.ensures.items

pub returns-clause-sound : goal.returns-clause-sound
returns-clause-sound c = invariant_of-self c
