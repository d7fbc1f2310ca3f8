-- A sound window stays sound where its oldest step goes into the base.
use Rattle.std.proofs.Common.{sym}
use Rattle.service_pool.specs.Journal.{Journaled}
use Rattle.service_pool.proofs.StepLemmas.{sound-slid_ring}
use Rattle.service_pool.proofs.window.Window.slide.Goals as goal

-- the fields that were opened are the window that was passed, and its oldest step goes into the base
pub invariant_of-self : goal.invariant_of-self
invariant_of-self c =
    let fields = c.self.inside in
    let shown : Journaled = record {
      numbers = fields.numbers;
      base = fields.base;
      steps = fields.steps.items;
      room = fields.steps.capacity;
    } in
    sound-slid_ring shown c.in-Some.oldest _ c.pop_front.new.self c.self.invariant (sym c.in-Some.ensures.value) c.after-self-inside.ensures
    c.pop_front.ensures.items

pub returns-in-Some-clause-sound : goal.returns-in-Some-clause-sound
returns-in-Some-clause-sound c = invariant_of-self c
