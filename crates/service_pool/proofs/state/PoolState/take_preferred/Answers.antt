-- Of the idle connections the youngest that is picked and preferred is taken, else the youngest picked, else the youngest of all.
use Rattle.std.proofs.Common.{◌≡◌, ap, sym, ◌∙◌}
use Rattle.service_pool.specs.declared.step.PoolStep.TheVariants.{Take}
use Rattle.service_pool.specs.Journal.{stepped}
use Rattle.service_pool.proofs.PickLemmas.{takes_unpicked, takes_picked}
use Rattle.service_pool.proofs.state.PoolState.take_preferred.Goals as goal

-- the youngest, where the test picks none
pub returns-in-Idle-clause-take : goal.returns-in-Idle-clause-take
returns-in-Idle-clause-take g c =
    let took = c.in-Idle.ensures.take in
    let idle = c.self.inside.idle.items in
    let same : c.args.self.now.idle ≡ idle = sym (ap (λ p. p.idle) c.self.view_is) in
    let none = takes_unpicked g.F.Fn c.args.picked.now idle c.args.self.now.idle c.take.new.self.idle c.in-Idle.connection same took.0
    c.in_default.ensures.none in
    (took, none.0, none.1)

-- the youngest that it picks
pub returns-clause-take : goal.returns-clause-take
returns-clause-take g c =
    let idle = c.self.inside.idle.items in
    let same : c.args.self.now.idle ≡ idle = sym (ap (λ p. p.idle) c.self.view_is) in
    let picked = c.in-Some.ensures.picked in
    let removed = c.in-Some-remove.ensures in
    let step = c.apply.ensures.step ∙ ap (λ j. stepped g.J.Journal.makes_room j.journal Take) c.self.view_is in (
      (
        c.in-Some.index,
        takes_picked g.F.Fn c.args.picked.now g.G.Fn c.args.prefers.now idle c.args.self.now.idle c.remove.new.self.items c.in-Some.index
            c.in-Some-remove.connection same
            picked.0 removed.value removed.items picked.1 picked.2,
      ),
      step,
    )
