-- A byte that has come is held just if a legal continuation still sends it, and then the table's script of few events sends it.
use Rattle.std.proofs.Common.{ℕ, sym, subst}
use Rattle.std.specs.Prelude.{◌↔◌}
use Rattle.trace_core.specs.declared.tape.Tape.TheVariants.{Original, Adapted}
use Rattle.trace_core.specs.Held.{IsIn, IsNeeded}
use Rattle.need_witness.proofs.Needed.{held_needed, needed_held}
use Rattle.need_witness.proofs.Scripted.{is_script}
use Rattle.need_witness.proofs.FewEvents.{few_events}
use Rattle.adapt_hold.specs.Holding.{shows}
use Rattle.proxy_rules.proofs.laws.each_held_byte_is_needed.Goals as goal

pub returns-clause-original : goal.returns-clause-original
returns-clause-original g c =
    let held = c.args.tx.now.hold in
    λ place.
    let history = held.history in
    subst (λ (i : ℕ × ℕ). IsIn i place ↔ IsNeeded Original history.plan history.events place) (sym c.seen.ensures.tied.original) (
      held_needed Original history.plan history.events place c.seen.ensures.tied.legal,
      needed_held Original history.plan history.events place,
    )

pub returns-clause-adapted : goal.returns-clause-adapted
returns-clause-adapted g c =
    let held = c.args.tx.now.hold in
    λ place.
    let history = held.history in
    subst (λ (i : ℕ × ℕ). IsIn i place ↔ IsNeeded Adapted history.plan history.events place) (sym c.seen.ensures.tied.adapted)
    (held_needed Adapted history.plan history.events place c.seen.ensures.tied.legal, needed_held Adapted history.plan history.events place)

pub returns-clause-scripts : goal.returns-clause-scripts
returns-clause-scripts g c =
    let held = c.args.tx.now.hold in
    λ place h.
    let history = held.history in (
      is_script Original place history.plan history.events c.seen.ensures.tied.legal
          (subst (λ (i : ℕ × ℕ). IsIn i place) c.seen.ensures.tied.original h),
      few_events Original (shows history) place,
    )

pub returns-clause-adapted_scripts : goal.returns-clause-adapted_scripts
returns-clause-adapted_scripts g c =
    let held = c.args.tx.now.hold in
    λ place h.
    let history = held.history in (
      is_script Adapted place history.plan history.events c.seen.ensures.tied.legal
          (subst (λ (i : ℕ × ℕ). IsIn i place) c.seen.ensures.tied.adapted h),
      few_events Adapted (shows history) place,
    )
