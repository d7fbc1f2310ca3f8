-- The totals are sums over the steps.
use Rattle.std.proofs.Common.{◌≡◌, ◌+◌, List, [], ◌∷◌, refl, ◌∙◌, arith}
use Rattle.std.proofs.lemmas.List.Sums.{sum_by-cons}
use Rattle.span_bank.specs.declared.step.Numbers.{Numbers}
use Rattle.span_bank.specs.declared.step.BankStep.{BankStep}
use Rattle.span_bank.specs.declared.step.BankStep.TheVariants.{Open, Grow, Shrink, Reclaim, Close, Capacity}
use Rattle.span_bank.specs.Replay.{after, replay}
use Rattle.span_bank.specs.Journal.{IsAllowed, AreAllowed}
use Rattle.span_bank.specs.History.{opened, closed, grown, shrunk, reserved, released, set_last, AddsUp}

-- what one step adds and takes off
record Adds (b : Numbers) (s : BankStep) : Type 0 where
  pub rows : (after b s).rows + closed s ≡ b.rows + opened s
  pub held : (after b s).held + shrunk s ≡ b.held + grown s
  pub claimed : (after b s).claimed + released s ≡ b.claimed + reserved s

-- an allowed step changes each total by what it adds and takes off
adds : (b : Numbers) (s : BankStep) → IsAllowed b s → Adds b s
adds b (Open claim) m = record { rows = omega arith; held = refl; claimed = omega arith }
adds b (Grow n) m = record { rows = refl; held = omega arith; claimed = refl }
adds b (Shrink n) m = record { rows = refl; held = omega (arith, m.1); claimed = refl }
adds b (Reclaim old new) m = record { rows = refl; held = refl; claimed = omega (arith, m.0, m.1) }
adds b (Close claim) m = record { rows = omega (arith, m.0); held = refl; claimed = omega (arith, m.1) }
adds b (Capacity n) m = record { rows = refl; held = refl; claimed = refl }

-- the last capacity that steps set is the last one set after the first step, or else the one that stands after it
sets : (b : Numbers) (s : BankStep) (ss : List BankStep) → set_last (after b s).capacity ss ≡ set_last b.capacity (s ∷ ss)
sets b (Open claim) ss = refl
sets b (Grow n) ss = refl
sets b (Shrink n) ss = refl
sets b (Reclaim old new) ss = refl
sets b (Close claim) ss = refl
sets b (Capacity n) ss = refl

-- the totals after allowed steps are those before, with what they add and without what they take off
pub adds_up : (b : Numbers) (ss : List BankStep) → AreAllowed b ss → AddsUp b ss (replay b ss)
adds_up b [] all = record { rows = refl; held = refl; claimed = refl; capacity = refl }
adds_up b (s ∷ ss) all =
    let one = adds b s all.0 in
    let rest = adds_up (after b s) ss all.1 in
    record {
      rows = omega (arith, one.rows, rest.rows, sum_by-cons closed s ss, sum_by-cons opened s ss);
      held = omega (arith, one.held, rest.held, sum_by-cons shrunk s ss, sum_by-cons grown s ss);
      claimed = omega (arith, one.claimed, rest.claimed, sum_by-cons released s ss, sum_by-cons reserved s ss);
      capacity = rest.capacity ∙ sets b s ss;
    }
