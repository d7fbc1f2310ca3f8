-- From the youngest on, the first fit one that leads to the address is taken; of those passed only unfit ones that lead to it went.
use Rattle.std.proofs.Common.{rules, ◌≡◌, ◌⊎◌, ℕ, ◌-◌, ◌<◌, Some, sym, subst}
use Rattle.shard_desk.specs.Kept.{IsFit, IsUnfit, IsUnsure}
use Rattle.shard_desk.proofs.Sifting.{Walked, is_taken, walks_on, one_less, below, index_after}
use Rattle.shard_desk.proofs.kept.IdleConnections.take_by.Goals as goal

pub returns-in-Some-clause-taken : goal.returns-in-Some-clause-taken
returns-in-Some-clause-taken g c =
    let count = c.len-count.result in
    let passed = c.loop-passed.passed in
    let kept = c.args.self.now.all in
    let leads : g.row.C.Denot → Type 0 = λ idle. g.C.Rests.place idle ≡ Some c.args.address in
    let fit : g.row.C.Denot → Type 0 = IsFit g.C.Rests.since g.C.Rests.quiet c.args.at.now c.args.seconds in
    let unfit : g.row.C.Denot → Type 0 = IsUnfit g.C.Rests.since g.C.Rests.loud c.args.at.now c.args.seconds in
    let unsure : g.row.C.Denot → Type 0 = IsUnsure (g.C.Rests.unsure c.args.at.turn) c.args.asking in
    is_taken leads fit unfit unsure kept.items c.loop-passed.self.all.items c.pass.new.all.items (count - passed) (count - 1 - passed)
    c.in-Some.idle
    c.loop-passed.invariant.walked (one_less count passed c.loop-passed-test.true)
    (subst (λ (n : ℕ). count - 1 - passed < n) c.loop-passed.invariant.counted (below count passed c.loop-passed-test.true))
    c.in-Some.ensures.passed

pub loop-passed-preserved : goal.loop-passed-preserved
loop-passed-preserved g c =
    let count = c.len-count.result in
    let passed = c.loop-passed.passed in
    let kept = c.args.self.now.all in
    let leads : g.row.C.Denot → Type 0 = λ idle. g.C.Rests.place idle ≡ Some c.args.address in
    let fit : g.row.C.Denot → Type 0 = IsFit g.C.Rests.since g.C.Rests.quiet c.args.at.now c.args.seconds in
    let unfit : g.row.C.Denot → Type 0 = IsUnfit g.C.Rests.since g.C.Rests.loud c.args.at.now c.args.seconds in
    let unsure : g.row.C.Denot → Type 0 = IsUnsure (g.C.Rests.unsure c.args.at.turn) c.args.asking in
    record {
      walked = subst (λ (n : ℕ). Walked (λ (idle : g.row.C.Denot). (leads idle → ⊥) ⊎ unsure idle)
          (λ (idle : g.row.C.Denot). leads idle × unfit idle)
          kept.items c.pass.new.all.items n) (sym (index_after count passed))
          (walks_on leads fit unfit unsure kept.items c.loop-passed.self.all.items c.pass.new.all.items (count - passed)
          (count - 1 - passed)
          c.loop-passed.invariant.walked (one_less count passed c.loop-passed-test.true)
          (subst (λ (n : ℕ). count - 1 - passed < n) c.loop-passed.invariant.counted (below count passed c.loop-passed-test.true))
          c.in_default.ensures.passed);
      counted = c.loop-passed.invariant.counted;
      capacity = search rules;
      most = search rules;
    }
