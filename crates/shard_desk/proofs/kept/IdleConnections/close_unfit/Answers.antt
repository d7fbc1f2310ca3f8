-- At each place of the walk the connection stays and is fit or not heard of yet, or it goes and is unfit.
use Rattle.std.proofs.Common.{rules, ◌⊎◌, ℕ, ◌-◌, ◌<◌, sym, subst}
use Rattle.shard_desk.specs.Kept.{IsFit, IsUnfit}
use Rattle.shard_desk.proofs.Sifting.{Walked, sifts_on, one_less, below, index_after}
use Rattle.shard_desk.proofs.kept.IdleConnections.close_unfit.Goals as goal

pub loop-passed-preserved : goal.loop-passed-preserved
loop-passed-preserved g c =
    let count = c.len-count.result in
    let passed = c.loop-passed.passed in
    let kept = c.args.self.now.all in
    let stays : g.row.C.Denot → Type 0 = λ idle. IsFit g.C.Rests.since g.C.Rests.quiet c.args.at.now c.args.seconds idle
    ⊎ g.C.Rests.unsure c.args.at.turn idle in
    let goes : g.row.C.Denot → Type 0 = IsUnfit g.C.Rests.since g.C.Rests.loud c.args.at.now c.args.seconds in
    record {
      walked = subst (λ (n : ℕ). Walked stays goes kept.items c.sift.new.all.items n) (sym (index_after count passed))
          (sifts_on stays goes kept.items c.loop-passed.self.all.items c.sift.new.all.items (count - passed) (count - 1 - passed)
          c.loop-passed.invariant.walked (one_less count passed c.loop-passed-test.true)
          (subst (λ (n : ℕ). count - 1 - passed < n) c.loop-passed.invariant.counted (below count passed c.loop-passed-test.true))
          c.sift.ensures.sifted);
      counted = c.loop-passed.invariant.counted;
      capacity = search rules;
      most = search rules;
    }
