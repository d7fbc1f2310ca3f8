-- None that was passed is both picked and preferred; the one that is found is both.
use Rattle.std.proofs.Common.{arith, rules, ◌≡◌, ◌-◌, ◌+◌, ◌⊎◌, inl, inr, false, length, slice_index_or, ap, ◌∙◌}
use Rattle.std.specs.VecDeque.{deque_len}
use Rattle.service_pool.specs.Pooled.{Tests}
use Rattle.service_pool.proofs.PickLemmas.{each_more}
use Rattle.service_pool.proofs.state.youngest_preferred.Goals as goal

-- it was asked about one more, and didn't take it
pub loop-passed-preserved : goal.loop-passed-preserved
loop-passed-preserved g c =
    let idle = c.args.idle.now in
    let passed = c.loop-passed.passed in
    let connection = c.index.result.now in
    let index : c.len-count.result - 1 - passed ≡ deque_len idle - (passed + 1) = omega (arith, c.len-count.ensures) in
    let next : deque_len idle - passed ≡ deque_len idle - (passed + 1) + 1 = omega (arith, c.len-count.ensures, c.loop-passed-test.true) in
    let at : connection ≡ slice_index_or idle.items (deque_len idle - (passed + 1)) connection =
    c.index.ensures ∙ ap (λ i. slice_index_or idle.items i connection) index in
    let said : Tests g.F.Fn c.args.picked.now idle.items (deque_len idle - (passed + 1)) false
    ⊎ Tests g.G.Fn c.args.prefers.now idle.items (deque_len idle - (passed + 1)) false =
    elim (c.is_preferred.ensures.no c.if-is_preferred.false) [
      | inl said ↦ inl (connection, at, said)
      | inr said ↦ inr (connection, at, said)
    ] in
    each_more (λ i. Tests g.F.Fn c.args.picked.now idle.items i false ⊎ Tests g.G.Fn c.args.prefers.now idle.items i false)
    (length idle.items)
    (deque_len idle - (passed + 1)) (deque_len idle - passed) next said c.loop-passed.invariant

-- it was asked about one, which it takes
pub returns-then-is_preferred-clause-picked : goal.returns-then-is_preferred-clause-picked
returns-then-is_preferred-clause-picked g c =
    let connection = c.index.result.now in
    let passed = c.loop-passed.passed in
    let count = c.len-count.result in
    let yes = c.is_preferred.ensures.yes c.if-is_preferred.true in (
      search rules,
      (connection, c.index.ensures, yes.0),
      (connection, c.index.ensures, yes.1),
      λ i from below. c.loop-passed.invariant i (omega (arith, from, c.loop-passed-test.true, c.len-count.ensures)) below,
    )

-- it was asked about each
pub returns-clause-none : goal.returns-clause-none
returns-clause-none g c i from below = c.loop-passed.invariant i (omega (arith, c.loop-passed-test.false, c.len-count.ensures)) below
