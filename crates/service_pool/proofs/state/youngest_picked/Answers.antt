-- With one more connection that the test doesn't pick, it still picks none of those passed.
use Rattle.std.proofs.Common.{arith, ◌≡◌, ◌-◌, ◌+◌, false, length, slice_index_or, subst, ap, ◌∙◌}
use Rattle.std.specs.VecDeque.{deque_len}
use Rattle.std.specs.Fn.{FnReturnsAt}
use Rattle.service_pool.specs.Pooled.{Tests}
use Rattle.service_pool.proofs.PickLemmas.{each_more}
use Rattle.service_pool.proofs.state.youngest_picked.Goals as goal

-- it was asked about one more, and didn't pick it
pub loop-passed-preserved : goal.loop-passed-preserved
loop-passed-preserved g c =
    let idle = c.args.idle.now in
    let passed = c.loop-passed.passed in
    let connection = c.index.result.now in
    let index : c.len-count.result - 1 - passed ≡ deque_len idle - (passed + 1) = omega (arith, c.len-count.ensures) in
    let next : deque_len idle - passed ≡ deque_len idle - (passed + 1) + 1 = omega (arith, c.len-count.ensures, c.loop-passed-test.true) in
    let at : connection ≡ slice_index_or idle.items (deque_len idle - (passed + 1)) connection =
    c.index.ensures ∙ ap (λ i. slice_index_or idle.items i connection) index in
    let said = subst (λ b. FnReturnsAt g.F.Fn c.args.picked.now connection b) c.if-picks.false c.picks.ensures in
    each_more (λ i. Tests g.F.Fn c.args.picked.now idle.items i false) (length idle.items) (deque_len idle - (passed + 1))
    (deque_len idle - passed) next
    (connection, at, said) c.loop-passed.invariant
