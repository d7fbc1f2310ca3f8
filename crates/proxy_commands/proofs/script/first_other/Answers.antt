-- The first line that is neither a comment nor of a script has the number that is counted.
use Rattle.std.proofs.Common.{◌≡◌, ◌∙◌, sym, length, rules, arith, []}
use Rattle.proxy_commands.proofs.Walks.{good_here, bad_here, none_left}
use Rattle.proxy_commands.proofs.script.first_other.Goals as goal

pub returns-then-is_other-clause-other : goal.returns-then-is_other-clause-other
returns-then-is_other-clause-other c =
    let cut = c.cut_line in
    let is = sym c.is_other.ensures ∙ c.if-is_other.true in
    c.loop-rest.invariant.other _ (bad_here c.loop-rest.rest.now cut.result.0.now cut.result.1.now cut.ensures.cut c.loop-rest.number is)

pub loop-rest-preserved : goal.loop-rest-preserved
loop-rest-preserved c =
    let cut = c.cut_line in
    let is = sym c.is_other.ensures ∙ c.if-is_other.false in
    let here = good_here c.loop-rest.rest.now cut.result.0.now cut.result.1.now cut.ensures.cut c.loop-rest.number is in
    record {
      counted = omega arith;
      other = λ n h. c.loop-rest.invariant.other n (here.0 n h);
      good = λ lines h. let all = here.1 lines h in c.loop-rest.invariant.good all.0 all.1;
    }

pub returns-clause-good : goal.returns-clause-good
returns-clause-good c =
    let e : length c.loop-rest.rest.now ≡ 0 = search rules in
    c.loop-rest.invariant.good [] (none_left c.loop-rest.rest.now e)
