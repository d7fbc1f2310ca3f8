-- The number of a line counts the comments, and a script is good where all that is said is.
use Rattle.std.proofs.Common.{ℕ, List, sym, subst, arith}
use Rattle.proxy_commands.specs.Script.{SaysAll}
use Rattle.proxy_commands.proofs.Walks.{bad_later, all_good}
use Rattle.proxy_commands.proofs.script.read_script.Goals as goal

pub returns-in-Some-first_other-clause-read : goal.returns-in-Some-first_other-clause-read
returns-in-Some-first_other-clause-read c =
    let past = c.past_comments-number in
    let cut = c.cut_line in
    let plan = c.in-Some in (
      omega arith,
      past.ensures.bad _ (bad_later past.result.1.now cut.result.0.now cut.result.1.now cut.ensures.cut past.result.0 _ plan.plan
          plan.ensures.found
          c.in-Some-first_other.ensures.other),
    )

pub returns-in-Err-clause-read : goal.returns-in-Err-clause-read
returns-in-Err-clause-read c =
    let past = c.past_comments-number in
    let cut = c.cut_line in
    let plan = c.in-Some in
    let good = c.in_default-first_other.ensures.good in
    let all = all_good past.result.1.now cut.result.0.now cut.result.1.now cut.ensures.cut plan.plan good.0 plan.ensures.found good.1 in (
      omega arith,
      (plan.plan, good.0, subst (λ (texts : List (List ℕ)). SaysAll texts plan.plan good.0) (sym past.ensures.said) all),
    )
