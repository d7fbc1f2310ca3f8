-- A line says a plan exactly if it has the parts of one and their numbers are in range.
use Rattle.std.proofs.Common.{◌≡◌, ◌∙◌, sym, None}
use Rattle.trace_core.specs.declared.history.Plan.{Plan as AnyPlan}
use Rattle.proxy_commands.specs.Script.{SaysPlan}
use Rattle.proxy_commands.specs.Reading.{parts_of}
use Rattle.proxy_commands.proofs.PlanForms.{says_no_parts, plan_found, plan_refused}
use Rattle.proxy_commands.proofs.plan_line.read_plan.Goals as goal

pub returns-in_err-kind-clause-none : goal.returns-in_err-kind-clause-none
returns-in_err-kind-clause-none c =
    let line = c.args.line.now in
    let none : parts_of line ≡ None = sym c.read_parts.ensures ∙ c.in_err-kind.was in
    let nothing : (plan : AnyPlan) → SaysPlan line plan → ⊥ =
    λ plan h. says_no_parts line none plan.kind (plan.allow, plan.retry) plan.len h.parts in
    rw c.from_residual.ensures nothing

pub returns-clause-found : goal.returns-clause-found
returns-clause-found c =
    plan_found c.args.line.now c.in_ok-kind.kind (c.in_ok-kind.allow, c.in_ok-kind.retry) c.in_ok-kind.len
    (sym c.read_parts.ensures ∙ c.in_ok-kind.was) c.new.result c.new.ensures.same c.new.ensures.in_range

pub returns-clause-none : goal.returns-clause-none
returns-clause-none c =
    plan_refused c.args.line.now c.in_ok-kind.kind (c.in_ok-kind.allow, c.in_ok-kind.retry) c.in_ok-kind.len
    (sym c.read_parts.ensures ∙ c.in_ok-kind.was) c.new.result c.new.ensures.in_range
