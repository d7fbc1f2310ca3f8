-- The line that is read is the only first line of the text; where no line has ended, there is none.
use Rattle.std.proofs.Common.{drop, rules, subst, codes, sym}
use Rattle.icap_head.specs.StartLines.{HasNoLine, IsFirstLine, IsRequestLine, RequestForm}
use Rattle.icap_head.proofs.Words.{first_unique}
use Rattle.icap_head.proofs.requests.judge_request_line.Goals as goal

pub returns-in_default-clause-ok : goal.returns-in_default-clause-ok
returns-in_default-clause-ok c = λ line behind first.
    let none = subst HasNoLine c.judged.ensures.front c.in_default.ensures.none in
    absurd (none line behind first)

pub returns-in-Some-2-clause-ok : goal.returns-in-Some-2-clause-ok
returns-in-Some-2-clause-ok c = λ line behind first.
    let seen = c.judged.result.now in
    let here = c.in-Some.ensures.some.1 in
    let first_here = subst (λ t. IsFirstLine t line behind) (sym c.judged.ensures.front) first in
    let same = first_unique seen c.in-Some.line.now (drop c.in-Some.field-0-1 seen) line behind here first_here in
    let words : IsRequestLine c.in-Some.line.now c.in-Some-2.field-0.0.now c.in-Some-2.field-0.1.now (codes "ICAP/1.0") = search rules in
    subst (RequestForm (codes "ICAP/1.0")) same.0 (c.in-Some-2.field-0.0.now, c.in-Some-2.field-0.1.now, words)
