-- A head is there at its offsets; a text may be refused for its fault, or as too long if unfinished at 16,384 bytes.
use Rattle.std.proofs.Common.{ℕ, List, subst, arith}
use Rattle.httparse.specs.Grammar.{HasNoRequest, MayBecomeRequest}
use Rattle.http_side.proofs.RequestLemmas.{refused_at, there_at}
use Rattle.http_side.proofs.request.find_within.Goals as goal

pub returns-in-Err-judge-clause-fault : goal.returns-in-Err-judge-clause-fault
returns-in-Err-judge-clause-fault c =
    refused_at c.args.adapted c.args.text.now c.judged-front.result.now c.parse_request.new.headers c.in-Ok-Complete.spans
    c.in-Err-judge.fault c.judged-front.ensures (omega (arith, c.parse_request.auto.headers, c.requires))
    (rw c.in-Ok-Complete.field-0-is at c.in-Ok-Complete.ensures.complete) c.in-Err-judge.ensures.refused

pub returns-else-text-lt-MAX_HEAD-clause-fault : goal.returns-else-text-lt-MAX_HEAD-clause-fault
returns-else-text-lt-MAX_HEAD-clause-fault c =
    let none = rw c.in-Ok-Partial.field-0-is at c.in-Ok-Partial.ensures.partial in
    let some = rw c.in-Ok-Partial.field-0-is at c.in-Ok-Partial.ensures.unfinished in
    let P : List ℕ → Type 0 = λ t. HasNoRequest t in
    let Q : List ℕ → Type 0 = λ t. MayBecomeRequest t in
    ((subst P c.judged-front.ensures none, subst Q c.judged-front.ensures some), c.if-text-lt-MAX_HEAD.false)

pub judge-requires-clause-there : goal.judge-requires-clause-there
judge-requires-clause-there c =
    there_at c.judged-front.result.now c.parse_request.new.headers c.in-Ok-Complete.spans
    (rw c.in-Ok-Complete.field-0-is at c.in-Ok-Complete.ensures.complete)
