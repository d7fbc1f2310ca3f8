-- More still applies after a piece that ends no line and that the last line can take, below the limit of a head.
use Rattle.std.proofs.Common.{sym, ◌∙◌, arith}
use Rattle.std.proofs.lemmas.List.{take_rest}
use Rattle.icap_head.specs.StartLines.{RequestForm, StatusForm}
use Rattle.icap_head.proofs.LineFront.{goes_on, first_goes_on, lacks_of, some_of}
use Rattle.icap_head.proofs.line_front.is_still_front.Goals as goal

pub returns-then-start-eq0-clause-requests : goal.returns-then-start-eq0-clause-requests
returns-then-start-eq0-clause-requests c = λ told. first_goes_on RequestForm c.args.front.now c.args.piece.now c.last_line-start.result
    (omega (arith, c.if-piece-saturating_sub.false, c.saturating_sub.ensures))
    (lacks_of c.args.piece.now (sym c.contains.ensures.value ∙ c.if-contains.false)) c.last_line-start.ensures c.if-start-eq0.true

pub returns-then-start-eq0-clause-responses : goal.returns-then-start-eq0-clause-responses
returns-then-start-eq0-clause-responses c = λ told. first_goes_on StatusForm c.args.front.now c.args.piece.now c.last_line-start.result
    (omega (arith, c.if-piece-saturating_sub.false, c.saturating_sub.ensures))
    (lacks_of c.args.piece.now (sym c.contains.ensures.value ∙ c.if-contains.false)) c.last_line-start.ensures c.if-start-eq0.true

pub returns-in-Some-clause-requests : goal.returns-in-Some-clause-requests
returns-in-Some-clause-requests c = λ told.
    let next = some_of c.behind_all-in-Some.result c.is_some.result c.behind_all-in-Some.ensures c.is_some.ensures told in
    goes_on RequestForm c.args.front.now c.args.piece.now _ c.last_line-start.result c.in-Some.place next.0
    (omega (arith, c.if-piece-saturating_sub.false, c.saturating_sub.ensures))
    (lacks_of c.args.piece.now (sym c.contains.ensures.value ∙ c.if-contains.false)) c.last_line-start.ensures
    (take_rest c.args.front.now c.last_line-start.result) c.in-Some.ensures next.1

pub returns-in-Some-clause-responses : goal.returns-in-Some-clause-responses
returns-in-Some-clause-responses c = λ told.
    let next = some_of c.behind_all-in-Some.result c.is_some.result c.behind_all-in-Some.ensures c.is_some.ensures told in
    goes_on StatusForm c.args.front.now c.args.piece.now _ c.last_line-start.result c.in-Some.place next.0
    (omega (arith, c.if-piece-saturating_sub.false, c.saturating_sub.ensures))
    (lacks_of c.args.piece.now (sym c.contains.ensures.value ∙ c.if-contains.false)) c.last_line-start.ensures
    (take_rest c.args.front.now c.last_line-start.result) c.in-Some.ensures next.1
