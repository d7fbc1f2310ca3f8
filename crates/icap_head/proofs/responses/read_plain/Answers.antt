-- The status line and the fields give the head or a fault; NoMemory comes only where there is a head.
use Rattle.std.proofs.Common.{◌≡◌, inl, inr, drop, rules, subst, codes, refl}
use Rattle.std.proofs.lemmas.Result.{err_from_is_err_and}
use Rattle.icap_head.specs.StartLines.{HasNoLine, IsStatusLine}
use Rattle.icap_head.specs.Fields.{field_list}
use Rattle.icap_head.specs.Heads.{Response}
use Rattle.icap_head.proofs.Refusals.{status_line_refused, response_fields_refused, has_response}
use Rattle.icap_head.proofs.responses.read_plain.Goals as goal

pub returns-in_default-clause-err : goal.returns-in_default-clause-err
returns-in_default-clause-err c = inr (inl (c.unended.ensures, subst HasNoLine c.judged-seen.ensures.front c.in_default.ensures.none))

pub returns-in_err-status-clause-err : goal.returns-in_err-status-clause-err
returns-in_err-status-clause-err c =
    let p = err_from_is_err_and c.from_residual.result c.from_residual.ensures.1 in
    rw (p.1, p.2)
    (status_line_refused c.in_err-status.field-0.0 c.args.text.now c.judged-seen.result.now c.in-Some.line.now
    (drop c.in-Some.start c.judged-seen.result.now) c.judged-seen.ensures.front c.in-Some.ensures.some.1 c.in_err-status.ensures.err)

pub returns-in_err-fields-clause-err : goal.returns-in_err-fields-clause-err
returns-in_err-fields-clause-err c =
    let p = err_from_is_err_and c.from_residual-in_err-fields.result c.from_residual-in_err-fields.ensures.1 in
    rw (p.1, p.2)
    (response_fields_refused c.in_err-fields.field-0.0 c.args.text.now c.judged-seen.result.now c.in-Some.line.now
    (drop c.in-Some.start c.judged-seen.result.now) c.in_ok-status.status c.in_ok-status.phrase.now c.judged-seen.ensures.front
    c.in-Some.ensures.some.1 c.in_ok-status.ensures.ok c.in_err-fields.ensures.err)

pub returns-in_err-phrase-clause-err : goal.returns-in_err-phrase-clause-err
returns-in_err-phrase-clause-err c =
    let found = c.in_ok-fields.ensures.found in
    let p = err_from_is_err_and c.from_residual-in_err-phrase.result c.from_residual-in_err-phrase.ensures.1 in
    let value : Response = record {
      status = c.in_ok-status.status;
      phrase = c.in_ok-status.phrase.now;
      fields = field_list c.in_ok-fields.fields;
    } in
    rw (p.1, p.2)
    (inl (
      refl,
      (
        value,
        c.in_ok-fields.length,
        has_response value c.args.text.now c.judged-seen.result.now c.in-Some.line.now (drop c.in-Some.start c.judged-seen.result.now)
            c.in_ok-fields.length
            c.judged-seen.ensures.front found.1 c.in-Some.ensures.some.1 c.in_ok-status.ensures.ok found.2 found.3,
      ),
    ))

pub returns-clause-ok : goal.returns-clause-ok
returns-clause-ok c =
    let found = c.in_ok-fields.ensures.found in
    let phrase : c.in_ok-phrase.phrase.items ≡ c.in_ok-status.phrase.now = search rules in
    let line : IsStatusLine c.in-Some.line.now c.in_ok-status.status c.in_ok-phrase.phrase.items (codes "ICAP/1.0") =
    rw phrase c.in_ok-status.ensures.ok in
    has_response (record {
      status = c.in_ok-status.status;
      phrase = c.in_ok-phrase.phrase.items;
      fields = field_list c.in_ok-fields.fields;
    }) c.args.text.now c.judged-seen.result.now
    c.in-Some.line.now (drop c.in-Some.start c.judged-seen.result.now) c.in_ok-fields.length c.judged-seen.ensures.front found.1
    c.in-Some.ensures.some.1 line found.2 found.3
