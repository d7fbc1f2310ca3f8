-- The first line and the fields give the head or a fault; NoMemory comes only where the fields are whole.
use Rattle.std.proofs.Common.{◌≡◌, inl, drop, rules, subst, codes}
use Rattle.std.proofs.lemmas.Result.{err_from_is_err_and}
use Rattle.icap_head.specs.Methods.{request_method_name}
use Rattle.icap_head.specs.StartLines.{HasNoLine, IsRequestLine}
use Rattle.icap_head.specs.Fields.{field_list}
use Rattle.icap_head.proofs.Refusals.{request_line_refused, request_fields_refused, request_unkept, has_request}
use Rattle.icap_head.proofs.requests.find_request.Goals as goal

pub returns-in_default-clause-err : goal.returns-in_default-clause-err
returns-in_default-clause-err c = inl (inl (c.unended.ensures, subst HasNoLine c.judged-seen.ensures.front c.in_default.ensures.none))

pub returns-in_err-words-clause-err : goal.returns-in_err-words-clause-err
returns-in_err-words-clause-err c =
    let p = err_from_is_err_and c.from_residual.result c.from_residual.ensures.1 in
    rw (p.1, p.2)
    (request_line_refused c.in_err-words.field-0.0 c.args.text.now c.judged-seen.result.now c.in-Some.line.now
    (drop c.in-Some.start c.judged-seen.result.now) c.judged-seen.ensures.front c.in-Some.ensures.some.1 c.in_err-words.ensures.err)

pub returns-in_err-fields-clause-err : goal.returns-in_err-fields-clause-err
returns-in_err-fields-clause-err c =
    let p = err_from_is_err_and c.from_residual-in_err-fields.result c.from_residual-in_err-fields.ensures.1 in
    rw (p.1, p.2)
    (request_fields_refused c.in_err-fields.field-0.0 c.args.text.now c.judged-seen.result.now c.in-Some.line.now
    (drop c.in-Some.start c.judged-seen.result.now) c.judged-seen.ensures.front c.in-Some.ensures.some.1 c.in_ok-words.ensures.ok
    c.in_err-fields.ensures.err)

pub returns-in_default-words-clause-err : goal.returns-in_default-words-clause-err
returns-in_default-words-clause-err c =
    let found = c.in_ok-fields.ensures.found in
    request_unkept c.args.text.now c.judged-seen.result.now c.in-Some.line.now (drop c.in-Some.start c.judged-seen.result.now)
    c.judged-seen.ensures.front c.in-Some.ensures.some.1 c.in_ok-words.ensures.ok
    (field_list c.in_ok-fields.fields) (drop c.in_ok-fields.length c.judged-seen.result.now) found.3 found.2

pub returns-in_err-method-clause-err : goal.returns-in_err-method-clause-err
returns-in_err-method-clause-err c =
    let found = c.in_ok-fields.ensures.found in
    let p = err_from_is_err_and c.from_residual-in_err-method.result c.from_residual-in_err-method.ensures.1 in
    rw (p.1, p.2)
    (request_unkept c.args.text.now c.judged-seen.result.now c.in-Some.line.now (drop c.in-Some.start c.judged-seen.result.now)
    c.judged-seen.ensures.front c.in-Some.ensures.some.1 c.in_ok-words.ensures.ok
    (field_list c.in_ok-fields.fields) (drop c.in_ok-fields.length c.judged-seen.result.now) found.3 found.2)

pub returns-in_err-uri-clause-err : goal.returns-in_err-uri-clause-err
returns-in_err-uri-clause-err c =
    let found = c.in_ok-fields.ensures.found in
    let p = err_from_is_err_and c.from_residual-in_err-uri.result c.from_residual-in_err-uri.ensures.1 in
    rw (p.1, p.2)
    (request_unkept c.args.text.now c.judged-seen.result.now c.in-Some.line.now (drop c.in-Some.start c.judged-seen.result.now)
    c.judged-seen.ensures.front c.in-Some.ensures.some.1 c.in_ok-words.ensures.ok
    (field_list c.in_ok-fields.fields) (drop c.in_ok-fields.length c.judged-seen.result.now) found.3 found.2)

pub returns-clause-ok : goal.returns-clause-ok
returns-clause-ok c =
    let found = c.in_ok-fields.ensures.found in
    let words : IsRequestLine c.in-Some.line.now c.in-Some-words.method.now c.in-Some-words.uri.now (codes "ICAP/1.0") = search rules in
    let method : request_method_name c.in_ok-method.method ≡ c.in-Some-words.method.now = c.in_ok-method.ensures.ok in
    let uri : c.in_ok-uri.uri.items ≡ c.in-Some-words.uri.now = search rules in
    let line : IsRequestLine c.in-Some.line.now (request_method_name c.in_ok-method.method) c.in_ok-uri.uri.items (codes "ICAP/1.0") =
    rw (method, uri) words in
    has_request (record {
      method = request_method_name c.in_ok-method.method;
      uri = c.in_ok-uri.uri.items;
      fields = field_list c.in_ok-fields.fields;
    }) c.args.text.now c.judged-seen.result.now
    c.in-Some.line.now (drop c.in-Some.start c.judged-seen.result.now) c.in_ok-fields.length c.judged-seen.ensures.front found.1
    c.in-Some.ensures.some.1 line found.2 found.3
