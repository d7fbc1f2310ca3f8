-- A head is refused for its first fault, CONNECT, an unserved target or want of memory; else it is taken.
use Rattle.std.proofs.Common.{◌≡◌, Bool, false, List, ℕ, None, Ok, refl, sym, ap, ◌∙◌, subst}
use Rattle.httparse.specs.Spans.{span_bytes}
use Rattle.http_side.specs.Heads.{RequestParts, parts_at, request_fault, is_connect, is_options}
use Rattle.http_side.specs.Requests.{IsTaken}
use Rattle.http_side.specs.Targets.{IsServed}
use Rattle.http_side.proofs.RequestLemmas.{refuses, same_test}
use Rattle.http_side.proofs.request.judge.Goals as goal

pub returns-in-Err-clause-refused : goal.returns-in-Err-clause-refused
returns-in-Err-clause-refused c =
    let r = parts_at c.args.text.now c.args.spans c.args.lines.now in
    refuses c.args.adapted r c.in-Err.fault (c.in-Err.ensures.err r refl (sym c.new.ensures))

pub returns-then-eq-clause-refused : goal.returns-then-eq-clause-refused
returns-then-eq-clause-refused c =
    let r = parts_at c.args.text.now c.args.spans c.args.lines.now in (
      c.in-Ok.ensures.ok r refl (sym c.new.ensures),
      sym (same_test _ _ _ _ c.of-method.ensures c.as_slice.ensures) ∙ sym c.eq.ensures ∙ c.if-eq.true,
    )

pub returns-in-Ok-kept-clause-taken : goal.returns-in-Ok-kept-clause-taken
returns-in-Ok-kept-clause-taken c =
    let r = parts_at c.args.text.now c.args.spans c.args.lines.now in
    let no_fault : request_fault r ≡ None = c.in-Ok.ensures.ok r refl (sym c.new.ensures) in
    let other : is_connect r ≡ false = sym (same_test _ _ _ _ c.of-method.ensures c.as_slice.ensures) ∙ sym c.eq.ensures ∙ c.if-eq.false in
    let here : IsServed c.args.adapted c.eq-2.result c.of.result.now =
    c.is_served.ensures.yes (c.in-Ok-true.is ∙ ap Ok c.in-Ok-true.field-0-test) in
    let needs = c.eq-2.ensures ∙ same_test _ _ _ _ c.of-method.ensures c.as_slice-2.ensures in
    let P : Bool → Type 0 = λ b. IsServed c.args.adapted b (span_bytes c.args.text.now c.args.spans.path) in
    let Q : List ℕ → Type 0 = λ t. IsServed c.args.adapted c.eq-2.result t in
    let taken : IsTaken c.args.adapted r = record {
      no_fault = no_fault;
      no_connect = other;
      served = subst P needs (subst Q c.of.ensures here);
    } in
    let T : RequestParts → Type 0 = λ x. IsTaken c.args.adapted x in
    (c.in-Ok-kept.ensures, subst T (sym c.in-Ok-kept.ensures) taken)

pub returns-in-Err-kept-clause-refused : goal.returns-in-Err-kept-clause-refused
returns-in-Err-kept-clause-refused c =
    let r = parts_at c.args.text.now c.args.spans c.args.lines.now in (
      c.in-Ok.ensures.ok r refl (sym c.new.ensures),
      sym (same_test _ _ _ _ c.of-method.ensures c.as_slice.ensures) ∙ sym c.eq.ensures ∙ c.if-eq.false,
    )

pub returns-in-Ok-false-clause-refused : goal.returns-in-Ok-false-clause-refused
returns-in-Ok-false-clause-refused c =
    let r = parts_at c.args.text.now c.args.spans c.args.lines.now in
    let needs = c.eq-2.ensures ∙ same_test _ _ _ _ c.of-method.ensures c.as_slice-2.ensures in
    let P : Bool → Type 0 = λ b. IsServed c.args.adapted b c.of.result.now in
    let Q : List ℕ → Type 0 = λ t. IsServed c.args.adapted (is_options r) t in (
      c.in-Ok.ensures.ok r refl (sym c.new.ensures),
      sym (same_test _ _ _ _ c.of-method.ensures c.as_slice.ensures) ∙ sym c.eq.ensures ∙ c.if-eq.false,
      λ served. c.is_served.ensures.no (c.in-Ok-false.is ∙ ap Ok c.in-Ok-false.field-0-test)
          (subst P (sym needs) (subst Q (sym c.of.ensures) served)),
    )

pub returns-in-Err-is_served-clause-refused : goal.returns-in-Err-is_served-clause-refused
returns-in-Err-is_served-clause-refused c =
    let r = parts_at c.args.text.now c.args.spans c.args.lines.now in (
      c.in-Ok.ensures.ok r refl (sym c.new.ensures),
      sym (same_test _ _ _ _ c.of-method.ensures c.as_slice.ensures) ∙ sym c.eq.ensures ∙ c.if-eq.false,
    )
