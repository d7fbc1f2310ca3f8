-- A line without a space, without a version before it or a status after it is refused as a start line.
use Rattle.std.proofs.Common.{ℕ, List, inl, IsTrue, false, subst, sym, refl}
use Rattle.icap_head.specs.StartLines.{IsVersion, IsStatus, IsStatusLine, StatusForm, RefusesStartLine}
use Rattle.icap_head.specs.declared.reading.HeadFault.TheVariants.{StartLine}
use Rattle.icap_head.proofs.Lacking.{false_true}
use Rattle.icap_head.proofs.Statuses.{status_words, no_status_word}
use Rattle.icap_head.proofs.start_lines.read_status_line.Goals as goal

-- a line that is no status line, whatever its parts, is refused as a start line
no_form : (line : List ℕ) → ((n : ℕ) (p v : List ℕ) → IsStatusLine line n p v → ⊥) → RefusesStartLine StatusForm StartLine line
no_form line none = inl (refl, λ v form. none form.0 form.1 v form.2)

pub returns-in_default-clause-err : goal.returns-in_default-clause-err
returns-in_default-clause-err c = no_form c.args.line.now (λ n p v h. no_status_word c.args.line.now n p v c.in_default.ensures.none h)

pub returns-then-not-is_version-clause-err : goal.returns-then-not-is_version-clause-err
returns-then-not-is_version-clause-err c = no_form c.args.line.now (λ n p v h.
    let some = c.in-Some.ensures.some in
    let words = status_words c.args.line.now c.in-Some.version.now c.in-Some.rest.now n p v some.0 some.1 h in
    let wrong : IsTrue false = c.if-not-is_version.ensures.1 (subst IsVersion (sym words.0) h.version_is) in
    false_true wrong)

pub returns-in_default-read_status-clause-err : goal.returns-in_default-read_status-clause-err
returns-in_default-read_status-clause-err c = no_form c.args.line.now (λ n p v h.
    let some = c.in-Some.ensures.some in
    let words = status_words c.args.line.now c.in-Some.version.now c.in-Some.rest.now n p v some.0 some.1 h in
    c.in_default-read_status.ensures.none n p (subst (λ t. IsStatus t n p) (sym words.1) h.status_is))
