-- Each line is what is written: words alone, or a name between words.
use Rattle.std.proofs.Common.{◌≡◌, ◌∙◌, ◌++◌, List, ℕ, codes, sym, ap}
use Rattle.proxy_commands.specs.ServeErrors.{line_end, serve_error_text}
use Rattle.proxy_commands.proofs.ServeForms.{says}
use Rattle.proxy_commands.proofs.serve_error.put_error.Goals as goal

pub returns-in-Key : goal.returns-in-Key
returns-in-Key g c =
    says _ _ _ _ c.put_named.result
    (ap serve_error_text c.in-Key.is ∙ ap (λ (t : List ℕ). (codes "adaptproxy: config " ++ t) ++ codes "\n") (sym c.as_bytes.ensures.value))
    c.put_named.ensures

pub returns-in-KeyLine : goal.returns-in-KeyLine
returns-in-KeyLine g c =
    let end : c.as_slice-in-KeyLine.result.now ≡ line_end c.in-KeyLine.number = c.as_slice-in-KeyLine.ensures.value ∙ c.line_end.ensures in
    says _ _ _ _ c.put_named-in-KeyLine.result
    (ap serve_error_text c.in-KeyLine.is
    ∙ ap (λ (t : List ℕ). (codes "adaptproxy: config " ++ t) ++ line_end c.in-KeyLine.number) (sym c.as_bytes-in-KeyLine.ensures.value)
    ∙ ap (λ (t : List ℕ). (codes "adaptproxy: config " ++ c.as_bytes-in-KeyLine.result.now) ++ t) (sym end))
    c.put_named-in-KeyLine.ensures

pub returns-in-CannotRead : goal.returns-in-CannotRead
returns-in-CannotRead g c =
    says _ _ _ _ c.put_named-in-CannotRead.result
    (ap serve_error_text c.in-CannotRead.is
    ∙ ap (λ (t : List ℕ). (codes "adaptproxy: cannot read: " ++ t) ++ codes "\n") (sym c.as_bytes-in-CannotRead.ensures.value))
    c.put_named-in-CannotRead.ensures

pub returns-in-CannotListenOn : goal.returns-in-CannotListenOn
returns-in-CannotListenOn g c =
    says _ _ _ _ c.put_named-in-CannotListenOn.result
    (ap serve_error_text c.in-CannotListenOn.is
    ∙ ap (λ (t : List ℕ). (codes "adaptproxy: cannot listen: " ++ t) ++ codes "\n") (sym c.as_bytes-in-CannotListenOn.ensures.value))
    c.put_named-in-CannotListenOn.ensures

pub returns-in-CannotListen : goal.returns-in-CannotListen
returns-in-CannotListen g c =
    says _ _ _ _ c.write_all-in-CannotListen.result (ap serve_error_text c.in-CannotListen.is) c.write_all-in-CannotListen.ensures.bytes

pub returns-in-NoAnswer : goal.returns-in-NoAnswer
returns-in-NoAnswer g c =
    says _ _ _ _ c.write_all-in-NoAnswer.result (ap serve_error_text c.in-NoAnswer.is) c.write_all-in-NoAnswer.ensures.bytes

pub returns-in-AuditMissing : goal.returns-in-AuditMissing
returns-in-AuditMissing g c =
    says _ _ _ _ c.write_all-in-AuditMissing.result (ap serve_error_text c.in-AuditMissing.is) c.write_all-in-AuditMissing.ensures.bytes
