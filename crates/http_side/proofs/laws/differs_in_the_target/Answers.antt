-- A request's text, by the server that it goes to.
use Rattle.std.proofs.Common.{◌≡◌, ℕ, Bool, true, false, List, ◌++◌, ap, sym, subst}
use Rattle.http_side.specs.declared.forward.Message.{Message}
use Rattle.http_side.specs.declared.forward.Message.TheVariants.{Request, Response}
use Rattle.http_side.specs.declared.forward.NextServer.{NextServer}
use Rattle.http_side.specs.declared.writing.Extra.{Extra}
use Rattle.http_side.specs.Heads.{RequestParts}
use Rattle.http_side.specs.Targets.{authority_of, origin_form, absolute_form}
use Rattle.http_side.specs.Forward.{added_fields, extra_of, head_text, is_absolute, request_line, target_form, written_head}
use Rattle.http_side.specs.Laws.{IsRequestOf, forwarded_fields, minor_of, passed_fields}
use Rattle.http_side.proofs.laws.differs_in_the_target.Goals as goal

-- the text of a request, in the one form or the other
text_of : (m : Message) (r : RequestParts) (authority : List ℕ) (absolute : Bool) (extra : Extra) → IsRequestOf r m
    → written_head m authority absolute extra
    ≡ head_text (request_line r.method (target_form absolute authority r.target))
    (passed_fields authority m ++ added_fields extra (minor_of m))
text_of (Request x) r authority absolute extra e =
    ap (λ (z : RequestParts). head_text (request_line z.method (target_form absolute authority z.target))
    (passed_fields authority (Request x) ++ added_fields extra (minor_of (Request x)))) e
text_of (Response x) r authority absolute extra e = absurd e

pub returns-clause-origin : goal.returns-clause-origin
returns-clause-origin c = λ f r is_it to.
    let authority = authority_of f.user.now.target in
    subst (λ (s : NextServer). written_head f.message authority (is_absolute s) (extra_of f)
    ≡ head_text (request_line r.method (origin_form r.target)) (forwarded_fields f)) (sym to)
    (text_of f.message r authority false (extra_of f) is_it)

pub returns-clause-parent : goal.returns-clause-parent
returns-clause-parent c = λ f r is_it to.
    let authority = authority_of f.user.now.target in
    subst (λ (s : NextServer). written_head f.message authority (is_absolute s) (extra_of f)
    ≡ head_text (request_line r.method (absolute_form authority r.target)) (forwarded_fields f)) (sym to)
    (text_of f.message r authority true (extra_of f) is_it)
