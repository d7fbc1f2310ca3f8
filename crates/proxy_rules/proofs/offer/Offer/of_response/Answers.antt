-- Where a response is offered, its service gets the head of the user's own request and that of the response.
use Rattle.std.proofs.Common.{◌≡◌, ℕ, List, Option, Some, IfOk, ap, sym, subst, ◌∙◌}
use Rattle.std.specs.Option.{option_copied}
use Rattle.proxy_config.specs.declared.point.ServicePoint.{ServicePoint}
use Rattle.proxy_rules.specs.Offers.{AsksFor, offered_request, offered_response}
use Rattle.proxy_rules.proofs.offer.Offer.of_response.Goals as goal

pub returns-clause-text : goal.returns-clause-text
returns-clause-text c =
    let asks : Option ServicePoint → List ℕ → List ℕ → Type 0 =
    λ service req res. IfOk c.to.result (AsksFor service c.args.from c.args.carried.now req res) in
    let service : option_copied c.args.service ≡ Some c.in-Some.service.now = ap option_copied c.in-Some.is in
    let req : c.deref.result.now ≡ offered_request c.args.user.now = c.deref.ensures.value ∙ c.in_ok-req.ensures.text in
    let res : c.deref-2.result.now ≡ offered_response c.args.response.now = c.deref-2.ensures.value ∙ c.in_ok-res.ensures.text in
    subst (λ (s : Option ServicePoint). asks s (offered_request c.args.user.now) (offered_response c.args.response.now)) (sym service)
    (subst (λ (q : List ℕ). asks (Some c.in-Some.service.now) q (offered_response c.args.response.now)) req
    (subst (λ (r : List ℕ). asks (Some c.in-Some.service.now) c.deref.result.now r) res c.to.ensures.text))
