-- All URIs that a target spells have one scheme and one authority, so the one that is read decides.
use Rattle.std.proofs.Common.{◌≡◌, Bool, true, false, Option, List, ℕ, sym, ap, ◌∙◌}
use Rattle.http_uri.proofs.Theorems.{Spells_unique}
use Rattle.http_uri.specs.Uri.{uri_scheme, uri_authority}
use Rattle.http_side.specs.Targets.{serves}
use Rattle.http_side.proofs.targets.is_served.Goals as goal

-- false isn't true
false_true : false ≡ true → ⊥
false_true e = cc

-- whether a target is served is the same for the same scheme and authority
same_answer : (a p : Bool) (text : List ℕ) (s t : Option (List ℕ)) (x y : Option (List ℕ)) → s ≡ t → x ≡ y
    → serves a p text s x ≡ serves a p text t y
same_answer a p text s t x y e f = ap (λ z. serves a p text z x) e ∙ ap (serves a p text t) f

pub returns-in-Ok-clause-yes : goal.returns-in-Ok-clause-yes
returns-in-Ok-clause-yes c = λ e. (c.in-Ok.uri, c.in-Ok.ensures.ok, sym c.serves.ensures ∙ (let f : c.serves.result ≡ true = cc e in f))

pub returns-in-Ok-clause-no : goal.returns-in-Ok-clause-no
returns-in-Ok-clause-no c = λ e h.
    let same = Spells_unique c.args.target.now c.in-Ok.uri h.0 c.in-Ok.ensures.ok h.1 in
    let off : c.serves.result ≡ false = cc e in
    false_true (sym off ∙ c.serves.ensures ∙ same_answer c.args.adapted c.args.needs_path c.args.target.now (uri_scheme c.in-Ok.uri)
    (uri_scheme h.0) (uri_authority c.in-Ok.uri) (uri_authority h.0) same.0 same.1 ∙ h.2)
