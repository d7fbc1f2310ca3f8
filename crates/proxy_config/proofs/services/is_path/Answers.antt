-- The URI that was read stands for the path.
use Rattle.std.proofs.Common.{◌≡◌, true, ℕ, List, refl, subst, rules}
use Rattle.http_uri.specs.Uri.{Spells}
use Rattle.proxy_config.specs.Services.{is_path_text}
use Rattle.proxy_config.proofs.services.is_path.Goals as goal

pub returns-in-Ok : goal.returns-in-Ok
returns-in-Ok c =
    let text : is_path_text c.args.path.now ≡ true = search rules in
    let P : List ℕ → Type 0 = λ bytes. Spells bytes c.in-Ok._uri in
    let spells : Spells c.args.path.now c.in-Ok._uri = subst P c.as_bytes.ensures.value c.in-Ok.ensures.ok in
    (λ _. record { is_text = text; uri = c.in-Ok._uri; spells = spells }, λ _. refl)
