-- The pages of refusals: one a status, where there is one.
use Rattle.std.specs.Prelude.{ℕ, ◌==◌, List, Bool, ◌&&◌, if◌then◌else◌, Option, Some, None, option_map}
use Rattle.std.specs.List.{list_any}
use Rattle.proxy_config.specs.declared.pages.Pages.{Pages}
use Rattle.proxy_config.specs.declared.pages.TheConstants.{OWN_STATUSES}

-- the page of a status
abbrev pub page_of : Pages → ℕ → Option (List ℕ)
page_of pages status =
    if status == 400 then option_map (λ page. page.items) pages.bad_request
    else if status == 501 then option_map (λ page. page.items) pages.not_implemented
    else if status == 502 then option_map (λ page. page.items) pages.bad_gateway
    else if status == 503 then option_map (λ page. page.items) pages.unavailable
    else if status == 504 then option_map (λ page. page.items) pages.late
    else None

-- the proxy makes refusals of this status itself
abbrev pub is_own : ℕ → Bool
is_own status = list_any (λ own. own == status) OWN_STATUSES

-- the page of a status after a page was set, of this status or of another one
abbrev pub page_after : Pages → ℕ → List ℕ → ℕ → Option (List ℕ)
page_after pages set page status = if is_own set && (status == set) then Some page else page_of pages status
