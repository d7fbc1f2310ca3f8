-- A document without hosts.
use Rattle.std.proofs.Common.{◌≡◌, [], Some, None, string_bytes, codes, ap}
use Rattle.std.proofs.lemmas.Bool.{false≢true}
use Rattle.std.proofs.lemmas.List.Elements.{All-nil}
use Rattle.toml.specs.Data.{Members, no_members, get_member}
use Rattle.proxy_config.specs.declared.host.Host.{Host}
use Rattle.proxy_config.specs.HostNames.{host_names, names_or_none, HasEach}
use Rattle.proxy_config.specs.Values.{HasAddress}

-- where a document has no hosts its table of names is empty
pub without_names : (document : Members) → get_member (codes "hosts") document ≡ None → host_names document ≡ Some no_members
without_names document none = ap names_or_none none

-- an empty list of hosts is that of an empty table of names
pub has_none : HasEach no_members []
has_none = record {
  none_bad = λ name bad. false≢true bad.0;
  each = λ name has. absurd (false≢true has);
  only = All-nil (λ (host : Host). HasAddress (string_bytes host.name) no_members host.address);
}
