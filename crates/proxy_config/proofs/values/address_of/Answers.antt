-- A value that isn't text has no address, and a text has its own alone.
use Rattle.std.proofs.Common.{◌≡◌, rules, Some, None}
use Rattle.toml.specs.View.{view}
use Rattle.toml.specs.Data.{as_str}
use Rattle.proxy_config.proofs.Addresses.{no_text, no_address, if_none_then}
use Rattle.proxy_config.proofs.values.address_of.Goals as goal

pub returns-in-Some-clause-none : goal.returns-in-Some-clause-none
returns-in-Some-clause-none c =
    let text : as_str (view c.args.value.now) ≡ Some c.as_bytes.result.now = search rules in
    if_none_then
    c.address_in.result
    (no_address (view c.args.value.now) c.as_bytes.result.now text)
    c.address_in.ensures.none

pub returns-in-None-clause-none : goal.returns-in-None-clause-none
returns-in-None-clause-none c =
    let none : as_str (view c.args.value.now) ≡ None = search rules in
    λ address says. no_text (view c.args.value.now) address none says
