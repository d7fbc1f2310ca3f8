-- The configuration or the refusal that the bytes read give is that of all the reader's bytes.
use Rattle.std.proofs.Common.{◌≡◌, ℕ, ◌+◌, List, IfSome, take, sym, subst}
use Rattle.adapt_bytes.specs.declared.limits.TheConstants.{MAX_INPUT}
use Rattle.proxy_commands.proofs.ServeForms.{configured, unconfigured}
use Rattle.proxy_commands.proofs.serve.read_configuration.Goals as goal

pub returns-in-Ok-clause-ok : goal.returns-in-Ok-clause-ok
returns-in-Ok-clause-ok g c =
    let known = g.R.Read.remaining c.args.reader in
    let read = subst (λ (x : List ℕ). IfSome known (λ bytes. x ≡ take (MAX_INPUT + 1) bytes)) (sym c.as_slice.ensures.value)
    c.in-Ok.ensures.read in
    configured known c.as_slice.result.now c.configuration_of.result read c.configuration_of.ensures.ok

pub returns-in-Ok-clause-err : goal.returns-in-Ok-clause-err
returns-in-Ok-clause-err g c =
    let known = g.R.Read.remaining c.args.reader in
    let read = subst (λ (x : List ℕ). IfSome known (λ bytes. x ≡ take (MAX_INPUT + 1) bytes)) (sym c.as_slice.ensures.value)
    c.in-Ok.ensures.read in
    unconfigured known c.as_slice.result.now c.configuration_of.result read c.configuration_of.ensures.err
