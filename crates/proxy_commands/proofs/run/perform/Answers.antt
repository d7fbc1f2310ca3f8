-- The output or the refusal for the bytes that were read is that for all of the input.
use Rattle.std.proofs.Common.{◌≡◌, ℕ, ◌+◌, List, IfSome, map, string_bytes, take, sym, subst}
use Rattle.adapt_bytes.specs.declared.limits.TheConstants.{MAX_INPUT}
use Rattle.proxy_commands.specs.Run.{IsCommandOutput}
use Rattle.proxy_commands.proofs.Runs.{answered, on_ok, failed}
use Rattle.proxy_commands.proofs.run.perform.Goals as goal

pub returns-clause-failed : goal.returns-clause-failed
returns-clause-failed g c =
    let known = g.R.Read.remaining c.args.reader in
    let read = subst (λ (x : List ℕ). IfSome known (λ bytes. x ≡ take (MAX_INPUT + 1) bytes)) (sym c.as_slice.ensures.value)
    c.in_ok-input.ensures.read in
    failed (map string_bytes c.args.args.now) known c.in-Some.command c.as_slice.result.now _ c.in-Some.ensures.found read c.in-Err.ensures

pub returns-in-Ok-clause-done : goal.returns-in-Ok-clause-done
returns-in-Ok-clause-done g c =
    let known = g.R.Read.remaining c.args.reader in
    let read = subst (λ (x : List ℕ). IfSome known (λ bytes. x ≡ take (MAX_INPUT + 1) bytes)) (sym c.as_slice.ensures.value)
    c.in_ok-input.ensures.read in
    let answer = subst (λ (x : List ℕ). IsCommandOutput c.in-Some.command c.as_slice.result.now x) (sym c.as_slice-in-Ok.ensures.value)
    c.in-Ok.ensures in
    on_ok _ _ c.write_out.result (λ written. answered (map string_bytes c.args.args.now) known c.in-Some.command _ _ _ _
    c.in-Some.ensures.found read answer written) c.write_out.ensures.written
