-- Where a reader's bytes are known, the first are read, up to one past the limit.
use Rattle.std.proofs.Common.{◌≡◌, ℕ, ◌+◌, List, [], ◌++◌, Option, Some, None, IfSome, take, ap, ◌∙◌, subst}
use Rattle.std.specs.Option.{option_map}
use Rattle.adapt_bytes.specs.declared.limits.TheConstants.{MAX_INPUT}
use Rattle.icapd_commands.proofs.standard_input.read_input.Goals as goal

-- the bytes up to a limit, where they are known
known : (r : Option (List ℕ)) (limit : ℕ) (empty items : List ℕ) → limit ≡ MAX_INPUT + 1 → empty ≡ []
    → IfSome (option_map (take limit) r) (λ xs. items ≡ empty ++ xs)
    → IfSome r (λ bytes. items ≡ take (MAX_INPUT + 1) bytes)
known None limit empty items l n h = tt
known (Some bytes) limit empty items l n h = h ∙ ap (λ e. e ++ take limit bytes) n ∙ ap (λ k. take k bytes) l

pub returns-in-Ok-clause-read : goal.returns-in-Ok-clause-read
returns-in-Ok-clause-read g c =
    let items = c.read_to_end.new.buf.items in
    let same = ap g.R.Read.remaining c.take.ensures.inner in
    subst (λ (r : Option (List ℕ)). IfSome r (λ bytes. items ≡ take (MAX_INPUT + 1) bytes)) same
    (known _ _ _ items c.take.ensures.limit c.new-input.ensures.items c.in-Ok.ensures.bytes)
