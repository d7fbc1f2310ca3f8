-- Two texts, one after another.
use Rattle.std.proofs.Common.{◌≡◌, ℕ, List, ◌++◌, Result, Ok, Err, OnOk, ap, ◌∙◌, append_assoc}
use Rattle.event_loop.specs.Overview.{counts_text}
use Rattle.event_loop.proofs.overview.write_counts.Goals as goal

-- what a second text is added to has the first one at its end
joined : {T E : Type 0} (r : Result T E) (new mid old x y : List ℕ)
    → mid ≡ old ++ x → OnOk r (new ≡ mid ++ y) → OnOk r (new ≡ old ++ (x ++ y))
joined (Ok a) new mid old x y e h = h ∙ ap (λ (l : List ℕ). l ++ y) e ∙ append_assoc old x y
joined (Err a) new mid old x y e h = h

pub returns : goal.returns
unfolding counts_text
returns c = joined c.write_counted-2.result _ _ _ _ _ c.in_ok-write_counted.ensures c.write_counted-2.ensures
