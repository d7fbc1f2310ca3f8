-- If the first key found is before the end, it is marked, so there is a mark in the list.
use Rattle.std.proofs.Common.{◌≡◌, ℕ, zero, suc, Bool, true, false, List, [], ◌∷◌, get_or, arith}
use Rattle.std.specs.Prelude.{Contains}
use Rattle.event_loop.proofs.ready_list.ReadyList.look.Goals as goal

-- A key that is marked has a mark in the list.
has_mark : (xs : List Bool) (key : ℕ) → get_or xs key false ≡ true → Contains xs true
has_mark [] key h = cc
has_mark (x ∷ xs) zero h = (0, omega arith, h)
has_mark (x ∷ xs) (suc key) h =
    let r = has_mark xs key h in (suc r.0, omega arith, r.2)

pub returns-clause-any : goal.returns-clause-any
returns-clause-any c some =
    let list = c.args.self.now in
    let low = c.first-low in
    let within = c.end-high.ensures.within in
    has_mark list.marked.items low.result (low.ensures.found (omega (arith, some, within)))
