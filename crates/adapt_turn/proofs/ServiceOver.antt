-- A service's connection that is held, and one that was given up.
use Rattle.std.proofs.Common.{◌≡◌, ℕ, Bool, List, Option, Some, None, ap, ◌∙◌, sym, subst}
use Rattle.trace_core.specs.declared.history.Seen.{Seen}
use Rattle.adapt_sides.specs.declared.source.Source.{Ghosts as Source}
use Rattle.adapt_sides.specs.declared.service.Service.{Ghosts as Service}
use Rattle.adapt_sides.specs.declared.hop.Hop.{Ghosts as Hop}
use Rattle.adapt_hold.specs.Holding.{Holding}
use Rattle.adapt_turn.specs.declared.ends.ServiceEnd.{ServiceEnd}
use Rattle.adapt_turn.specs.ChosenHead.{without_wire}
use Rattle.adapt_turn.specs.Stands.{Texts, Stands}
use Rattle.adapt_turn.proofs.Together.{views_by}

abbrev service_end : {V W : Type 0} → V → Option W → ServiceEnd V W
service_end side wire = record { side = side; wire = wire }

-- it is held
pub held_is : {V W : Type 0} (service : Option (ServiceEnd V W)) (line : ServiceEnd V W) (wire : W) → service ≡ Some line
    → line.wire ≡ Some wire → service ≡ Some (record { side = line.side; wire = Some wire })
held_is {V} {W} service line wire s w = s ∙ ap (λ (z : Option W). Some (service_end line.side z)) w

-- what stands is said of the service's side alone
pub freed : {S H V W K G : Type 0} (s : Source S H) (v : Service V) (k : Hop K G)
    (makes : H → Seen → Option (List ℕ) → Bool → List ℕ → G → Type 0)
    (h : Holding) (source : S) (line line' : Option (ServiceEnd V W)) (next back : K) (refusing : Bool) (request : List ℕ) (t : Texts)
    → line' ≡ without_wire line
    → Stands h (views_by s v k makes source line next back refusing) request t
    → Stands h (views_by s v k makes source line' next back refusing) request t
freed {S} {H} {V} {W} s v k makes h source line line' next back refusing request t e p =
    subst (λ (z : Option (ServiceEnd V W)). Stands h (views_by s v k makes source z next back refusing) request t) (sym e) (at line p)
  where
    at : (z : Option (ServiceEnd V W)) → Stands h (views_by s v k makes source z next back refusing) request t
        → Stands h (views_by s v k makes source (without_wire z) next back refusing) request t
    at None q = q
    at (Some l) q = q
