-- The exchange stops and leaves its queue; what goes back after that changes nothing of what its user is owed.
use Rattle.std.proofs.Common.{◌≡◌, ◌∙◌, Bool, true, false, ◌||◌, sym, ap}
use Rattle.exchange_core.specs.declared.phase.Phase.{Phase}
use Rattle.exchange_core.specs.declared.state.CourseState.{CourseState}
use Rattle.exchange_core.specs.May.{is_gone, is_in_queue, is_refusing}
use Rattle.exchange_core.proofs.Stepping.{goes_on}
use Rattle.shard_exchange.specs.Ends.{Frees, Halts, moves, refusal_at}
use Rattle.shard_exchange.specs.Leaving.{IsHalted, IsStopped}
use Rattle.shard_exchange.proofs.exchange.Exchange.halt.Goals as goal

pub returns-then-is_over-clause-goes : goal.returns-then-is_over-clause-goes
returns-then-is_over-clause-goes g c = goes_on _ _ _ c.stop.ensures.goes c.free_gone.ensures.goes

pub returns-else-is_over-clause-goes : goal.returns-else-is_over-clause-goes
returns-else-is_over-clause-goes g c = goes_on _ _ _ c.stop.ensures.goes c.free_gone.ensures.goes

-- what goes back leaves the phase as it is
before : (mid new : Phase) → new ≡ mid → is_in_queue new ≡ false → is_in_queue mid ≡ false
before mid new same out = ap (λ (p : Phase). is_in_queue p) (sym same) ∙ out

pub returns-then-is_over-clause-left : goal.returns-then-is_over-clause-left
returns-then-is_over-clause-left g c = λ point queued out none. c.stop.ensures.left point queued
    (before _ _ c.free_gone.ensures.frees.0 out)

pub returns-else-is_over-clause-left : goal.returns-else-is_over-clause-left
returns-else-is_over-clause-left g c = λ point queued out none. c.stop.ensures.left point queued
    (before _ _ c.free_gone.ensures.frees.0 out)

-- what goes back changes nothing that the user sees
halts_on : (old mid new : CourseState) (begun : Bool) → Halts old mid begun → Frees mid new → Halts old new begun
halts_on old mid new begun halts frees = (
  ap (λ (s : Bool). s || is_gone new.phase) frees.2 ∙ (ap (λ (p : Phase). mid.stopping || is_gone p) frees.0 ∙ halts.0),
  λ text hears. ap (λ (p : Phase). refusal_at p) frees.0 ∙ halts.1 (sym frees.1 ∙ text) hears,
)

-- the exchange has stopped, and what went back, if anything, changes nothing of that
halted : (ends gives_back : CourseState → CourseState → Type 0) (answered begun : Bool) (old mid new : CourseState)
    → IsStopped ends begun old mid → (is_gone mid.phase ≡ true → gives_back mid new) → (is_gone mid.phase ≡ false → new ≡ mid)
    → Halts old mid begun → Frees mid new → (moves old ≡ true → answered ≡ true → is_refusing mid.phase ≡ false)
    → IsHalted ends gives_back answered begun old new
halted ends gives_back answered begun old mid new stopped back kept halts frees alone = record {
  mid = mid;
  stopped = stopped;
  back = back;
  kept = kept;
  stops = halts_on old mid new begun halts frees;
  alone = λ moving some. ap (λ (p : Phase). is_refusing p) frees.0 ∙ alone moving some;
}

pub returns-then-is_over-clause-halts : goal.returns-then-is_over-clause-halts
returns-then-is_over-clause-halts g c = halted _ _ _ _ _ c.stop.new.self.course _ c.stop.ensures.stopped c.free_gone.ensures.back
    c.free_gone.ensures.kept c.stop.ensures.stops c.free_gone.ensures.frees c.stop.ensures.alone

pub returns-else-is_over-clause-halts : goal.returns-else-is_over-clause-halts
returns-else-is_over-clause-halts g c = halted _ _ _ _ _ c.stop.new.self.course _ c.stop.ensures.stopped c.free_gone.ensures.back
    c.free_gone.ensures.kept c.stop.ensures.stops c.free_gone.ensures.frees c.stop.ensures.alone
