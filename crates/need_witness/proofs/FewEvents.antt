-- The script of the table has at most seven events.
use Rattle.std.proofs.Common.{◌≡◌, ℕ, ◌+◌, ◌-◌, ◌≤◌, Bool, true, false, if◌then◌else◌, not, ◌&&◌, List, [], ◌∷◌, ◌++◌, length, Option, Some}
use Rattle.std.proofs.Common.{None, arith, subst, sym}
use Rattle.std.specs.Prelude.{nat_lt, min}
use Rattle.std.proofs.lemmas.List.{length-append}
use Rattle.trace_core.specs.declared.tape.Tape.{Tape}
use Rattle.trace_core.specs.declared.tape.Tape.TheVariants.{Original, Adapted}
use Rattle.trace_core.specs.declared.history.Event.{Event}
use Rattle.trace_core.specs.declared.history.Event.TheVariants.{In, End, Svc, Stop, Heard, NoMod, Usr}
use Rattle.trace_core.specs.declared.history.Seen.{Seen}
use Rattle.trace_core.specs.History.{is_preview}
use Rattle.trace_core.specs.Legal.{open_preview}
use Rattle.trace_core.specs.Faults.{chooses_original, is_final, is_sending_over}
use Rattle.need_witness.specs.Table.{script_of, original_script, early_script, preview_script, fill_preview, more_in, end_body}
use Rattle.need_witness.specs.Table.{close_preview, sends_all, answer_and_send}

-- either has no more
few_if : (b : Bool) (n : ℕ) (xs ys : List Event) → length xs ≤ n → length ys ≤ n → length (if b then xs else ys) ≤ n
few_if true n xs ys x y = x
few_if false n xs ys x y = y

-- both together
few_then : (m n : ℕ) (xs ys : List Event) → length xs ≤ m → length ys ≤ n → length (xs ++ ys) ≤ m + n
few_then m n xs ys x y = let e = length-append xs ys in omega (arith, e, x, y)

-- a 204 and what goes out after it are at most three events
few_answer : (heard : Bool) (place : ℕ) → length (answer_and_send heard place) ≤ 3
few_answer true place = omega arith
few_answer false place = omega arith

-- the rest of a preview and its last chunk are at most two events
few_close : (size received sent : ℕ) → length (close_preview size received sent) ≤ 2
few_close size received sent = few_then 1 1 (if nat_lt sent (min size received) then Svc (min size received - sent) ∷ [] else [])
    (Stop ∷ [])
    (few_if (nat_lt sent (min size received)) 1 (Svc (min size received - sent) ∷ []) [] (omega arith) (omega arith)) (omega arith)

-- the script for a place in a preview before its last chunk has at most seven events
few_early : (size : Option ℕ) (x : Seen) (place : ℕ) → length (early_script size x place) ≤ 7
few_early None x place = omega arith
few_early (Some size) x place =
    let full = fill_preview size x.plan.len x.received x.ended in
    few_then 1 6 (more_in x.received full) _ (few_if (nat_lt x.received full) 1 (In (full - x.received) ∷ []) [] (omega arith)
    (omega arith))
    (few_then 1 5 (end_body size full x.ended) _ (few_if (nat_lt full size && not x.ended) 1 (End ∷ []) [] (omega arith) (omega arith))
    (few_then 2 3 (close_preview size full x.sent) _ (few_close size full x.sent) (few_answer x.heard place)))

-- a 204 and what goes out after it are no more than the seven events that any script may have
few_answers : (heard : Bool) (place : ℕ) → length (answer_and_send heard place) ≤ 7
few_answers heard place = let few = few_answer heard place in omega (arith, few)

-- the script of the table has at most seven events, on either tape
pub few_events : (tape : Tape) (x : Seen) (place : ℕ) → length (script_of tape x place) ≤ 7
few_events Adapted x place = omega arith
few_events Original x place =
    few_if (chooses_original x) 7 (Usr (place + 1 - x.original_delivered) ∷ []) _ (omega arith)
    (few_if (x.modified && not (is_sending_over x)) 7 (Svc (place + 1 - x.sent) ∷ []) _ (omega arith)
    (few_if (not (is_final x) && not x.plan.allow && sends_all x) 7 (Svc (place + 1 - x.sent) ∷ []) _ (omega arith)
    (few_if (not (is_final x) && x.plan.allow && sends_all x) 7 (answer_and_send x.heard place) _ (few_answers x.heard place)
    (few_if (not (is_final x) && is_preview x.plan.kind && x.stopped) 7 (answer_and_send x.heard place) _ (few_answers x.heard place)
    (few_early (open_preview x) x place)))))
