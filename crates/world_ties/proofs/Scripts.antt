-- Of a held byte's script only the first event may bring bytes, and none is a retry.
use Rattle.std.proofs.Common.{◌≡◌, ℕ, ◌+◌, ◌-◌, ◌⊎◌, inl, inr, min, Bool, true, false, not, ◌&&◌, List, [], ◌∷◌, ◌++◌, Option, Some, None}
use Rattle.std.proofs.Common.{refl}
use Rattle.std.specs.Prelude.{nat_lt}
use Rattle.std.proofs.lemmas.Bool.{cond_both}
use Rattle.trace_core.specs.declared.history.Event.{Event}
use Rattle.trace_core.specs.declared.history.Event.TheVariants.{In, End, Svc, Stop, Usr}
use Rattle.trace_core.specs.declared.history.Seen.{Seen}
use Rattle.trace_core.specs.declared.tape.Tape.{Tape}
use Rattle.trace_core.specs.declared.tape.Tape.TheVariants.{Original, Adapted}
use Rattle.trace_core.specs.History.{is_preview, is_retry}
use Rattle.trace_core.specs.Legal.{open_preview}
use Rattle.trace_core.specs.Faults.{chooses_original, is_final, is_sending_over}
use Rattle.need_witness.specs.Table.{script_of, original_script, early_script, sends_all, answer_and_send, close_preview, end_body}
use Rattle.need_witness.specs.Table.{fill_preview}
use Rattle.adapt_hold.specs.Holding.{BringsNone}

-- no event brings bytes, and none is a retry
abbrev pub AreQuiet : List Event → Type 0
AreQuiet [] = Unit {0}
AreQuiet (event ∷ script) = BringsNone event × (is_retry event ≡ false) × AreQuiet script

-- bytes of the source come first
pub record FirstIn (script : List Event) : Type 0 where
  pub count : ℕ
  pub rest : List Event
  pub is : script ≡ In count ∷ rest
  pub quiet : AreQuiet rest

-- how a script begins
abbrev pub IsScripted : List Event → Type 0
IsScripted script = AreQuiet script ⊎ FirstIn script

-- two lists of events without bytes and retries are one such list together
quiet_join : (xs ys : List Event) → AreQuiet xs → AreQuiet ys → AreQuiet (xs ++ ys)
quiet_join [] ys p q = q
quiet_join (x ∷ xs) ys p q = (p.0, p.1, quiet_join xs ys p.2 q)

-- a 204 and the original that goes out after it bring no bytes, and no retry is among them
quiet_answer : (heard : Bool) (place : ℕ) → AreQuiet (answer_and_send heard place)
quiet_answer true place = (tt, refl, (tt, refl, tt))
quiet_answer false place = (tt, refl, (tt, refl, (tt, refl, tt)))

-- the rest of a preview and its last chunk bring no bytes, and no retry is among them
quiet_close : (size received sent : ℕ) → AreQuiet (close_preview size received sent)
quiet_close size received sent =
    cond_both (nat_lt sent (min size received)) (Svc (min size received - sent) ∷ []) []
    (λ first. AreQuiet (first ++ Stop ∷ []))
    (λ yes. (tt, refl, (tt, refl, tt))) (λ no. (tt, refl, tt))

-- the end of a preview's body brings no bytes, and is no retry
quiet_end : (size full : ℕ) (ended : Bool) → AreQuiet (end_body size full ended)
quiet_end size full ended =
    cond_both (nat_lt full size && not ended) (End ∷ []) [] AreQuiet (λ yes. (tt, refl, tt)) (λ no. tt)

-- a preview: more of it comes, or nothing more does
scripted_early : (size : Option ℕ) (x : Seen) (place : ℕ) → IsScripted (early_script size x place)
scripted_early None x place = inl tt
scripted_early (Some size) x place =
    let full = fill_preview size x.plan.len x.received x.ended in
    let rest = end_body size full x.ended ++ (close_preview size full x.sent ++ answer_and_send x.heard place) in
    let quiet : AreQuiet rest =
    quiet_join (end_body size full x.ended) (close_preview size full x.sent ++ answer_and_send x.heard place)
    (quiet_end size full x.ended)
    (quiet_join (close_preview size full x.sent) (answer_and_send x.heard place)
    (quiet_close size full x.sent) (quiet_answer x.heard place)) in
    cond_both (nat_lt x.received full) (In (full - x.received) ∷ []) [] (λ first. IsScripted (first ++ rest))
    (λ yes. inr (record { count = full - x.received; rest = rest; is = refl; quiet = quiet })) (λ no. inl quiet)

-- at most the first event of an original place's script brings bytes, the source's, and none is a retry
scripted_original : (x : Seen) (place : ℕ) → IsScripted (original_script x place)
scripted_original x place =
    let one : (event : Event) → BringsNone event → is_retry event ≡ false → IsScripted (event ∷ []) =
    λ event b r. inl (b, r, tt) in
    let answer : IsScripted (answer_and_send x.heard place) = inl (quiet_answer x.heard place) in
    cond_both (chooses_original x) _ _ IsScripted (λ yes. one (Usr (place + 1 - x.original_delivered)) tt refl)
    (λ a. cond_both (x.modified && not (is_sending_over x)) _ _ IsScripted (λ yes. one (Svc (place + 1 - x.sent)) tt refl)
    (λ b. cond_both (not (is_final x) && not x.plan.allow && sends_all x) _ _ IsScripted (λ yes. one (Svc (place + 1 - x.sent)) tt refl)
    (λ d. cond_both (not (is_final x) && x.plan.allow && sends_all x) _ _ IsScripted (λ yes. answer)
    (λ e. cond_both (not (is_final x) && is_preview x.plan.kind && x.stopped) _ _ IsScripted (λ yes. answer)
    (λ f. scripted_early (open_preview x) x place)))))

-- at most the first event of a place's script brings bytes, the source's, whichever the body; none is a retry
pub scripted : (tape : Tape) (x : Seen) (place : ℕ) → IsScripted (script_of tape x place)
scripted Adapted x place = inl (tt, refl, tt)
scripted Original x place = scripted_original x place
