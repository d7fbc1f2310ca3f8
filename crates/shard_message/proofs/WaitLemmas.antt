-- Turns at asking that found nothing to do now.
use Rattle.std.proofs.Common.{◌≡◌, ℕ, ◌+◌, ◌<◌, ◌≤◌, List, ◌++◌, length, take, Option, Some, None, arith, refl, sym, ◌∙◌, subst, inl, inr}
use Rattle.std.proofs.lemmas.List.{length-append, length-take-le}
use Rattle.std.specs.Prelude.{Result, Ok, Err, IfSome}
use Rattle.adapt_sides.specs.declared.fault.ClientFault.{ClientFault}
use Rattle.adapt_sides.specs.declared.filling.Filled.TheVariants as fills
use Rattle.icap_client.specs.Asking.{Asker, Asks, Call, FitsCall, IsCall}
use Rattle.icap_client.specs.Asking.Call.{offered, filled, rested}
use Rattle.icap_client.specs.declared.options.OptionsStage.TheVariants.{Over}
use Rattle.icap_head.specs.declared.responses.IcapResponse.{IcapResponse}
use Rattle.shard_message.specs.Waits.{MovesNone}
use Rattle.wire_kit.specs.Past.{Past}
use Rattle.wire_kit.specs.declared.wire.Put.TheVariants as put

-- nothing yet
abbrev pub no_answer : Result (Option IcapResponse) ClientFault
no_answer = Ok None

-- no byte went over the wire
abbrev pub Still : (before after : Past → Type 0) → Type 0
Still before after = (p q : Past) → before p → after q → (length q.read ≡ length p.read) × (length q.taken ≡ length p.taken)

-- a text with some more bytes is longer
longer : (read given : List ℕ) → 0 < length given → length (read ++ given) ≡ length read → ⊥
longer read given some same =
    let all : length (read ++ given) ≡ length read + length given = length-append read given in omega (arith, some, same, all)

-- so is one with a part of what waited
part_longer : (taken waiting : List ℕ) (n : ℕ) → 1 ≤ n → n ≤ length waiting → length (taken ++ take n waiting) ≡ length taken → ⊥
part_longer taken waiting n some most same =
    let l : length (take n waiting) ≡ n = length-take-le n waiting most in longer taken (take n waiting) (omega (arith, some, l)) same

-- by what the wire was asked
by_call : (call : Call) (old new : Asker) (before after : Past → Type 0) (given taken : List ℕ)
    → IsCall call before after old given taken → FitsCall call old new given no_answer
    → Still before after → MovesNone (old.stage ≡ Over) before after
by_call (offered (put.Took n)) old new before after given taken wire fits still = λ p b.
    absurd (part_longer p.taken old.waiting n wire.1.fits.0 wire.1.fits.1 (still p _ b (wire.1.each p b)).1)
by_call (offered put.Wait) old new before after given taken wire fits still = λ p b. (_, wire.1.each p b, inr (inl (omega arith)))
by_call (offered put.Fault) old new before after given taken wire fits still = absurd (let odd : no_answer ≡ Err _ = fits in cc)
by_call (filled fills.Bytes) old new before after given taken wire fits still = λ p b.
    let came = wire.2 in absurd (longer p.read came.0 came.1 (still p _ b (came.3 p b)).0)
by_call (filled fills.Wait) old new before after given taken wire fits still = λ p b. (_, wire.2.1 p b, inl (omega arith))
by_call (filled fills.Ended) old new before after given taken wire fits still = absurd (let odd : no_answer ≡ Err _ = fits in cc)
by_call (filled fills.Failed) old new before after given taken wire fits still = absurd (let odd : no_answer ≡ Err _ = fits in cc)
by_call (filled fills.NoMemory) old new before after given taken wire fits still = absurd (let odd : no_answer ≡ Err _ = fits in cc)
by_call rested old new before after given taken wire fits still = λ p b. (p, wire.1 p b, inr (inr fits))

-- a side that answers isn't one with a fault
sound : (X : ClientFault → Type 0) (fault : Option ClientFault) (result : Result (Option IcapResponse) ClientFault)
    → IfSome fault (λ fault. (result ≡ Err fault) × X fault) → result ≡ no_answer → fault ≡ None
sound X None result faulted said = refl
sound X (Some fault) result faulted said = absurd (let odd : no_answer ≡ Err fault = sym said ∙ faulted.0 in cc)

-- a turn that answers nothing, and over whose wire no byte went
pub hears_none : (X : ClientFault → Type 0) (old new : Asker) (before after : Past → Type 0)
    (result : Result (Option IcapResponse) ClientFault)
    → IfSome old.fault (λ fault. (result ≡ Err fault) × X fault) → (old.fault ≡ None → Asks old new before after result)
    → result ≡ no_answer
    → Still before after → MovesNone (old.stage ≡ Over) before after
hears_none X old new before after result faulted asks said still =
    let a = asks (sound X old.fault result faulted said) in
    let fits = subst (λ (r : Result (Option IcapResponse) ClientFault). FitsCall a.call old new a.given r) said a.fits in
    by_call a.call old new before after a.given a.taken a.wire fits still
