-- What the events of one side leave to the others.
use Rattle.std.proofs.Common.{◌≡◌, ℕ, ◌+◌, ◌≤◌, Bool, true, false, not, ◌&&◌, List, [], ◌∷◌, ◌++◌, length, take, drop, Option, Some, None}
use Rattle.std.proofs.Common.{arith, refl, sym, ◌∙◌, ap, subst}
use Rattle.std.proofs.lemmas.Bool.{false≢true}
use Rattle.std.proofs.lemmas.List.{append-nil, append_assoc, length-append, length-drop, length-take-le}
use Rattle.std.proofs.Math.Seq.{take-add}
use Rattle.trace_core.specs.declared.history.Seen.{Seen}
use Rattle.trace_core.specs.declared.history.Plan.{Plan}
use Rattle.trace_core.specs.declared.history.Event.{Event}
use Rattle.trace_core.specs.declared.history.Event.TheVariants.{In, End, Svc, Stop, Heard, Continue, NoMod, Mod, Ad, AdEnd, Usr, Done, Fail}
use Rattle.trace_core.specs.declared.history.Cause.{Cause}
use Rattle.trace_core.specs.History.{seen, in_bytes, ad_bytes, is_retry}
use Rattle.trace_core.specs.Legal.{IsLegal}
use Rattle.trace_core.specs.View.{after}
use Rattle.trace_core.specs.Turns.{after_all, MayAllFollow, AllAre, in_sum, ad_sum, is_of_source, is_of_replies, is_of_sending, is_of_hop}
use Rattle.adapt_sides.specs.Tapes.{chosen}
use Rattle.adapt_hold.specs.Holding.{original_in, adapted_in}
use Rattle.adapt_hold.specs.Steps.{brought, brought_all}
use Rattle.adapt_hold.proofs.Row.{all_original, all_adapted}
use Rattle.adapt_turn.specs.Reports.{stepped}
use Rattle.adapt_turn.proofs.Passes.{all_map}

-- Whose events they are not. A new beginning is the service's own.

abbrev pub off_source : Event → Bool
off_source event = not (is_of_source event)

abbrev pub off_sending : Event → Bool
off_sending event = not (is_of_sending event) && not (is_retry event)

abbrev pub off_replies : Event → Bool
off_replies event = not (is_of_replies event) && not (is_retry event)

abbrev pub off_hop : Event → Bool
off_hop event = not (is_of_hop event)

-- what isn't so is false
pub not_true : (b : Bool) → not b ≡ true → b ≡ false
not_true true e = absurd (false≢true e)
not_true false e = refl

-- where neither of two is so both are false
pub both_not : (a b : Bool) → not a && not b ≡ true → (a ≡ false) × (b ≡ false)
both_not true b e = absurd (false≢true e)
both_not false true e = absurd (false≢true e)
both_not false false e = (refl, refl)

-- an event of the source is none of sending, of the replies or of the next hop, and no retry
pub source_off : (event : Event) → is_of_source event ≡ true
    → (off_sending event ≡ true) × (off_replies event ≡ true) × (off_hop event ≡ true)
source_off (In n) e = (refl, refl, refl)
source_off End e = (refl, refl, refl)
source_off _ e = absurd (false≢true e)

-- an event of sending is none of the source, of the replies or of the next hop, and no retry
pub sending_off : (event : Event) → is_of_sending event ≡ true
    → (off_source event ≡ true) × (off_replies event ≡ true) × (off_hop event ≡ true)
sending_off (Svc n) e = (refl, refl, refl)
sending_off Stop e = (refl, refl, refl)
sending_off _ e = absurd (false≢true e)

-- an event of the replies is none of the source, of sending or of the next hop, and no retry
pub replies_off : (event : Event) → is_of_replies event ≡ true
    → (off_source event ≡ true) × (off_sending event ≡ true) × (off_hop event ≡ true)
replies_off Heard e = (refl, refl, refl)
replies_off Continue e = (refl, refl, refl)
replies_off NoMod e = (refl, refl, refl)
replies_off (Mod payload) e = (refl, refl, refl)
replies_off (Ad n) e = (refl, refl, refl)
replies_off AdEnd e = (refl, refl, refl)
replies_off _ e = absurd (false≢true e)

-- an event of the next hop is none of the source, of sending or of the replies, and no retry
pub hop_off : (event : Event) → is_of_hop event ≡ true → (off_source event ≡ true) × (off_sending event ≡ true) × (off_replies event ≡ true)
hop_off (Usr n) e = (refl, refl, refl)
hop_off Done e = (refl, refl, refl)
hop_off _ e = absurd (false≢true e)

-- a failure is of no side
pub all_then : (test other : Event → Bool) → ((event : Event) → test event ≡ true → other event ≡ true)
    → ((cause : Cause) → other (Fail cause) ≡ true)
    → (failed : Option Cause) (reported : List Event) → AllAre test reported → AllAre other (stepped failed reported)
all_then test other i f None reported o = all_map test other i reported o
all_then test other i f (Some cause) reported o = (f cause, tt)

-- What they bring.

-- an event that isn't the source's brings no byte of the original
off_in : (event : Event) (bytes : List ℕ) → off_source event ≡ true → original_in event bytes ≡ []
off_in (In n) bytes e = absurd (false≢true e)
off_in _ bytes e = refl

-- an event that is neither of the replies nor a retry brings no adapted byte
off_ad : (event : Event) (bytes : List ℕ) → off_replies event ≡ true → adapted_in event bytes ≡ []
off_ad (Ad n) bytes e = absurd (false≢true e)
off_ad _ bytes e = refl

-- events of which none is the source's bring no byte of the original
pub none_original : (events : List Event) (bytes : List ℕ) → AllAre off_source events → all_original events bytes ≡ []
none_original [] bytes o = refl
none_original (event ∷ events) bytes o =
    ap (λ (bs : List ℕ). bs ++ all_original events (drop (brought event) bytes)) (off_in event (take (brought event) bytes) o.0)
    ∙ none_original events (drop (brought event) bytes) o.1

-- events of which none is of the replies or a retry bring no adapted byte
pub none_adapted : (events : List Event) (bytes : List ℕ) → AllAre off_replies events → all_adapted events bytes ≡ []
none_adapted [] bytes o = refl
none_adapted (event ∷ events) bytes o =
    ap (λ (bs : List ℕ). bs ++ all_adapted events (drop (brought event) bytes)) (off_ad event (take (brought event) bytes) o.0)
    ∙ none_adapted events (drop (brought event) bytes) o.1

record Own (n m : ℕ) (part : List ℕ) (bytes : List ℕ) : Type 0 where
  count : n ≡ m
  is : part ≡ take m bytes

-- all bytes that an event of the source brings are of the original
source_own : (event : Event) (bytes : List ℕ) → is_of_source event ≡ true
    → Own (brought event) (in_bytes event) (original_in event (take (brought event) bytes)) bytes
source_own (In n) bytes o = let e : n + 0 ≡ n = omega arith in record { count = e; is = ap (λ (k : ℕ). take k bytes) e }
source_own End bytes o = record { count = refl; is = refl }
source_own _ bytes o = absurd (false≢true o)

-- events of the source bring of the original the first bytes of what came, as many as they count
pub source_brings : (events : List Event) (bytes : List ℕ) → AllAre is_of_source events
    → all_original events bytes ≡ take (in_sum events) bytes
source_brings [] bytes o = refl
source_brings (event ∷ events) bytes o =
    let w = source_own event bytes o.0 in
    ap (λ (bs : List ℕ). bs ++ all_original events (drop (brought event) bytes)) w.is
    ∙ ap (λ (bs : List ℕ). take (in_bytes event) bytes ++ bs) (source_brings events (drop (brought event) bytes) o.1)
    ∙ ap (λ (k : ℕ). take (in_bytes event) bytes ++ take (in_sum events) (drop k bytes)) w.count
    ∙ sym (take-add (in_bytes event) (in_sum events) bytes)

-- all bytes that an event of the replies brings are of the adapted body
replies_own : (event : Event) (bytes : List ℕ) → is_of_replies event ≡ true
    → Own (brought event) (ad_bytes event) (adapted_in event (take (brought event) bytes)) bytes
replies_own (Ad n) bytes o = let e : 0 + n ≡ n = omega arith in record { count = e; is = ap (λ (k : ℕ). take k bytes) e }
replies_own Heard bytes o = record { count = refl; is = refl }
replies_own Continue bytes o = record { count = refl; is = refl }
replies_own NoMod bytes o = record { count = refl; is = refl }
replies_own (Mod payload) bytes o = record { count = refl; is = refl }
replies_own AdEnd bytes o = record { count = refl; is = refl }
replies_own _ bytes o = absurd (false≢true o)

-- events of the replies bring of the adapted body the first bytes of what came, as many as they count
pub replies_bring : (events : List Event) (bytes : List ℕ) → AllAre is_of_replies events
    → all_adapted events bytes ≡ take (ad_sum events) bytes
replies_bring [] bytes o = refl
replies_bring (event ∷ events) bytes o =
    let w = replies_own event bytes o.0 in
    ap (λ (bs : List ℕ). bs ++ all_adapted events (drop (brought event) bytes)) w.is
    ∙ ap (λ (bs : List ℕ). take (ad_bytes event) bytes ++ bs) (replies_bring events (drop (brought event) bytes) o.1)
    ∙ ap (λ (k : ℕ). take (ad_bytes event) bytes ++ take (ad_sum events) (drop k bytes)) w.count
    ∙ sym (take-add (ad_bytes event) (ad_sum events) bytes)

-- What stays.

-- what each event that passes a test keeps of what is seen, a list of such events keeps
pub carry : (P : Seen → Type 0) (test : Event → Bool) → ((x : Seen) (event : Event) → test event ≡ true → P x → P (after x event))
    → (events : List Event) (x : Seen) → AllAre test events → P x → P (after_all x events)
carry P test keep [] x o p = p
carry P test keep (event ∷ events) x o p = carry P test keep events (after x event) o.1 (keep x event o.0 p)

-- of the bytes that an event brings as many are of the original as it counts from the source
own_in : (event : Event) (bytes : List ℕ) → length bytes ≡ brought event → length (original_in event bytes) ≡ in_bytes event
own_in (In n) bytes e = omega (arith, e)
own_in _ bytes e = refl

-- of the bytes that an event brings as many are adapted ones as it counts of the adapted body
own_ad : (event : Event) (bytes : List ℕ) → length bytes ≡ brought event → length (adapted_in event bytes) ≡ ad_bytes event
own_ad (Ad n) bytes e = omega (arith, e)
own_ad _ bytes e = refl

-- what each event that passes a test keeps as its bytes join the original, a list of such events keeps with all of theirs
pub carry_body : (P : Seen → List ℕ → Type 0) (test : Event → Bool)
    → ((x : Seen) (event : Event) (came bytes : List ℕ) → test event ≡ true → length came ≡ x.received → length bytes ≡ in_bytes event
    → P x came → P (after x event) (came ++ bytes))
    → (events : List Event) (x : Seen) (came bytes : List ℕ) → AllAre test events → brought_all events ≤ length bytes
    → length came ≡ x.received → P x came
    → P (after_all x events) (came ++ all_original events bytes)
carry_body P test keep [] x came bytes o b l p = subst (λ (bs : List ℕ). P x bs) (sym (append-nil came)) p
carry_body P test keep (event ∷ events) x came bytes o b l p =
    let own = original_in event (take (brought event) bytes) in
    let n : length own ≡ in_bytes event = own_in event (take (brought event) bytes)
    (length-take-le (brought event) bytes (omega (arith, b))) in
    let d = length-drop (brought event) bytes in
    subst (λ (bs : List ℕ). P (after_all (after x event) events) bs) (append_assoc came own
    (all_original events (drop (brought event) bytes)))
    (carry_body P test keep events (after x event) (came ++ own) (drop (brought event) bytes) o.1 (omega (arith, b, d))
    (length-append came own ∙ omega (arith, n, l)) (keep x event came own o.0 l n p))

-- a message's body grows, or is chosen
abbrev pub KeepsChosen : (Seen → List ℕ → Type 0) → Type 0
KeepsChosen P = (plan : Plan) (before : List Event) (event : Event) (original adapted bytes more : List ℕ) → IsLegal plan (event ∷ before)
    → off_hop event ≡ true
    → length original ≡ (seen plan before).received → length adapted ≡ (seen plan before).adapted_received → length bytes ≡ in_bytes event
    → length more ≡ ad_bytes event
    → P (seen plan before) (chosen (seen plan before) original adapted)
    → P (seen plan (event ∷ before)) (chosen (seen plan (event ∷ before)) (original ++ bytes) (adapted ++ more))

-- what each event but the next hop's keeps of the chosen body, such events in a row keep as both bodies grow
pub carry_chosen : (P : Seen → List ℕ → Type 0) → KeepsChosen P
    → (events : List Event) (plan : Plan) (before : List Event) (original adapted bytes : List ℕ) → IsLegal plan before
    → MayAllFollow (seen plan before) events → AllAre off_hop events
    → brought_all events ≤ length bytes → length original ≡ (seen plan before).received
    → length adapted ≡ (seen plan before).adapted_received
    → P (seen plan before) (chosen (seen plan before) original adapted)
    → P (after_all (seen plan before) events) (chosen (after_all (seen plan before) events) (original ++ all_original events bytes)
    (adapted ++ all_adapted events bytes))
carry_chosen P keep [] plan before original adapted bytes g m o b lo la p =
    subst (λ (bs : List ℕ). P (seen plan before) (chosen (seen plan before) bs (adapted ++ []))) (sym (append-nil original))
    (subst (λ (bs : List ℕ). P (seen plan before) (chosen (seen plan before) original bs)) (sym (append-nil adapted)) p)
carry_chosen P keep (event ∷ events) plan before original adapted bytes g m o b lo la p =
    let own = take (brought event) bytes in
    let len = length-take-le (brought event) bytes (omega (arith, b)) in
    let no : length (original_in event own) ≡ in_bytes event = own_in event own len in
    let na : length (adapted_in event own) ≡ ad_bytes event = own_ad event own len in
    let d = length-drop (brought event) bytes in
    let one = keep plan before event original adapted (original_in event own) (adapted_in event own) ((m.0, m.1), g) o.0 lo la no na p in
    let rest = carry_chosen P keep events plan (event ∷ before) (original ++ original_in event own) (adapted ++ adapted_in event own)
    (drop (brought event) bytes) ((m.0, m.1), g) m.2 o.1
    (omega (arith, b, d)) (length-append original (original_in event own) ∙ omega (arith, no, lo))
    (length-append adapted (adapted_in event own) ∙ omega (arith, na, la)) one in
    let x : Seen = after_all (after (seen plan before) event) events in
    subst (λ (bs : List ℕ). P x (chosen x bs (adapted ++ all_adapted (event ∷ events) bytes)))
    (append_assoc original (original_in event own) (all_original events (drop (brought event) bytes)))
    (subst (λ (bs : List ℕ). P x (chosen x ((original ++ original_in event own) ++ all_original events (drop (brought event) bytes)) bs))
    (append_assoc adapted (adapted_in event own) (all_adapted events (drop (brought event) bytes))) rest)

-- The side's own relation, once what it reported is stepped, or a failure in its place.

-- what stands after a side's report stands after what is stepped of it, be it a failure in its place
pub own_then : (P : Seen → Type 0) (x : Seen) (failed : Option Cause) (reported : List Event)
    → ((cause : Cause) → P x → P (after x (Fail cause)))
    → ((cause : Cause) → failed ≡ Some cause → reported ≡ []) → P (after_all x reported) → P (after_all x (stepped failed reported))
own_then P x None reported law q g = g
own_then P x (Some cause) reported law q g = law cause (subst (λ (es : List Event). P (after_all x es)) (q cause refl) g)

-- what stands after a report of the source stands after its steps or a failure, with the bytes that these bring
pub own_source : (P : Seen → List ℕ → Type 0) (x : Seen) (failed : Option Cause) (reported : List Event) (out body : List ℕ)
    → ((cause : Cause) (bs : List ℕ) → P x bs → P (after x (Fail cause)) bs)
    → AllAre is_of_source reported → ((cause : Cause) → failed ≡ Some cause → reported ≡ [])
    → P (after_all x reported) (body ++ take (in_sum reported) out)
    → P (after_all x (stepped failed reported)) (body ++ all_original (stepped failed reported) out)
own_source P x None reported out body law o q g = subst (λ (bs : List ℕ). P (after_all x reported) (body ++ bs))
    (sym (source_brings reported out o)) g
own_source P x (Some cause) reported out body law o q g =
    law cause (body ++ []) (subst (λ (es : List Event). P (after_all x es) (body ++ take (in_sum es) out)) (q cause refl) g)

-- what stands after a report of replies stands after its steps or a failure, with the bytes that these bring
pub own_replies : (P : Seen → List ℕ → Type 0) (x : Seen) (failed : Option Cause) (reported : List Event) (out body : List ℕ)
    → ((cause : Cause) (bs : List ℕ) → P x bs → P (after x (Fail cause)) bs)
    → AllAre is_of_replies reported → ((cause : Cause) → failed ≡ Some cause → reported ≡ [])
    → P (after_all x reported) (body ++ take (ad_sum reported) out)
    → P (after_all x (stepped failed reported)) (body ++ all_adapted (stepped failed reported) out)
own_replies P x None reported out body law o q g = subst (λ (bs : List ℕ). P (after_all x reported) (body ++ bs))
    (sym (replies_bring reported out o)) g
own_replies P x (Some cause) reported out body law o q g =
    law cause (body ++ []) (subst (λ (es : List Event). P (after_all x es) (body ++ take (ad_sum es) out)) (q cause refl) g)

-- The choice.

-- an event that is neither of the replies nor a retry leaves the chosen body as it was
same_choice : (x : Seen) (event : Event) (original adapted : List ℕ) → off_replies event ≡ true
    → chosen (after x event) original adapted ≡ chosen x original adapted
same_choice x NoMod original adapted o = absurd (false≢true o)
same_choice x (Mod payload) original adapted o = absurd (false≢true o)
same_choice x _ original adapted o = refl

-- events of which none is of the replies or a retry leave the chosen body as it was
pub same_choices : (x : Seen) (events : List Event) (original adapted : List ℕ) → AllAre off_replies events
    → chosen (after_all x events) original adapted ≡ chosen x original adapted
same_choices x [] original adapted o = refl
same_choices x (event ∷ events) original adapted o =
    same_choices (after x event) events original adapted o.1 ∙ same_choice x event original adapted o.0
