-- The message that comes next, and the end that is told.
use Rattle.std.proofs.Common.{◌≡◌, ◌↔◌, ℕ, List, Bool, true, false, Option, Some, None, IfSome, IsSomeAnd, is_some, refl, sym, subst, ◌∙◌}
use Rattle.std.specs.Bool.{⊤}
use Rattle.std.specs.Prelude.{Box}
use Rattle.std.specs.declared.alloc.Global.{Global}
use Rattle.trace_core.specs.declared.history.Cause.{Cause}
use Rattle.trace_core.specs.declared.history.Cause.TheVariants.{Stopping}
use Rattle.trace_core.specs.declared.history.Point.{Point}
use Rattle.adapt_turn.specs.declared.turn.Outcome.{Outcome}
use Rattle.adapt_turn.specs.declared.turn.Outcome.TheVariants.{Done, Fail}
use Rattle.adapt_turn.specs.Refusals.{refusal_status}
use Rattle.exchange_core.specs.Dues.{status_of}
use Rattle.exchange_core.specs.declared.event.RefusalCause.TheVariants as causes
use Rattle.shard_exchange.specs.EndedBy.{EndsBy, IfItself}
use Rattle.shard_exchange.specs.declared.ends.End.{End}
use Rattle.shard_exchange.specs.declared.ends.End.TheVariants as ends
use Rattle.shard_exchange.specs.declared.ends.EndedBy.{EndedBy}
use Rattle.shard_exchange.specs.declared.ends.EndedBy.TheVariants as ended
use Rattle.shard_message.specs.Ended.{Brings, EndsAs, IfOther, IsEndOf, IsNextBy, IsSequel, ended_as, is_by_itself, is_user_lost}
use Rattle.shard_message.specs.Ended.{message_in}
use Rattle.shard_message.specs.declared.ended.Sequel.{Sequel}
use Rattle.shard_message.specs.declared.ended.Sequel.TheVariants as sequels

-- a sequel that brings at most a next request of a kind brings it as one of a wider kind
pub brings_more : {M : Type 0} (response next again further : M → Type 0) (sequel : Sequel M)
    → ((message : M) → next message → further message)
    → Brings (λ _. ⊥) next (λ _. ⊥) sequel → Brings response further again sequel
brings_more response next again further (sequels.Sent None) more brings = tt
brings_more response next again further (sequels.Sent (Some message)) more brings = absurd brings
brings_more response next again further (sequels.Answered None lasts) more brings = tt
brings_more response next again further (sequels.Answered (Some message) lasts) more brings = more message.value brings
brings_more response next again further (sequels.Withdrawn None) more brings = tt
brings_more response next again further (sequels.Withdrawn (Some message)) more brings = absurd brings
brings_more response next again further (sequels.Failed cause is_old) more brings = tt

-- a response that was told these lines
pub told_lines : {L : Type 0} (items : L → List ℕ) (told lines : List ℕ) (carried : Option L) → IfSome carried (λ c. items c ≡ lines)
    → IsSomeAnd carried (λ c. told ≡ items c) → told ≡ lines
told_lines items told lines None is there = absurd there
told_lines items told lines (Some c) is there = there ∙ is

-- a sequel that brings a response of a kind brings it as one of a wider kind, whatever else it brings
pub brings_told : {M : Type 0} (response told : M → Type 0) (sequel : Sequel M) → ((message : M) → response message → told message)
    → Brings response (λ _. ⊤) (λ _. ⊤) sequel → Brings told (λ _. ⊤) (λ _. ⊤) sequel
brings_told response told (sequels.Sent None) more brings = tt
brings_told response told (sequels.Sent (Some message)) more brings = more message.value brings
brings_told response told (sequels.Answered None lasts) more brings = tt
brings_told response told (sequels.Answered (Some message) lasts) more brings = tt
brings_told response told (sequels.Withdrawn None) more brings = tt
brings_told response told (sequels.Withdrawn (Some message)) more brings = tt
brings_told response told (sequels.Failed cause is_old) more brings = tt

-- the response that a sent request brings comes by the end that says whether memory was found for it
sent_by : {M : Type 0} (response next again : M → Type 0) (message : Option (Box M Global)) (has_memory : Bool)
    → has_memory ≡ is_some message
    → Brings response next again (sequels.Sent message) → IsNextBy response next again (ends.Sent has_memory) message
sent_by response next again None false e brings = tt
sent_by response next again None true e brings = absurd cc
sent_by response next again (Some message) false e brings = absurd cc
sent_by response next again (Some message) true e brings = brings

-- the next request that an answer brings comes by the end that keeps the connection just where there is one
answered_by : {M : Type 0} (response next again : M → Type 0) (message : Option (Box M Global)) (lasting keeps lasts : Bool)
    → keeps ≡ is_some message
    → Brings response next again (sequels.Answered message lasting) → IsNextBy response next again (ends.Answered keeps lasts) message
answered_by response next again None lasting false lasts e brings = tt
answered_by response next again None lasting true lasts e brings = absurd cc
answered_by response next again (Some message) lasting false lasts e brings = absurd cc
answered_by response next again (Some message) lasting true lasts e brings = brings

-- the request that a withdrawal brings again comes by the end that says whether memory was found for it
withdrawn_by : {M : Type 0} (response next again : M → Type 0) (message : Option (Box M Global)) (has_memory : Bool)
    → has_memory ≡ is_some message
    → Brings response next again (sequels.Withdrawn message) → IsNextBy response next again (ends.Withdrawn has_memory) message
withdrawn_by response next again None false e brings = tt
withdrawn_by response next again None true e brings = absurd cc
withdrawn_by response next again (Some message) false e brings = absurd cc
withdrawn_by response next again (Some message) true e brings = brings

-- the message of a sequel is the one that comes by the end of that sequel
next_by : {M : Type 0} (response next again : M → Type 0) (point : Point) (sequel : Sequel M) (end : End)
    → Brings response next again sequel → IsEndOf point sequel end
    → IsNextBy response next again end (message_in sequel)
next_by response next again point (sequels.Sent message) (ends.Sent has_memory) brings e =
    sent_by response next again message has_memory e brings
next_by response next again point (sequels.Sent message) (ends.Answered keeps lasts) brings e = absurd e
next_by response next again point (sequels.Sent message) (ends.Withdrawn has_memory) brings e = absurd e
next_by response next again point (sequels.Sent message) (ends.Failed why) brings e = absurd e
next_by response next again point (sequels.Sent message) ends.Stopped brings e = absurd e
next_by response next again point (sequels.Sent message) ends.Lost brings e = absurd e
next_by response next again point (sequels.Answered message lasting) (ends.Sent has_memory) brings e = absurd e
next_by response next again point (sequels.Answered message lasting) (ends.Answered keeps lasts) brings e =
    answered_by response next again message lasting keeps lasts e.0 brings
next_by response next again point (sequels.Answered message lasting) (ends.Withdrawn has_memory) brings e = absurd e
next_by response next again point (sequels.Answered message lasting) (ends.Failed why) brings e = absurd e
next_by response next again point (sequels.Answered message lasting) ends.Stopped brings e = absurd e
next_by response next again point (sequels.Answered message lasting) ends.Lost brings e = absurd e
next_by response next again point (sequels.Withdrawn message) (ends.Sent has_memory) brings e = absurd e
next_by response next again point (sequels.Withdrawn message) (ends.Answered keeps lasts) brings e = absurd e
next_by response next again point (sequels.Withdrawn message) (ends.Withdrawn has_memory) brings e =
    withdrawn_by response next again message has_memory e brings
next_by response next again point (sequels.Withdrawn message) (ends.Failed why) brings e = absurd e
next_by response next again point (sequels.Withdrawn message) ends.Stopped brings e = absurd e
next_by response next again point (sequels.Withdrawn message) ends.Lost brings e = absurd e
next_by response next again point (sequels.Failed cause is_old) (ends.Sent has_memory) brings e = absurd e
next_by response next again point (sequels.Failed cause is_old) (ends.Answered keeps lasts) brings e = absurd e
next_by response next again point (sequels.Failed cause is_old) (ends.Withdrawn has_memory) brings e = absurd e
next_by response next again point (sequels.Failed cause is_old) (ends.Failed why) brings e = tt
next_by response next again point (sequels.Failed cause is_old) ends.Stopped brings e = absurd e
next_by response next again point (sequels.Failed cause is_old) ends.Lost brings e = tt

-- where the message is that of the sequel
next_itself : {M : Type 0} (response next again : M → Type 0) (point : Point) (sequel : Sequel M) (told end : End)
    (message : Option (Box M Global))
    → Brings response next again sequel → IsEndOf point sequel told → end ≡ told → message ≡ message_in sequel
    → IsNextBy response next again end message
next_itself {M} response next again point sequel told end message brings is e m =
    subst (λ (z : Option (Box M Global)). IsNextBy response next again end z) (sym m)
    (subst (λ (z : End). IsNextBy response next again z (message_in sequel)) (sym e)
    (next_by response next again point sequel told brings is))

-- where something else ended it, no message comes
next_other : {M : Type 0} (response next again : M → Type 0) (end told : End) (message : Option (Box M Global))
    → IsNextBy response next again told None → end ≡ told → message ≡ None
    → IsNextBy response next again end message
next_other {M} response next again end told message by e m =
    subst (λ (z : Option (Box M Global)). IsNextBy response next again end z) (sym m)
    (subst (λ (z : End). IsNextBy response next again z None) (sym e) by)

-- the message that is left, by the end that is told
pub next_told : {M : Type 0} (response next again : M → Type 0) (point : Point) (sequel : Sequel M) (by : EndedBy) (told end : End)
    (message : Option (Box M Global))
    → Brings response next again sequel → EndsBy by told → IfItself by (IsEndOf point sequel told) → end ≡ told
    → IfItself by (message ≡ message_in sequel) → IfOther by (message ≡ None)
    → IsNextBy response next again end message
next_told response next again point sequel ended.Itself told end message brings ends_by is e m o =
    next_itself response next again point sequel told end message brings is e m
next_told response next again point sequel ended.Gate told end message brings ends_by is e m o =
    next_itself response next again point sequel told end message brings is e m
next_told response next again point sequel ended.Deadline told end message brings ends_by is e m o =
    next_other response next again end (ends.Failed causes.Deadline) message tt (e ∙ ends_by) o
next_told response next again point sequel ended.Stop told end message brings ends_by is e m o =
    next_other response next again end ends.Stopped message tt (e ∙ ends_by) o
next_told response next again point sequel ended.User told end message brings ends_by is e m o =
    next_other response next again end ends.Lost message tt (e ∙ ends_by) o

-- whether the origin's connection lasts is what was found
lasts_as : (lasting : Type 0) (lasts told found : Bool) → (lasts ≡ true ↔ lasting) → found ≡ lasts → told ≡ found → told ≡ true ↔ lasting
lasts_as lasting lasts told found is f t = subst (λ (z : Bool). z ≡ true ↔ lasting) (sym (t ∙ f)) is

-- the end of the sequel of a transaction that is done is one of such a transaction
ends_done : {M : Type 0} (point : Point) (onward carries lasting bars : Type 0) (lasts may old : Bool) (sequel : Sequel M) (end : End)
    → (lasts ≡ true ↔ lasting)
    → IsSequel Done onward carries lasts may old sequel → IsEndOf point sequel end → EndsAs point Done onward carries lasting bars end
ends_done point onward carries lasting bars lasts may old (sequels.Sent message) (ends.Sent has_memory) found is e = is
ends_done point onward carries lasting bars lasts may old (sequels.Sent message) (ends.Answered keeps told) found is e = absurd e
ends_done point onward carries lasting bars lasts may old (sequels.Sent message) (ends.Withdrawn has_memory) found is e = absurd e
ends_done point onward carries lasting bars lasts may old (sequels.Sent message) (ends.Failed why) found is e = absurd e
ends_done point onward carries lasting bars lasts may old (sequels.Sent message) ends.Stopped found is e = absurd e
ends_done point onward carries lasting bars lasts may old (sequels.Sent message) ends.Lost found is e = absurd e
ends_done point onward carries lasting bars lasts may old (sequels.Answered message on) (ends.Sent has_memory) found is e = absurd e
ends_done point onward carries lasting bars lasts may old (sequels.Answered None on) (ends.Answered true told) found is e = let k = e.0 in
    absurd cc
ends_done point onward carries lasting bars lasts may old (sequels.Answered None on) (ends.Answered false told) found is e =
    (is.0, lasts_as lasting lasts told on found is.1 e.1)
ends_done point onward carries lasting bars lasts may old (sequels.Answered (Some message) on) (ends.Answered true told) found is e =
    (is.0, is.1, lasts_as lasting lasts told on found is.2 e.1)
ends_done point onward carries lasting bars lasts may old (sequels.Answered (Some message) on) (ends.Answered false told) found is e =
    let k = e.0 in absurd cc
ends_done point onward carries lasting bars lasts may old (sequels.Answered message on) (ends.Withdrawn has_memory) found is e = absurd e
ends_done point onward carries lasting bars lasts may old (sequels.Answered message on) (ends.Failed why) found is e = absurd e
ends_done point onward carries lasting bars lasts may old (sequels.Answered message on) ends.Stopped found is e = absurd e
ends_done point onward carries lasting bars lasts may old (sequels.Answered message on) ends.Lost found is e = absurd e
ends_done point onward carries lasting bars lasts may old (sequels.Withdrawn message) end found is e = absurd is
ends_done point onward carries lasting bars lasts may old (sequels.Failed cause is_old) end found is e = absurd is

-- the end of the sequel of a transaction that failed is one of a transaction that failed for that cause
ends_failed : {M : Type 0} (point : Point) (cause : Cause) (onward carries : Type 0) (further carries_further lasting bars : Type 0)
    (lasts may old : Bool) (sequel : Sequel M) (end : End)
    → (may ≡ false → bars) → IsSequel (Fail cause) onward carries lasts may old sequel → IsEndOf point sequel end
    → EndsAs point (Fail cause) further carries_further lasting bars end
ends_failed point cause onward carries further carries_further lasting bars lasts may old (sequels.Sent message) end b is e = absurd is
ends_failed point cause onward carries further carries_further lasting bars lasts may old (sequels.Answered None on) end b is e = absurd is
ends_failed point cause onward carries further carries_further lasting bars lasts may old (sequels.Answered (Some message) on) end b is e =
    absurd is
ends_failed point cause onward carries further carries_further lasting bars lasts may old (sequels.Withdrawn message) (ends.Sent has_memory)
    b is e = absurd e
ends_failed point cause onward carries further carries_further lasting bars lasts may old (sequels.Withdrawn message)
    (ends.Answered keeps told) b is e = absurd e
ends_failed point cause onward carries further carries_further lasting bars lasts may old (sequels.Withdrawn message)
    (ends.Withdrawn has_memory) b is e = is.0
ends_failed point cause onward carries further carries_further lasting bars lasts may old (sequels.Withdrawn message) (ends.Failed status) b
    is e = absurd e
ends_failed point cause onward carries further carries_further lasting bars lasts may old (sequels.Withdrawn message) ends.Stopped b is e =
    absurd e
ends_failed point cause onward carries further carries_further lasting bars lasts may old (sequels.Withdrawn message) ends.Lost b is e =
    absurd e
ends_failed point cause onward carries further carries_further lasting bars lasts may old (sequels.Failed why is_old) (ends.Sent has_memory)
    b is e = absurd e
ends_failed point cause onward carries further carries_further lasting bars lasts may old (sequels.Failed why is_old)
    (ends.Answered keeps told) b is e = absurd e
ends_failed point cause onward carries further carries_further lasting bars lasts may old (sequels.Failed why is_old)
    (ends.Withdrawn has_memory) b is e = absurd e
ends_failed point cause onward carries further carries_further lasting bars lasts may old (sequels.Failed why is_old) (ends.Failed status) b
    is e =
    let told = subst (λ (z : Cause). (is_user_lost z point ≡ false) × (status_of status ≡ refusal_status z point)) is.0 e in
    (told.0, told.1, λ hop. b (is.2 hop))
ends_failed point cause onward carries further carries_further lasting bars lasts may old (sequels.Failed why is_old) ends.Stopped b is e =
    absurd e
ends_failed point cause onward carries further carries_further lasting bars lasts may old (sequels.Failed why is_old) ends.Lost b is e =
    subst (λ (z : Cause). is_user_lost z point ≡ true) is.0 e

-- the end of the sequel of a transaction, done or failed, goes by what the transaction was
ends_closed : {M T : Type 0} (point : Point) (onward carries lasting : T → Type 0) (bars : Type 0) (x y : T) (outcome : Outcome)
    (lasts may old : Bool) (sequel : Sequel M) (end : End)
    → x ≡ y → (lasts ≡ true ↔ lasting x) → (may ≡ false → bars) → IsSequel outcome (onward x) (carries x) lasts may old sequel
    → IsEndOf point sequel end
    → EndsAs point outcome (onward y) (carries y) (lasting y) bars end
ends_closed {M} {T} point onward carries lasting bars x y Done lasts may old sequel end same found b is e =
    subst (λ (z : T). EndsAs point Done (onward z) (carries z) (lasting z) bars end) same
    (ends_done point (onward x) (carries x) (lasting x) bars lasts may old sequel end found is e)
ends_closed point onward carries lasting bars x y (Fail cause) lasts may old sequel end same found b is e =
    ends_failed point cause (onward x) (carries x) (onward y) (carries y) (lasting y) bars lasts may old sequel end b is e

-- where nothing else ended it
itself_with : (by : EndedBy) {P Q : Type 0} → (is_by_itself by ≡ true → P → Q) → IfItself by P → IfItself by Q
itself_with ended.Itself f p = f refl p
itself_with ended.Gate f p = f refl p
itself_with ended.Deadline f p = tt
itself_with ended.Stop f p = tt
itself_with ended.User f p = tt

-- the end that is told of a transaction goes by what is left of it
pub ends_told : {M T : Type 0} (point : Point) (onward carries lasting : T → Type 0) (bars : Type 0) (x y : T) (outcome : Outcome)
    (lasts may old : Bool) (sequel : Sequel M) (by : EndedBy) (end : End)
    → x ≡ y → (lasts ≡ true ↔ lasting x) → (is_by_itself by ≡ true → may ≡ false → bars)
    → IsSequel outcome (onward x) (carries x) lasts may old sequel → IfItself by (IsEndOf point sequel end)
    → IfItself by (EndsAs point outcome (onward y) (carries y) (lasting y) bars end)
ends_told point onward carries lasting bars x y outcome lasts may old sequel by end same found b is itself =
    itself_with by (λ i e. ends_closed point onward carries lasting bars x y outcome lasts may old sequel end same found (b i) is e) itself

-- a transaction that failed for the stop ends so, whatever else is so of it
ends_stopped : (point : Point) (onward carries lasting further carries_further lasting_further bars : Type 0) (end : End)
    → EndsAs point (Fail Stopping) onward carries lasting bars end
    → EndsAs point (Fail Stopping) further carries_further lasting_further bars end
ends_stopped point onward carries lasting further carries_further lasting_further bars (ends.Sent has_memory) told = absurd told
ends_stopped point onward carries lasting further carries_further lasting_further bars (ends.Answered keeps lasts) told = absurd told
ends_stopped point onward carries lasting further carries_further lasting_further bars (ends.Withdrawn has_memory) told = told
ends_stopped point onward carries lasting further carries_further lasting_further bars (ends.Failed why) told = told
ends_stopped point onward carries lasting further carries_further lasting_further bars ends.Stopped told = absurd told
ends_stopped point onward carries lasting further carries_further lasting_further bars ends.Lost told = told

-- what is told of a transaction that was halted is so of what it was before, where it was closed; one that was open fails for the stop
pub ends_halted : {T : Type 0} (point : Point) (onward carries lasting : T → Type 0) (bars : Type 0) (x y : T) (closed : Bool)
    (outcome : Outcome) (by : EndedBy) (end : End) → (closed ≡ true → x ≡ y)
    → IfItself by (EndsAs point (ended_as closed outcome) (onward x) (carries x) (lasting x) bars end)
    → IfItself by (EndsAs point (ended_as closed outcome) (onward y) (carries y) (lasting y) bars end)
ends_halted {T} point onward carries lasting bars x y true outcome by end same told =
    subst (λ (z : T). IfItself by (EndsAs point outcome (onward z) (carries z) (lasting z) bars end)) (same refl) told
ends_halted point onward carries lasting bars x y false outcome by end same told =
    itself_with by (λ i e. ends_stopped point (onward x) (carries x) (lasting x) (onward y) (carries y) (lasting y) bars end e) told

-- a sequel ends with a withdrawal only where its request may be withdrawn
withdrawn_is : {M : Type 0} (point : Point) (outcome : Outcome) (onward carries : Type 0) (lasts may old has_memory : Bool)
    (sequel : Sequel M)
    → IsSequel outcome onward carries lasts may old sequel → IsEndOf point sequel (ends.Withdrawn has_memory) → may ≡ true
withdrawn_is point outcome onward carries lasts may old has_memory (sequels.Sent message) is e = absurd e
withdrawn_is point outcome onward carries lasts may old has_memory (sequels.Answered message on) is e = absurd e
withdrawn_is point Done onward carries lasts may old has_memory (sequels.Withdrawn message) is e = absurd is
withdrawn_is point (Fail cause) onward carries lasts may old has_memory (sequels.Withdrawn message) is e = is.1
withdrawn_is point outcome onward carries lasts may old has_memory (sequels.Failed why is_old) is e = absurd e

-- only what was withdrawn is told so
pub withdrawn_told : {M : Type 0} (point : Point) (outcome : Outcome) (onward carries : Type 0) (lasts may old has_memory : Bool)
    (sequel : Sequel M) (by : EndedBy) (end : End)
    → IsSequel outcome onward carries lasts may old sequel → EndsBy by end → IfItself by (IsEndOf point sequel end)
    → end ≡ ends.Withdrawn has_memory → may ≡ true
withdrawn_told point outcome onward carries lasts may old has_memory sequel ended.Deadline end is by itself e = absurd cc
withdrawn_told point outcome onward carries lasts may old has_memory sequel ended.Stop end is by itself e = absurd cc
withdrawn_told point outcome onward carries lasts may old has_memory sequel ended.User end is by itself e = absurd cc
withdrawn_told point outcome onward carries lasts may old has_memory sequel ended.Itself end is by itself e =
    withdrawn_is point outcome onward carries lasts may old has_memory sequel is (subst (λ (z : End). IsEndOf point sequel z) e itself)
withdrawn_told point outcome onward carries lasts may old has_memory sequel ended.Gate end is by itself e =
    withdrawn_is point outcome onward carries lasts may old has_memory sequel is (subst (λ (z : End). IsEndOf point sequel z) e itself)
