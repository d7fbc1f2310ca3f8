-- A head that is read once more over a connection that gives nothing.
use Rattle.std.proofs.Common.{◌≡◌, ℕ, List, [], ◌++◌, Option, Some, None, Result, Ok, Err, IfSome, IfOk, refl, sym, ap, subst, ◌∙◌}
use Rattle.std.specs.Result.{result_ok}
use Rattle.std.proofs.lemmas.List.{append-nil}
use Rattle.wire_kit.specs.Past.{Past}
use Rattle.http_relay.specs.declared.side.SourceSide.{SourceSide}
use Rattle.http_relay.specs.Reading.{ComesAgain}
use Rattle.proxy_rules.specs.Arrivals.{Arrival, HasCome}
use Rattle.proxy_rules.specs.Grown.{Grown}
use Rattle.shard_message.specs.Told.{IsRequestAgain}

-- a connection that gave and took nothing
abbrev pub IsSilent : Past → Type 0
IsSilent p = (p.read ≡ []) × (p.taken ≡ [])

abbrev no_calls : Past
no_calls = record { read = []; taken = []; ends = 0; read_waits = 0; write_waits = 0; faults = 0; reads = 0; writes = 0 }

-- such a connection gave nothing between two moments
pub none_given : (given taken : List ℕ) → Grown IsSilent IsSilent given taken → given ≡ []
none_given given taken grown =
    let later = grown no_calls (refl, refl) in
    sym later.2.read ∙ later.1.0

-- nothing came beside what was there
pub still_come : (text more : List ℕ) (side : SourceSide) → more ≡ [] → HasCome (text ++ more) side → HasCome text side
still_come text more side e has_come = subst (λ (read : List ℕ). HasCome read side)
    (ap (λ (bytes : List ℕ). text ++ bytes) e ∙ append-nil text) has_come

-- what has come of a side has come with no bytes after it as well
pub come_with_none : (text : List ℕ) (side : SourceSide) → HasCome text side → HasCome (text ++ []) side
come_with_none text side has_come = subst (λ (read : List ℕ). HasCome read side) (sym (append-nil text)) has_come

-- what was read of a request again is that request again
pub again_of : (request : SourceSide) (same : Arrival) (result : Option Arrival) → same.user ≡ None
    → ComesAgain request.head request.raw.items same.side.raw.items
    → IfSome result (λ read. read.user ≡ same.user) → IfSome result (λ read. HasCome same.side.raw.items read.side)
    → IfSome result (IsRequestAgain request)
again_of request same None none again user came = tt
again_of request same (Some read) none again user came = (user ∙ none, (same.side.raw.items, again, came))

-- so it is of the request that a response answers
pub answered_of : (request : Option SourceSide) (same : Arrival) (result : Option Arrival) → same.user ≡ None
    → IfSome request (λ request. ComesAgain request.head request.raw.items same.side.raw.items)
    → IfSome result (λ read. read.user ≡ same.user) → IfSome result (λ read. HasCome same.side.raw.items read.side)
    → IfSome result (λ read. IfSome request (λ request. IsRequestAgain request read))
answered_of request same None none again user came = tt
answered_of None same (Some read) none again user came = tt
answered_of (Some request) same (Some read) none again user came = again_of request same (Some read) none again user came

-- what is so of a message is so of it on the heap, where memory was found for that
pub boxed : {B E : Type 0} (value : B → Arrival) (P : Arrival → Type 0) (made : Result B E) (out : Option B) (message : Arrival)
    → out ≡ result_ok made → IfOk made (λ b. value b ≡ message) → P message → IfSome out (λ b. P (value b))
boxed {B} value P (Ok b) out message same is p = subst (λ (o : Option B). IfSome o (λ b. P (value b))) (sym same) (subst P (sym is) p)
boxed {B} value P (Err fault) out message same is p = subst (λ (o : Option B). IfSome o (λ b. P (value b))) (sym same) tt
