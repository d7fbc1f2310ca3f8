-- How a message ends, by how its transaction ended.
use Rattle.std.specs.Prelude.{◌≡◌, ◌↔◌, ◌⊎◌, ⊤, ℕ, Bool, true, false, length, Option, Some, None, Box, is_some}
use Rattle.std.specs.declared.alloc.Global.{Global}
use Rattle.trace_core.specs.declared.history.Cause.{Cause}
use Rattle.trace_core.specs.declared.history.Cause.TheVariants.{NextHop, Stopping}
use Rattle.trace_core.specs.declared.history.Point.{Point}
use Rattle.trace_core.specs.declared.history.Point.TheVariants.{Respmod}
use Rattle.adapt_turn.specs.declared.turn.Outcome.{Outcome}
use Rattle.adapt_turn.specs.declared.turn.Outcome.TheVariants.{Done, Fail}
use Rattle.adapt_turn.specs.Refusals.{refusal_status}
use Rattle.exchange_core.specs.Dues.{status_of}
use Rattle.wire_kit.specs.Past.{Past}
use Rattle.shard_exchange.specs.declared.ends.End.{End}
use Rattle.shard_exchange.specs.declared.ends.EndedBy.{EndedBy}
use Rattle.shard_exchange.specs.declared.ends.EndedBy.TheVariants.{Itself, Gate}
use Rattle.shard_exchange.specs.declared.ends.End.TheVariants as ends
use Rattle.shard_message.specs.declared.ended.Sequel.{Sequel}
use Rattle.shard_message.specs.declared.ended.Sequel.TheVariants as sequels

-- the outcome of a transaction that is taken apart: one that is open fails, because the proxy stops
abbrev pub ended_as : (closed : Bool) → Outcome → Outcome
ended_as true outcome = outcome
ended_as false outcome = Fail Stopping

-- the user's own connection has failed: it is the next hop of a response
abbrev pub is_user_lost : Cause → Point → Bool
is_user_lost NextHop Respmod = true
is_user_lost _ _ = false

-- it failed
abbrev pub fails : Outcome → Bool
fails Done = false
fails (Fail cause) = true

-- What comes of a message by its outcome: the whole request went onward; or the user has the whole answer, a further request is read only
-- where its connection carries on, and the origin's lasts or not; or it failed, for just that cause, and its request is an old
-- one or not. It
-- is withdrawn exactly where its origin's connection failed, and it may be; the request is there again where memory was found for that.
abbrev pub IsSequel : {M : Type 0} → Outcome → (onward carries_on : Type 0) → (lasts may_withdraw : Bool) → (old : Bool) → Sequel M → Type 0
IsSequel Done onward carries_on lasts may_withdraw old (sequels.Sent response) = onward
IsSequel Done onward carries_on lasts may_withdraw old (sequels.Answered None lasts_on) = (onward → ⊥) × (lasts_on ≡ lasts)
IsSequel Done onward carries_on lasts may_withdraw old (sequels.Answered (Some next) lasts_on) =
    (onward → ⊥) × carries_on × (lasts_on ≡ lasts)
IsSequel (Fail cause) onward carries_on lasts may_withdraw old (sequels.Failed why is_old) =
    (why ≡ cause) × (is_old ≡ old) × (cause ≡ NextHop → may_withdraw ≡ false)
IsSequel (Fail cause) onward carries_on lasts may_withdraw old (sequels.Withdrawn again) = (cause ≡ NextHop) × (may_withdraw ≡ true)
IsSequel _ _ _ _ _ _ _ = ⊥

-- this connection had given so many bytes before, and has given none since
abbrev pub HasGiven : {W : Type 0} → (past : W → Past → Type 0) → W → (count : ℕ) → Type 0
HasGiven past wire count = (p : Past) → past wire p → length p.read ≡ count

-- it has given bytes since
abbrev pub HasGivenSince : {W : Type 0} → (past : W → Past → Type 0) → W → (count : ℕ) → Type 0
HasGivenSince past wire count = (given : ℕ) × HasGiven past wire given × (given ≡ count → ⊥)

-- nothing else ended it
abbrev pub is_by_itself : EndedBy → Bool
is_by_itself Itself = true
is_by_itself Gate = true
is_by_itself _ = false

-- a request may be withdrawn from its origin's connection: nothing else ended its transaction, no byte of an answer went to the user, none
-- came of the origin since it was dialed, and the course lets it
pub record IsWithdrawable (by : EndedBy) (has_answered : Bool) (unheard : Type 0) (may : Bool) : Type 0 where
  pub itself : is_by_itself by ≡ true
  pub unanswered : has_answered ≡ false
  pub silent : unheard
  pub let_go : may ≡ true

-- it may not, where nothing else ended it: a byte of an answer went to the user, or came of the origin, or the course doesn't let it
abbrev pub IsBarred : (has_answered : Bool) → (heard : Type 0) → (may : Bool) → Type 0
IsBarred has_answered heard may = (has_answered ≡ true) ⊎ heard ⊎ (may ≡ false)

-- where something else ended it
abbrev pub IfOther : EndedBy → Type 0 → Type 0
IfOther Itself told = ⊤
IfOther Gate told = ⊤
IfOther _ told = told

-- the user's connection is to be cut where a part of an answer is out of it
abbrev pub is_cut : {M : Type 0} → Sequel M → Bool
is_cut (sequels.Failed cause is_old) = is_old
is_cut _ = false

-- this is so of the side of the user whose request a response answers; where that is lost, it isn't so
abbrev pub IfAsked : {S : Type 0} → (S → Type 0) → Option S → Type 0
IfAsked p None = ⊥
IfAsked p (Some user) = p user

abbrev pub old_where_asked : {S : Type 0} → (S → Bool) → Option S → Bool
old_where_asked old None = true
old_where_asked old (Some user) = old user

-- the end that the course is told where this came of a message: a cause has one status
abbrev pub IsEndOf : {M : Type 0} → Point → Sequel M → End → Type 0
IsEndOf point (sequels.Sent response) (ends.Sent has_memory) = has_memory ≡ is_some response
IsEndOf point (sequels.Answered next lasting) (ends.Answered keeps lasts) = (keeps ≡ is_some next) × (lasts ≡ lasting)
IsEndOf point (sequels.Withdrawn again) (ends.Withdrawn has_memory) = has_memory ≡ is_some again
IsEndOf point (sequels.Failed cause is_old) (ends.Failed why) =
    (is_user_lost cause point ≡ false) × (status_of why ≡ refusal_status cause point)
IsEndOf point (sequels.Failed cause is_old) ends.Lost = is_user_lost cause point ≡ true
IsEndOf _ _ _ = ⊥

-- The end that the course is told of a transaction with this outcome: the origin's connection lasts exactly where another request may go
-- out on it; a request is withdrawn only where its connection to the origin failed, and then unless something bars that.
abbrev pub EndsAs : Point → Outcome → (onward carries_on lasting bars : Type 0) → End → Type 0
EndsAs point Done onward carries_on lasting bars (ends.Sent has_memory) = onward
EndsAs point Done onward carries_on lasting bars (ends.Answered true lasts) = (onward → ⊥) × carries_on × (lasts ≡ true ↔ lasting)
EndsAs point Done onward carries_on lasting bars (ends.Answered false lasts) = (onward → ⊥) × (lasts ≡ true ↔ lasting)
EndsAs point (Fail cause) onward carries_on lasting bars (ends.Failed why) =
    (is_user_lost cause point ≡ false) × (status_of why ≡ refusal_status cause point) × (cause ≡ NextHop → bars)
EndsAs point (Fail cause) onward carries_on lasting bars ends.Lost = is_user_lost cause point ≡ true
EndsAs point (Fail cause) onward carries_on lasting bars (ends.Withdrawn has_memory) = cause ≡ NextHop
EndsAs _ _ _ _ _ _ _ = ⊥

-- the message that came of it, where memory was found for that
abbrev pub message_in : {M : Type 0} → Sequel M → Option (Box M Global)
message_in (sequels.Sent response) = response
message_in (sequels.Answered next lasts) = next
message_in (sequels.Withdrawn again) = again
message_in (sequels.Failed cause is_old) = None

-- the message that came of it is the response to the request, or the next one of its user, or the request again
abbrev pub Brings : {M : Type 0} → (response next again : M → Type 0) → Sequel M → Type 0
Brings response next again (sequels.Sent (Some message)) = response message.value
Brings response next again (sequels.Answered (Some message) lasts) = next message.value
Brings response next again (sequels.Withdrawn (Some message)) = again message.value
Brings response next again _ = ⊤

-- The message that comes after one that ended so: the response to a request that its origin has whole, if there was memory for it; or the
-- next request of a user whose connection is kept; or the request again that was withdrawn, if there was memory for it. Else there is none.
abbrev pub IsNextBy : {M : Type 0} → (response next again : M → Type 0) → End → Option (Box M Global) → Type 0
IsNextBy response next again (ends.Sent true) (Some message) = response message.value
IsNextBy response next again (ends.Sent false) None = ⊤
IsNextBy response next again (ends.Answered true lasts) (Some message) = next message.value
IsNextBy response next again (ends.Answered false lasts) None = ⊤
IsNextBy response next again (ends.Withdrawn true) (Some message) = again message.value
IsNextBy response next again (ends.Withdrawn false) None = ⊤
IsNextBy response next again (ends.Failed why) None = ⊤
IsNextBy response next again ends.Stopped None = ⊤
IsNextBy response next again ends.Lost None = ⊤
IsNextBy _ _ _ _ _ = ⊥
