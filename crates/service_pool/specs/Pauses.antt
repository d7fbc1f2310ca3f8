-- A circuit breaker: a service that failed so often in a row gets nothing for some seconds, and then one message, by which it is judged.
use Rattle.std.specs.Prelude.{ℕ, suc, ◌-◌, ◌||◌, ◌&&◌, Bool, true, false, nat_eq, nat_lt, nat_le, if◌then◌else◌}
use Rattle.service_pool.specs.declared.queue.Waiter.{Waiter}
use Rattle.service_pool.specs.declared.breaker.PauseRule.{PauseRule}
use Rattle.service_pool.specs.declared.breaker.ServiceEnd.{ServiceEnd}
use Rattle.service_pool.specs.declared.breaker.ServiceEnd.TheVariants.{Answered, Failed, Untold}
use Rattle.service_pool.specs.declared.breaker.Standing.{Standing}
use Rattle.service_pool.specs.declared.breaker.Standing.TheVariants.{Closed, Paused, Over, Trying}

abbrev pub is_same : Waiter → Waiter → Bool
is_same a b = nat_eq a.thread b.thread && nat_eq a.key b.key

-- so many seconds have gone by
abbrev pub is_past : (seconds since now : ℕ) → Bool
is_past seconds since now = nat_le seconds (now - since)

-- A message of this one may go to the service at this moment: no pause is on, and no other one tries the service. A try that says nothing
-- for as long as a pause keeps nobody out.
abbrev pub admits : (seconds : ℕ) → Standing → (who : Waiter) → (now : ℕ) → Bool
admits seconds (Closed failed) who now = true
admits seconds (Paused since) who now = is_past seconds since now
admits seconds Over who now = true
admits seconds (Trying trial since) who now = is_same trial who || is_past seconds since now

-- how it stands once one was let through
abbrev pub after_admission : Standing → (who : Waiter) → (now : ℕ) → Standing
after_admission (Closed failed) who now = Closed failed
after_admission standing who now = Trying who now

-- how it stands once the one that tried the service came to this
abbrev pub after_trial : (now : ℕ) → ServiceEnd → Standing
after_trial now Answered = Closed 0
after_trial now Failed = Paused now
after_trial now Untold = Over

-- how it stands after one failure more: the last one of so many in a row begins a pause
abbrev pub after_failure : (failed most now : ℕ) → Standing
after_failure failed most now = if nat_lt (suc failed) most then Closed (suc failed) else Paused now

-- how it stands after an end, where messages go to the service
abbrev pub after_closed : PauseRule → (failed now : ℕ) → ServiceEnd → Standing
after_closed rule failed now Answered = Closed 0
after_closed rule failed now Failed = after_failure failed rule.failures now
after_closed rule failed now Untold = Closed failed

-- How it stands once a message, or a question, of this one has come to this at the service. Once it is paused, only the one that tries it
-- says something of it: what others come to began before.
abbrev pub after_end : PauseRule → Standing → (who : Waiter) → (now : ℕ) → ServiceEnd → Standing
after_end rule (Closed failed) who now end = after_closed rule failed now end
after_end rule (Paused since) who now end = Paused since
after_end rule Over who now end = Over
after_end rule (Trying trial since) who now end = if is_same trial who then after_trial now end else Trying trial since

abbrev pub is_closed : Standing → Bool
is_closed (Closed failed) = true
is_closed standing = false
