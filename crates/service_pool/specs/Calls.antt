-- Who is called where a connection may be free.
use Rattle.std.specs.Prelude.{◌≡◌, ℕ, Option, Some, None}
use Rattle.service_pool.specs.declared.queue.Waiter.{Waiter}
use Rattle.service_pool.specs.declared.queues.Call.{Call}

-- this one's thread was woken, if there is one
abbrev pub Wakes : {W : Type 0} → (thread_of : W → ℕ) → Option Waiter → Option W → Type 0
Wakes thread_of (Some waiter) (Some woken) = thread_of woken ≡ waiter.thread
Wakes thread_of (Some waiter) None = ⊥
Wakes thread_of None woken = woken ≡ None

-- whoever was first in a queue was called
abbrev pub Calls : {W : Type 0} → (thread_of : W → ℕ) → Call W → Type 0
Calls thread_of call = Wakes thread_of call.first.waiter call.woken
