-- What one turn of a side reports: a list of events, the first to be stepped first.
use Rattle.std.specs.Prelude.{◌≡◌, ℕ, ◌+◌, Bool, true, false, ⊤, List, [], ◌∷◌}
use Rattle.trace_core.specs.declared.history.Event.{Event}
use Rattle.trace_core.specs.declared.history.Event.TheVariants.{In, End, Svc, Stop, Heard, Continue, NoMod, Mod, Ad, AdEnd, Usr, Done}
use Rattle.trace_core.specs.History.{Seen, in_bytes, ad_bytes}
use Rattle.trace_core.specs.Legal.{Allows}
use Rattle.trace_core.specs.View.{after}

-- what is seen after these events
abbrev pub after_all : Seen → List Event → Seen
after_all x [] = x
after_all x (event ∷ events) = after_all (after x event) events

-- each event may follow those before it
abbrev pub MayAllFollow : Seen → List Event → Type 0
MayAllFollow x [] = ⊤
MayAllFollow x (event ∷ events) = (x.closed ≡ false) × Allows x event × MayAllFollow (after x event) events

-- each event passes the test
abbrev pub AllAre : (Event → Bool) → List Event → Type 0
AllAre test [] = ⊤
AllAre test (event ∷ events) = (test event ≡ true) × AllAre test events

-- the body bytes that they bring from the source
abbrev pub in_sum : List Event → ℕ
in_sum [] = 0
in_sum (event ∷ events) = in_bytes event + in_sum events

-- the bytes of the adapted body that they bring
abbrev pub ad_sum : List Event → ℕ
ad_sum [] = 0
ad_sum (event ∷ events) = ad_bytes event + ad_sum events

-- Whose events they are. Retry and Fail are of no wire: the transaction itself reports them.

-- read from the source
abbrev pub is_of_source : Event → Bool
is_of_source (In n) = true
is_of_source End = true
is_of_source _ = false

-- written to the service
abbrev pub is_of_sending : Event → Bool
is_of_sending (Svc n) = true
is_of_sending Stop = true
is_of_sending _ = false

-- read from the service
abbrev pub is_of_replies : Event → Bool
is_of_replies Heard = true
is_of_replies Continue = true
is_of_replies NoMod = true
is_of_replies (Mod payload) = true
is_of_replies (Ad n) = true
is_of_replies AdEnd = true
is_of_replies _ = false

-- written to the next hop
abbrev pub is_of_hop : Event → Bool
is_of_hop (Usr n) = true
is_of_hop Done = true
is_of_hop _ = false
