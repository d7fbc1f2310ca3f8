-- Logs of whole exchanges, the newest event first.
use Rattle.std.specs.Prelude.{true, false, List, [], ◌∷◌, reverse}
use Rattle.exchange_core.specs.declared.event.RefusalCause.TheVariants as causes
use Rattle.exchange_core.specs.declared.event.Event.{Event}
use Rattle.exchange_core.specs.declared.event.Event.TheVariants.{HeadBegun, RequestRead, ResponseRead, Stale, Queued, Lent, Asked, Learned}
use Rattle.exchange_core.specs.declared.event.Event.TheVariants.{Planned, Reserved, HalfTold, Stuck, Told, Dialed, Started, LetPass}
use Rattle.exchange_core.specs.declared.event.Event.TheVariants.{Renewed, Served, Begun, Sent, Heard, Withdrawn, Answered, Failed, Returned}
use Rattle.exchange_core.specs.declared.event.Event.TheVariants.{Released, HungUp, Refused, UserClosed, UserLost, Dropped, Late, Drain}
use Rattle.exchange_core.specs.declared.event.Event.TheVariants.{Stop, Tried}

-- no service; the user ends the connection once it has its answer
abbrev pub plain : List Event
plain = reverse (
    RequestRead ∷ Planned false false false ∷ Reserved ∷ Dialed false ∷ Started ∷ LetPass ∷ Sent ∷ Released
    ∷ ResponseRead ∷ Planned false false false ∷ Reserved ∷ Started ∷ LetPass ∷ Begun ∷ Answered true false ∷ Released ∷ HungUp false
    ∷ UserLost ∷ [])

-- both services are asked for their options and adapt; the second closes the connection on which it was asked, and the next one goes
-- back in the midst of the response
abbrev pub adapted : List Event
adapted = reverse (
    RequestRead ∷ Stale ∷ Lent false ∷ Asked ∷ Learned true ∷ Planned true true false ∷ Reserved ∷ Told ∷ Dialed false ∷ Started ∷ LetPass
    ∷ Served true ∷ Sent ∷ Returned true ∷ Released
    ∷ ResponseRead ∷ Stale ∷ Lent true ∷ Asked ∷ Learned false ∷ Returned false ∷ Planned true false false ∷ Lent false ∷ Reserved ∷ Started
    ∷ LetPass ∷ Begun ∷ Served true ∷ Returned true ∷ Answered false false ∷ Released ∷ HungUp false ∷ UserClosed ∷ [])

-- the service answers the request itself, and the user sends another one
abbrev pub blocked : List Event
blocked = reverse (
    RequestRead ∷ Planned true false false ∷ Lent true ∷ Reserved ∷ Dialed false ∷ Started ∷ LetPass ∷ Begun ∷ Served true ∷ Answered true
    false
    ∷ Returned true ∷ Released ∷ HungUp false ∷ HeadBegun ∷ RequestRead ∷ Failed causes.Elsewhere ∷ Refused ∷ UserClosed ∷ [])

-- the user doesn't take at once that it is told to send its body
abbrev pub stuck : List Event
stuck = reverse (
    RequestRead ∷ Planned true true false ∷ Lent false ∷ Reserved ∷ HalfTold ∷ Stuck ∷ Returned true ∷ Released ∷ Told
    ∷ Planned true false false ∷ Lent true ∷ Reserved ∷ Dialed false ∷ Started ∷ LetPass ∷ Failed causes.Elsewhere ∷ Returned false ∷
    Released
    ∷ HungUp false ∷ Refused ∷ UserClosed ∷ [])

-- idle connections turn out to be closed
abbrev pub renewed_twice : List Event
renewed_twice = reverse (
    RequestRead ∷ Stale ∷ Lent true ∷ Asked ∷ Renewed ∷ Learned false ∷ Returned false ∷ Planned true false false ∷ Lent true ∷ Reserved
    ∷ Dialed false ∷ Started ∷ LetPass ∷ Renewed ∷ Failed causes.Elsewhere ∷ HungUp false ∷ Returned false ∷ Released ∷ Refused ∷ UserClosed
    ∷ [])

-- all connections are leased: the request waits for one, is planned anew, and its response waits in vain
abbrev pub waited : List Event
waited = reverse (
    RequestRead ∷ Planned true false false ∷ Queued ∷ Lent true ∷ Planned true false false ∷ Reserved ∷ Dialed false ∷ Started ∷ LetPass
    ∷ Served false ∷ Returned false ∷ Sent ∷ Released ∷ ResponseRead ∷ Stale ∷ Queued ∷ Failed causes.Scarce
    ∷ HungUp false ∷ Refused ∷ UserClosed ∷ [])

-- no room for the request: what was leased for it goes back before the refusal is out
abbrev pub refused : List Event
refused = reverse (RequestRead ∷ Planned true false false ∷ Lent true ∷ Failed causes.Scarce ∷ Returned true ∷ Refused ∷ UserClosed ∷ [])

-- the origin breaks off in the midst of its answer
abbrev pub cut : List Event
cut = reverse (
    RequestRead ∷ Planned false false false ∷ Reserved ∷ Dialed false ∷ Started ∷ LetPass ∷ Sent ∷ Released
    ∷ ResponseRead ∷ Planned false false false ∷ Reserved ∷ Started ∷ LetPass ∷ Begun ∷ Failed causes.Elsewhere ∷ HungUp false ∷ Released ∷
    Dropped ∷ [])

-- a service says nothing, and the user doesn't take the refusal
abbrev pub late : List Event
late = reverse (
    RequestRead ∷ Planned true false false ∷ Lent false ∷ Reserved ∷ Dialed false ∷ Started ∷ LetPass ∷ Failed causes.Deadline ∷ Returned
    false
    ∷ Released ∷ HungUp false ∷ Late ∷ [])

-- the proxy drains while a request goes on: its answer keeps the connection, and the next one ends it, though it would keep it
abbrev pub drained : List Event
drained = reverse (
    RequestRead ∷ Planned true false false ∷ Lent false ∷ Reserved ∷ Dialed false ∷ Started ∷ LetPass ∷ Drain ∷ Begun ∷ Served true
    ∷ Answered true false ∷ Returned true ∷ Released ∷ HungUp false ∷ HeadBegun
    ∷ RequestRead ∷ Planned true false false ∷ Lent true ∷ Reserved ∷ Dialed false ∷ Started ∷ LetPass ∷ Begun ∷ Served true
    ∷ Answered true false ∷ Returned true ∷ Released ∷ HungUp false ∷ UserClosed ∷ [])

-- the user goes away while its service is asked
abbrev pub left : List Event
left = reverse (RequestRead ∷ Stale ∷ Lent false ∷ Asked ∷ UserLost ∷ Returned false ∷ [])

-- the proxy stops, and the user doesn't take the refusal: the lease and the reservation are left for the audit
abbrev pub stopped : List Event
stopped = reverse (
    RequestRead ∷ Planned true false false ∷ Lent false ∷ Reserved ∷ Dialed false ∷ Started ∷ LetPass ∷ Stop ∷ Tried ∷ [])

-- a user for whom there is no room
abbrev pub turned_away : List Event
turned_away = reverse (Failed causes.Scarce ∷ Refused ∷ UserClosed ∷ [])

-- the origin's connection was kept, and is kept again; the user says no more
abbrev pub kept_on : List Event
kept_on = reverse (
    RequestRead ∷ Planned false false true ∷ Reserved ∷ Dialed true ∷ Started ∷ LetPass ∷ Sent ∷ Released
    ∷ Heard ∷ ResponseRead ∷ Planned false false false ∷ Reserved ∷ Started ∷ LetPass ∷ Begun ∷ Answered true true ∷ Released
    ∷ HungUp true ∷ UserLost ∷ [])

-- the kept connection turns out to be closed once the request is out: what is held goes back, and a fresh one answers
abbrev pub withdrawn : List Event
withdrawn = reverse (
    RequestRead ∷ Planned false false true ∷ Reserved ∷ Dialed true ∷ Started ∷ LetPass ∷ Sent ∷ Withdrawn ∷ Released ∷ HungUp false
    ∷ Planned false false true ∷ Reserved ∷ Dialed false ∷ Started ∷ LetPass ∷ Sent ∷ Released
    ∷ ResponseRead ∷ Planned false false false ∷ Reserved ∷ Started ∷ LetPass ∷ Begun ∷ Answered true true ∷ Released ∷ HungUp true
    ∷ UserLost ∷ [])

-- so it does while the request is offered to its service, whose options aren't fresh any more
abbrev pub withdrawn_early : List Event
withdrawn_early = reverse (
    RequestRead ∷ Planned true false true ∷ Lent true ∷ Reserved ∷ Dialed true ∷ Started ∷ LetPass ∷ Withdrawn
    ∷ Returned false ∷ Released ∷ HungUp false ∷ Stale ∷ Lent false ∷ Asked ∷ Learned true ∷ Planned true false true ∷ Reserved
    ∷ Dialed false ∷ Started ∷ LetPass ∷ Begun ∷ Served true ∷ Answered false false ∷ Returned true ∷ Released ∷ HungUp false
    ∷ UserClosed ∷ [])
