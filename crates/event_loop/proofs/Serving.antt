-- What a loop serves: events, queues and users, in a turn and in a round.
use Rattle.std.proofs.Common.{◌≡◌, ℕ, ◌+◌, ◌<◌, ◌⊎◌, below_more, take, get_or, inl, inr, Option, Some, None, Bool, true, false, List, []}
use Rattle.std.proofs.Common.{◌∷◌, ◌++◌, length, map, refl, ap, sym, ◌∙◌, subst, append_assoc, arith}
use Rattle.std.specs.Prelude.{All, ◌*◌, ⊤, nat_lt}
use Rattle.std.proofs.lemmas.List.{length-map}
use Rattle.std.proofs.lemmas.List.Elements.{All-nil, All-push, All-weaker, All-more}
use Rattle.mio.specs.Events.{items}
use Rattle.socket_wire.specs.declared.token.Peer.{Peer}
use Rattle.socket_wire.specs.declared.token.Peer.TheVariants.{User, Origin, Service}
use Rattle.socket_wire.specs.Token.{peer_number}
use Rattle.event_loop.specs.declared.ready_list.ReadyList.{ReadyList}
use Rattle.event_loop.specs.Marks.{is_marked}
use Rattle.event_loop.specs.declared.inbox.Handed.{Handed}
use Rattle.event_loop.specs.declared.event.Event.{Event}
use Rattle.event_loop.specs.declared.work.Work.{Ghosts as Work}
use Rattle.event_loop.specs.declared.looping.EventLoop.{EventLoop}
use Rattle.event_loop.specs.declared.looping.TheConstants.{WAKER, ADMIN, METRICS}
use Rattle.event_loop.specs.declared.reports.TheConstants.{EVENTS}
use Rattle.event_loop.specs.Reports.{words_of}
use Rattle.event_loop.specs.Deeds.{Deed}
use Rattle.event_loop.specs.Deeds.Deed.{Heard, Noted}
use Rattle.event_loop.specs.Turns.{IsTied, Does, Did, Stands, IsDriven, Gets, IsDue, IsServed, IsAsked, IsAdmitted, AreServed, IsNote}
use Rattle.event_loop.specs.Turns.{AreNotes, IsNoted, NotesFirst, IsWoken, Serves, ServesRound, polled, second}
use Rattle.event_loop.proofs.Turning.{does_nothing, does_then, tied_then, did_then, did_is, did_behind, stands_more, stands_older}
use Rattle.event_loop.proofs.Turning.{stands_newest, driven_more, driven_older, marked_gets, gets_more, gets_older, due_more, due_older, no}

-- where one of two holds, one of the two that they lead to does
either_map : {A B C D : Type 0} → (A → C) → (B → D) → A ⊎ B → C ⊎ D
either_map f g (inl a) = inl (f a)
either_map f g (inr b) = inr (g b)

-- an event that was served is so after later deeds
pub served_more : {K : Type 0} (w : Work K) (b c : EventLoop K) (event : Event) {deeds : List Deed} (more : List Deed) → Does w b c more
    → IsTied w b
    → IsServed event deeds b.ready → IsServed event (more ++ deeds) c.ready
served_more w b c event more d tied h n p e = either_map (stands_more more) (λ due. (due.0, due_more w b c due.0 more d tied due.1))
    (h n p e)

-- an event that was served is so with older deeds before
pub served_older : (event : Event) {deeds : List Deed} (ready : ReadyList) (older : List Deed) → IsServed event deeds ready
    → IsServed event (deeds ++ older) ready
served_older event ready older h n p e = either_map (stands_older older) (λ due. (due.0, due_older due.0 ready older due.1)) (h n p e)

-- an event of a connection is news for an exchange, which gets a turn after that
pub served_news : (event : Event) (number : ℕ) (peer : Peer) (key : ℕ) (ready : ReadyList)
    → ((n : ℕ) (p : Peer) → event.token ≡ 4 * n + peer_number p → (number ≡ n) × (peer ≡ p))
    → (deeds : List Deed) → IsDue key (Noted number peer event.told (Some key)) deeds ready → IsServed event deeds ready
served_news event number peer key ready named deeds due n p e =
    let same = named n p e in
    inr (
      key,
      subst (λ (m : ℕ). IsDue key (Noted m p event.told (Some key)) deeds ready) same.0
          (subst (λ (q : Peer). IsDue key (Noted number q event.told (Some key)) deeds ready) same.1 due),
    )

-- it is no news, or nobody has the connection
pub served_still : (event : Event) (number : ℕ) (peer : Peer) (ready : ReadyList)
    → ((n : ℕ) (p : Peer) → event.token ≡ 4 * n + peer_number p → (number ≡ n) × (peer ≡ p))
    → IsServed event (Noted number peer event.told None ∷ []) ready
served_still event number peer ready named n p e =
    let same = named n p e in
    let deeds : List Deed = Noted number peer event.told None ∷ [] in
    inl (subst (λ (m : ℕ). Stands (Noted m p event.told None) deeds) same.0
    (subst (λ (q : Peer). Stands (Noted number q event.told None) deeds) same.1
    (record { later = []; before = []; is = refl })))

-- notes of events, and then others
pub notes_then : (first second : List Deed) → AreNotes first → AreNotes second → AreNotes (second ++ first)
notes_then first [] f s = f
notes_then first (deed ∷ second) f s = (s.0, notes_then first second f s.1)

-- what is served was noted
noted : (event : Event) (deeds : List Deed) (ready : ReadyList) → IsServed event deeds ready → IsNoted event deeds
noted event deeds ready h number peer e = elim (h number peer e) as (λ _. (news : Option ℕ)
    × Stands (Noted number peer event.told news) deeds) [
      | inl still ↦ (None, still)
      | inr due ↦ (Some due.0, record { later = due.1.later; before = due.1.before; is = due.1.is })
    ]

-- an event that was noted is so with older deeds before
noted_older : (event : Event) (deeds older : List Deed) → IsNoted event deeds → IsNoted event (deeds ++ older)
noted_older event deeds older h number peer e = let one = h number peer e in (one.0, stands_older older one.1)

-- events that were noted alone were noted first, whatever comes after
notes_first : (events : List Event) (ready : ReadyList) (deeds more : List Deed) → AreNotes deeds
    → All (λ (x : Event). IsServed x deeds ready) events
    → NotesFirst events (more ++ deeds)
notes_first events ready deeds more only served = record {
  later = more;
  notes = deeds;
  is = refl;
  only = only;
  each = All-weaker (λ (x : Event). IsServed x deeds ready) (λ (x : Event). IsNoted x deeds) (λ x. noted x deeds ready) events served;
}

-- events that were noted before all else are so after later deeds
first_more : (events : List Event) (deeds more : List Deed) → NotesFirst events deeds → NotesFirst events (more ++ deeds)
first_more events deeds more h = record {
  later = more ++ h.later;
  notes = h.notes;
  is = ap (λ (ds : List Deed). more ++ ds) h.is ∙ sym (append_assoc more h.later h.notes);
  only = h.only;
  each = h.each;
}

-- events that were noted before all else are so with older deeds before, if those are notes
first_older : (events : List Event) (deeds older : List Deed) → AreNotes older → NotesFirst events deeds
    → NotesFirst events (deeds ++ older)
first_older events deeds older notes h = record {
  later = h.later;
  notes = h.notes ++ older;
  is = ap (λ (ds : List Deed). ds ++ older) h.is ∙ append_assoc h.later h.notes older;
  only = notes_then older h.notes notes h.only;
  each = All-weaker (λ (x : Event). IsNoted x h.notes) (λ (x : Event). IsNoted x (h.notes ++ older)) (λ x. noted_older x h.notes older)
      events h.each;
}

-- no event of a connection has the token of the waker
no_waker : (k : ℕ) (p : Peer) → 4 * k + peer_number p ≡ WAKER.0 → ⊥
no_waker k User e = omega arith
no_waker k Origin e = omega arith
no_waker k Service e = omega arith

-- no event of a connection has the token of the admin port
pub no_admin : (k : ℕ) (p : Peer) → 4 * k + peer_number p ≡ ADMIN.0 → ⊥
no_admin k User e = omega arith
no_admin k Origin e = omega arith
no_admin k Service e = omega arith

-- no event of a connection has the token of the metrics port
pub no_metrics : (k : ℕ) (p : Peer) → 4 * k + peer_number p ≡ METRICS.0 → ⊥
no_metrics k User e = omega arith
no_metrics k Origin e = omega arith
no_metrics k Service e = omega arith

-- one event more was served
pub serve_step : {K : Type 0} (w : Work K) (b c : EventLoop K) (xs : List Event) (at : ℕ) (event : Event) (woken : Bool) → at < length xs
    → ((d : Event) → event ≡ get_or xs at d)
    → (event.token ≡ WAKER.0 → ⊥) → (first second : List Deed) → Does w b c second → IsTied w b
    → AreServed (take at xs) woken first b.ready → IsServed event second c.ready
    → AreServed (take (at + 1) xs) woken (second ++ first) c.ready
serve_step w b c xs at event woken less is no_wake first second d tied h one = record {
  served = All-more (λ (x : Event). IsServed x (second ++ first) c.ready) xs at event less
      (All-weaker (λ (x : Event). IsServed x first b.ready) (λ (x : Event). IsServed x (second ++ first) c.ready)
      (λ x. served_more w b c x second d tied) (take at xs) h.served)
      (subst (λ (x : Event). IsServed x (second ++ first) c.ready) (is event) (served_older event c.ready first one));
  woke = λ asleep. All-more (λ (x : Event). x.token ≡ WAKER.0 → ⊥) xs at event less (h.woke asleep)
      (subst (λ (x : Event). x.token ≡ WAKER.0 → ⊥) (is event) no_wake);
}

-- one more says that the loop was woken
pub wake_step : (xs : List Event) (at : ℕ) (event : Event) (woken : Bool) (ready : ReadyList) → at < length xs
    → ((d : Event) → event ≡ get_or xs at d)
    → event.token ≡ WAKER.0 → (deeds : List Deed) → AreServed (take at xs) woken deeds ready → AreServed (take (at + 1) xs) true deeds ready
wake_step xs at event woken ready less is wake deeds h = record {
  served = All-more (λ (x : Event). IsServed x deeds ready) xs at event less h.served
      (subst (λ (x : Event). IsServed x deeds ready) (is event) (λ k p e. absurd (no_waker k p (sym e ∙ wake))));
  woke = λ asleep. absurd (no (sym asleep));
}

-- a queue that was asked is so after later deeds
pub asked_more : {K : Type 0} (w : Work K) (b c : EventLoop K) (queue : ℕ) {deeds : List Deed} (more : List Deed) → Does w b c more
    → IsTied w b
    → IsAsked queue deeds b.ready → IsAsked queue (more ++ deeds) c.ready
asked_more w b c queue more d tied (inl s) = inl (stands_more more s)
asked_more w b c queue more d tied (inr s) = inr (s.0, due_more w b c s.0 more d tied s.1)

-- a queue that was asked is so with older deeds before
pub asked_older : (queue : ℕ) {deeds : List Deed} (ready : ReadyList) (older : List Deed) → IsAsked queue deeds ready
    → IsAsked queue (deeds ++ older) ready
asked_older queue ready older (inl s) = inl (stands_older older s)
asked_older queue ready older (inr s) = inr (s.0, due_older s.0 ready older s.1)

-- one queue more was asked
pub asked_below : {K : Type 0} (w : Work K) (b c : EventLoop K) (n : ℕ) (first second : List Deed) → Does w b c second → IsTied w b
    → ((queue : ℕ) → queue < n → IsAsked queue first b.ready) → IsAsked n second c.ready
    → (queue : ℕ) → queue < n + 1 → IsAsked queue (second ++ first) c.ready
asked_below w b c n first second d tied below one =
    below_more (λ queue. IsAsked queue (second ++ first) c.ready) n (λ queue less. asked_more w b c queue second d tied (below queue less))
    (asked_older n c.ready first one)

-- a user that was taken in, passed on or closed is so after later deeds
pub admitted_more : {K : Type 0} (w : Work K) (b c : EventLoop K) (number : ℕ) {deeds : List Deed} (more : List Deed) → Does w b c more
    → IsTied w b
    → IsAdmitted number deeds b.ready → IsAdmitted number (more ++ deeds) c.ready
admitted_more w b c number more d tied (inl s) = inl (s.0, due_more w b c s.0 more d tied s.1)
admitted_more w b c number more d tied (inr (inl s)) = inr (inl (s.0, stands_more more s.1))
admitted_more w b c number more d tied (inr (inr s)) = inr (inr (stands_more more s))

-- a user that was taken in, passed on or closed is so with older deeds before
pub admitted_older : (number : ℕ) {deeds : List Deed} (ready : ReadyList) (older : List Deed) → IsAdmitted number deeds ready
    → IsAdmitted number (deeds ++ older) ready
admitted_older number ready older (inl s) = inl (s.0, due_older s.0 ready older s.1)
admitted_older number ready older (inr (inl s)) = inr (inl (s.0, stands_older older s.1))
admitted_older number ready older (inr (inr s)) = inr (inr (stands_older older s))

-- one user more was taken in
pub admitted_next : {K : Type 0} (w : Work K) (b c : EventLoop K) (xs : List Handed) (x : Handed) (first second : List Deed)
    → Does w b c second → IsTied w b
    → All (λ (user : Handed). IsAdmitted user.number first b.ready) xs → IsAdmitted x.number second c.ready
    → All (λ (user : Handed). IsAdmitted user.number (second ++ first) c.ready) (xs ++ x ∷ [])
admitted_next w b c xs x first second d tied h one =
    All-push (λ (user : Handed). IsAdmitted user.number (second ++ first) c.ready) xs x
    (All-weaker (λ (user : Handed). IsAdmitted user.number first b.ready)
    (λ (user : Handed). IsAdmitted user.number (second ++ first) c.ready)
    (λ user. admitted_more w b c user.number second d tied) xs h)
    (admitted_older x.number c.ready first one)

-- a loop was woken if one of the events says so, where none says it of one that wasn't
was_woken : (woken : Bool) (events : List Event) → (woken ≡ false → All (λ (event : Event). event.token ≡ WAKER.0 → ⊥) events)
    → IsWoken events → woken ≡ true
was_woken true events h woke = refl
was_woken false events h woke = absurd (woke (h refl))

-- what a loop does of the reported events it has done after later deeds
serves_more : {K : Type 0} (w : Work K) (a b c : EventLoop K) (events : List Event) (deeds more : List Deed) → Does w b c more → IsTied w b
    → Serves w a b events deeds → Serves w a c events (more ++ deeds)
serves_more w a b c events deeds more d tied h = record {
  ready = λ key was. driven_more key more (h.ready key was);
  first = first_more events deeds more h.first;
  served = All-weaker (λ (x : Event). IsServed x deeds b.ready) (λ (x : Event). IsServed x (more ++ deeds) c.ready)
      (λ x. served_more w b c x more d tied) events h.served;
  asked = λ woke queue less. asked_more w b c queue more d tied (h.asked woke queue less);
}

-- a call after those
pub serves_then : {K : Type 0} (w : Work K) (a b c : EventLoop K) (events : List Event) {P : List Deed → Type 0}
    → Did w a b (Serves w a b events) → Did w b c P → Did w a c (Serves w a c events)
serves_then w a b c events f s = did_then w a b c f s (λ first second g d tied p q. serves_more w a b c events first second d tied p)

-- a call before those, in which events were noted at most: one with a mark is driven in it, or has a mark after it
serves_older : {K : Type 0} (w : Work K) (a b c : EventLoop K) (events : List Event) (first second : List Deed) → Does w a b first
    → IsTied w a → AreNotes first
    → Serves w b c events second → Serves w a c events (second ++ first)
serves_older w a b c events first second d tied notes h = record {
  ready = λ key was.
      elim (marked_gets w a b key first d tied was) as (λ _. IsDriven key (second ++ first)) [
        | inl driven ↦ driven_more key second driven
        | inr marked ↦ driven_older key first (h.ready key marked)
      ];
  first = first_older events second first notes h.first;
  served = All-weaker (λ (x : Event). IsServed x second c.ready) (λ (x : Event). IsServed x (second ++ first) c.ready)
      (λ x. served_older x c.ready first) events h.served;
  asked = λ woke queue less. asked_older queue c.ready first (h.asked woke queue (subst (λ (n : ℕ). queue < n) (sym d.works.queues) less));
}

-- a turn after what the poll has reported was told, and nothing else
after_told : {K : Type 0} (w : Work K) (a b c : EventLoop K) (events : List Event) (told : Deed) → IsNote told → Does w a b (told ∷ [])
    → Did w b c (Serves w b c events) → Did w a c (λ deeds. Serves w a c events deeds × Stands told deeds)
after_told w a b c events told note d s = record {
  deeds = s.deeds ++ (told ∷ []);
  does = does_then w a b c (told ∷ []) s.deeds d s.does;
  holds = λ tied. (
    serves_older w a b c events (told ∷ []) s.deeds d tied (note, tt) (s.holds (tied_then w a b d tied)),
    stands_more s.deeds (stands_newest told []),
  );
}

-- each event was noted and served, before anything else was done; one that had a mark got a turn, or has a mark still
record Began {K : Type 0} (w : Work K) (a b : EventLoop K) (woken : Bool) (deeds : List Deed) : Type 0 where
  ready : (key : ℕ) → is_marked a.ready key ≡ true → Gets key deeds b.ready
  first : NotesFirst a.reports.seen.items deeds
  seen : AreServed a.reports.seen.items woken deeds b.ready

-- where each event was noted and served, it is so after later deeds
began_more : {K : Type 0} (w : Work K) (a b c : EventLoop K) (woken : Bool) (deeds more : List Deed) → Does w b c more → IsTied w b
    → Began w a b woken deeds → Began w a c woken (more ++ deeds)
began_more w a b c woken deeds more d tied h = let xs : List Event = a.reports.seen.items in record {
  ready = λ key was. gets_more w b c key more d tied (h.ready key was);
  first = first_more xs deeds more h.first;
  seen = record {
    served = All-weaker (λ (x : Event). IsServed x deeds b.ready) (λ (x : Event). IsServed x (more ++ deeds) c.ready)
        (λ x. served_more w b c x more d tied) xs h.seen.served;
    woke = h.seen.woke;
  };
}

-- and those that had a mark were driven
record Turned {K : Type 0} (w : Work K) (a b : EventLoop K) (woken : Bool) (deeds : List Deed) : Type 0 where
  ready : (key : ℕ) → is_marked a.ready key ≡ true → IsDriven key deeds
  began : Began w a b woken deeds

-- where each event was served and those with a mark were driven, it is so after later deeds
turned_more : {K : Type 0} (w : Work K) (a b c : EventLoop K) (woken : Bool) (deeds more : List Deed) → Does w b c more → IsTied w b
    → Turned w a b woken deeds → Turned w a c woken (more ++ deeds)
turned_more w a b c woken deeds more d tied h = record {
  ready = λ key was. driven_more key more (h.ready key was);
  began = began_more w a b c woken deeds more d tied h.began;
}

-- the parts of a turn, one after another
pub turn_served : {K : Type 0} (w : Work K) (a m1 m2 m3 m4 m5 m6 m7 b : EventLoop K) (woken : Bool) {P Q R S : List Deed → Type 0}
    → Did w a m1 (λ deeds. AreServed a.reports.seen.items woken deeds m1.ready × AreNotes deeds)
    → Did w m1 m2 S
    → Did w m2 m3 (λ deeds. (key : ℕ) → is_marked m2.ready key ≡ true → IsDriven key deeds)
    → Did w m3 m4 P → Did w m4 m5 Q
    → Did w m5 m6 (λ deeds. woken ≡ true → (queue : ℕ) → queue < w.queues m5.work → IsAsked queue deeds m6.ready)
    → Does w m6 m7 [] → Did w m7 b R → Did w a b (Serves w a b a.reports.seen.items)
turn_served w a m1 m2 m3 m4 m5 m6 m7 b woken d1 d2 d3 d4 d5 d6 d7 d8 =
    let xs : List Event = a.reports.seen.items in
    let s1 : Did w a m1 (Began w a m1 woken) = record {
      deeds = d1.deeds;
      does = d1.does;
      holds = λ tied. record {
        ready = λ key was. marked_gets w a m1 key d1.deeds d1.does tied was;
        first = notes_first xs m1.ready d1.deeds [] (d1.holds tied).1 (d1.holds tied).0.served;
        seen = (d1.holds tied).0;
      };
    } in
    let s2 : Did w a m2 (Began w a m2 woken) = did_then w a m1 m2 s1 d2
    (λ first second f d tied p q. began_more w a m1 m2 woken first second d tied p) in
    let s3 : Did w a m3 (Turned w a m3 woken) = did_then w a m2 m3 s2 d3 (λ first second f d tied p q. record {
      ready = λ key was. elim (p.ready key was) as (λ _. IsDriven key (second ++ first)) [
        | inl driven ↦ driven_more key second driven
        | inr marked ↦ driven_older key first (q key marked)
      ];
      began = began_more w a m2 m3 woken first second d tied p;
    }) in
    let s4 : Did w a m4 (Turned w a m4 woken) = did_then w a m3 m4 s3 d4
    (λ first second f d tied p q. turned_more w a m3 m4 woken first second d tied p) in
    let s5 : Did w a m5 (Turned w a m5 woken) = did_then w a m4 m5 s4 d5
    (λ first second f d tied p q. turned_more w a m4 m5 woken first second d tied p) in
    let s6 : Did w a m6 (Serves w a m6 xs) = did_then w a m5 m6 s5 d6 (λ first second f d tied p q.
    let both = turned_more w a m5 m6 woken first second d tied p in
    record {
      ready = both.ready;
      first = both.began.first;
      served = both.began.seen.served;
      asked = λ woke queue less. asked_older queue m6.ready first (q (was_woken woken xs p.began.seen.woke woke) queue
          (subst (λ (n : ℕ). queue < n) (sym f.works.queues) less));
    }) in
    let s7 = serves_then w a m6 m7 xs s6 (did_is w m6 m7 {P = λ _. ⊤} [] d7 tt) in
    serves_then w a m7 b xs s7 d8

-- what was done after a poll
pub polled_did : {K : Type 0} (w : Work K) (a m b : EventLoop K) {P : List Deed → Type 0} → m.work ≡ a.work → m.ready ≡ a.ready
    → Did w m b P → Did w (polled a b) b (λ deeds. ⊤)
polled_did w a m b work ready d = did_behind w (polled a b) m b (does_nothing w (polled a b) m work ready (sym d.does.reports)) d

-- the parts of a round
pub round_served : {K : Type 0} (w : Work K) (a m0 m1 m2 m3 b : EventLoop K) (before : ℕ)
    → m0.work ≡ a.work → m0.ready ≡ a.ready → before ≡ second a
    → m0.reports.seen.items ≡ map words_of (items m0.reports.events)
    → Does w m0 m1 (Heard (nat_lt (length m0.reports.seen.items) EVENTS) ∷ []) → Does w m1 m2 []
    → Did w m2 m3 (Serves w m2 m3 m2.reports.seen.items)
    → Did w m3 b (λ deeds. (second b ≡ before → ⊥) → (key : ℕ) → key < w.bound m3.work → Gets key deeds b.ready)
    → Did w (polled a b) b (ServesRound w a b)
round_served {K} w a m0 m1 m2 m3 b before work ready seconds seen d1 d2 d3 d4 =
    let xs : List Event = map words_of (items b.reports.events) in
    let told : Deed = Heard (nat_lt (length m0.reports.seen.items) EVENTS) in
    let x2 : Does w m0 m2 (told ∷ []) = does_then w m0 m1 m2 (told ∷ []) [] d1 d2 in
    let same = sym (d4.does.reports ∙ (d3.does.reports ∙ x2.reports)) in
    let heard : m2.reports.seen.items ≡ xs =
    ap (λ r. r.seen.items) x2.reports ∙ (seen ∙ ap (λ r. map words_of (items r.events)) same) in
    let s3 : Did w m2 m3 (Serves w m2 m3 xs) = subst (λ (es : List Event). Did w m2 m3 (Serves w m2 m3 es)) heard d3 in
    let many : length m0.reports.seen.items ≡ length (items b.reports.events) =
    ap (λ (es : List Event). length es) (seen ∙ ap (λ r. map words_of (items r.events)) same)
    ∙ length-map (items b.reports.events) words_of in
    let start : Does w (polled a b) m0 [] = does_nothing w (polled a b) m0 work ready same in
    let polls : Does w (polled a b) m2 (told ∷ []) = does_then w (polled a b) m0 m2 [] (told ∷ []) start x2 in
    let u3 : Did w (polled a b) m3 (λ deeds. Serves w (polled a b) m3 xs deeds × Stands told deeds) =
    after_told w (polled a b) m2 m3 xs told tt polls s3 in
    did_then w (polled a b) m3 b u3 d4 (λ first second f d tied p q.
    let turn = serves_more w (polled a b) m3 b xs first second d tied p.0 in
    record {
      turn = record { ready = turn.ready; first = turn.first; served = turn.served; asked = turn.asked };
      told = stands_more second (subst (λ (n : ℕ). Stands (Heard (nat_lt n EVENTS)) first) many p.1);
      seconds = λ later key less.
          gets_older key b.ready first (q (λ e. later (e ∙ seconds)) key (subst (λ (n : ℕ). key < n) (sym f.works.bound) less));
    })

-- no event is served yet
pub served_none : (xs : List Event) (ready : ReadyList) → AreServed (take 0 xs) false [] ready
served_none xs ready = record {
  served = All-nil (λ (x : Event). IsServed x [] ready);
  woke = λ asleep. All-nil (λ (x : Event). x.token ≡ WAKER.0 → ⊥);
}
