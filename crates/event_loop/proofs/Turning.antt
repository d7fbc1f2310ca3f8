-- Calls of a loop, one after another.
use Rattle.std.proofs.Common.{◌≡◌, ℕ, ◌+◌, ◌<◌, ◌≤◌, ◌⊎◌, ◌||◌, below_more, zero, suc, get_or, Result, Ok, Err, IsErr, OnOk, IfOk, inl, inr}
use Rattle.std.proofs.Common.{Some, None, Bool, true, false, cond, List, [], ◌∷◌, ◌++◌, length, refl, ap, sym, ◌∙◌, subst, append_assoc}
use Rattle.std.proofs.Common.{arith}
use Rattle.std.specs.Prelude.{nat_eq, slice_index_or, ⊤}
use Rattle.std.proofs.lemmas.Bool.Decides.{eqb_tells}
use Rattle.event_loop.specs.declared.ready_list.ReadyList.{ReadyList}
use Rattle.event_loop.specs.Marks.{is_marked, count}
use Rattle.event_loop.specs.declared.work.Driven.{Driven}
use Rattle.event_loop.specs.declared.work.Driven.TheVariants.{Waiting, Paused, CutShort, Blocked, Over}
use Rattle.event_loop.specs.declared.work.Work.{Ghosts as Work}
use Rattle.event_loop.specs.declared.looping.EventLoop.{EventLoop}
use Rattle.event_loop.specs.Deeds.{Deed, Adds, has_more, is_end, blocker}
use Rattle.event_loop.specs.Deeds.Deed.{TookIn, MadeRoom, Heard, Noted, Drove, GaveWay, Asked, Answered, EndedTurn, Drained, Halted}
use Rattle.event_loop.specs.Turns.{owes, owes_after, ends, Follows, AreOrderly, IsTied, Works, Does, Did, Answers, Stands, IsDriven, Drives}
use Rattle.event_loop.specs.Turns.{Gets, IsDue, ways}

-- deeds of a work, one after another
pub works_then : {K : Type 0} (w : Work K) (a b c : K) (first second : List Deed) → Works w a b first → Works w b c second
    → Works w a c (second ++ first)
works_then {K} w a b c first second f s = record {
  past = λ past h. subst (λ (ds : List Deed). w.past c ds) (sym (append_assoc second first past)) (s.past (first ++ past) (f.past past h));
  bound = s.bound ∙ f.bound;
  queues = s.queues ∙ f.queues;
}

-- a work that stays as it is did no deeds
pub works_same : {K : Type 0} (w : Work K) (a b : K) → b ≡ a → Works w a b []
works_same {K} w a b e = record {
  past = λ past h. subst (λ (k : K). w.past k past) (sym e) h;
  bound = ap (λ (k : K). w.bound k) e;
  queues = ap (λ (k : K). w.queues k) e;
}

-- a work that adds one deed to its past, and keeps its keys and queues, did that deed
pub works_one : {K : Type 0} (w : Work K) (a b : K) (deed : Deed) → Adds (w.past a) (w.past b) deed
    → (w.bound b ≡ w.bound a) × (w.queues b ≡ w.queues a) → Works w a b (deed ∷ [])
works_one w a b deed past kept = record { past = past; bound = kept.0; queues = kept.1 }

-- false isn't true
pub no : false ≡ true → ⊥
no e = cc

-- none isn't some number
none_some : {n : ℕ} → None ≡ Some n → ⊥
none_some e = cc

-- where neither of two is true, each is false
pub neither : (x y : Bool) → x || y ≡ false → (x ≡ false) × (y ≡ false)
neither true y e = absurd (no (sym e))
neither false y e = (refl, e)

-- with neither of these deeds a turn ends
pub ends_then : (first second : List Deed) → ends first ≡ false → ends second ≡ false → ends (second ++ first) ≡ false
ends_then first [] f s = f
ends_then first (deed ∷ second) f s = let parts = neither (is_end deed) (ends second) s in rw parts.0 (ends_then first second f parts.1)

-- the exchange that blocks by the newest deed does so with older deeds before
blocker_more : (other : ℕ) (more deeds : List Deed) → blocker more ≡ Some other → blocker (more ++ deeds) ≡ Some other
blocker_more other [] deeds e = absurd (none_some e)
blocker_more other (Drove key (Blocked it) ∷ more) deeds e = e
blocker_more other (Drove key Waiting ∷ more) deeds e = absurd (none_some e)
blocker_more other (Drove key Paused ∷ more) deeds e = absurd (none_some e)
blocker_more other (Drove key CutShort ∷ more) deeds e = absurd (none_some e)
blocker_more other (Drove key Over ∷ more) deeds e = absurd (none_some e)
blocker_more other (TookIn number admitted ∷ more) deeds e = absurd (none_some e)
blocker_more other (MadeRoom there ∷ more) deeds e = absurd (none_some e)
blocker_more other (Heard is_whole ∷ more) deeds e = absurd (none_some e)
blocker_more other (Noted number peer told news ∷ more) deeds e = absurd (none_some e)
blocker_more other (GaveWay it ∷ more) deeds e = absurd (none_some e)
blocker_more other (Asked queue first ∷ more) deeds e = absurd (none_some e)
blocker_more other (Answered request ∷ more) deeds e = absurd (none_some e)
blocker_more other (EndedTurn ∷ more) deeds e = absurd (none_some e)
blocker_more other (Drained ∷ more) deeds e = absurd (none_some e)
blocker_more other (Halted ∷ more) deeds e = absurd (none_some e)

-- a deed with which no turn ends may be done after more
follows_more : (deed : Deed) (more deeds : List Deed) → is_end deed ≡ false → Follows deed more → Follows deed (more ++ deeds)
follows_more (GaveWay other) more deeds e h = blocker_more other more deeds h
follows_more EndedTurn more deeds e h = absurd (no (sym e))
follows_more (Drove other driven) more deeds e h = tt
follows_more (TookIn number admitted) more deeds e h = tt
follows_more (MadeRoom there) more deeds e h = tt
follows_more (Heard is_whole) more deeds e h = tt
follows_more (Noted number peer told news) more deeds e h = tt
follows_more (Asked queue first) more deeds e h = tt
follows_more (Answered request) more deeds e h = tt
follows_more Drained more deeds e h = tt
follows_more Halted more deeds e h = tt

-- deeds with which no turn ends may be done after others
pub orderly_more : (more deeds : List Deed) → ends more ≡ false → AreOrderly more → AreOrderly deeds → AreOrderly (more ++ deeds)
orderly_more [] deeds e m d = d
orderly_more (deed ∷ more) deeds e m d =
    let parts = neither (is_end deed) (ends more) e in
    (follows_more deed more deeds parts.0 m.0, orderly_more more deeds parts.1 m.1 d)

-- with one deed that ends no turn, none ends
ends_one : (deed : Deed) → is_end deed ≡ false → ends (deed ∷ []) ≡ false
ends_one deed e = rw e refl

-- a choice that is true is so with another value that is true where its own is
cond_more : (b cut x y : Bool) → (x ≡ true → y ≡ true) → cond b cut x ≡ true → cond b cut y ≡ true
cond_more true cut x y h e = e
cond_more false cut x y h e = h e

-- a key that is owed a turn with fewer marks is so with more
after_more : (x y : Bool) (key : ℕ) (deed : Deed) → (x ≡ true → y ≡ true) → owes_after x key deed ≡ true → owes_after y key deed ≡ true
after_more x y key (Drove other driven) h e = cond_more (nat_eq other key) (has_more driven) x y h e
after_more x y key (TookIn number admitted) h e = h e
after_more x y key (MadeRoom there) h e = h e
after_more x y key (Heard is_whole) h e = h e
after_more x y key (Noted number peer told news) h e = h e
after_more x y key (GaveWay other) h e = h e
after_more x y key (Asked queue first) h e = h e
after_more x y key (Answered request) h e = h e
after_more x y key EndedTurn h e = h e
after_more x y key Drained h e = h e
after_more x y key Halted h e = h e

-- a turn owed after earlier and later deeds is owed after the later ones, if these begin with what the earlier owe
pub owes_then : (x y : Bool) (key : ℕ) (first second : List Deed) → (owes x key first ≡ true → y ≡ true)
    → owes x key (second ++ first) ≡ true → owes y key second ≡ true
owes_then x y key first [] h e = h e
owes_then x y key first (deed ∷ second) h e =
    after_more (owes x key (second ++ first)) (owes y key second) key deed (owes_then x y key first second h) e

-- marks for each key stay so
pub tied_then : {K : Type 0} (w : Work K) (a b : EventLoop K) {deeds : List Deed} → Does w a b deeds → IsTied w a → IsTied w b
tied_then w a b d tied =
    let bound = d.works.bound in let marks = d.marks in
    let after : w.bound b.work ≤ count b.ready = omega arith in
    after

-- a loop whose work, marks and reports stay did nothing
pub does_nothing : {K : Type 0} (w : Work K) (a b : EventLoop K) → b.work ≡ a.work → b.ready ≡ a.ready → b.reports ≡ a.reports
    → Does w a b []
does_nothing w a b work ready reports = record {
  works = works_same w a.work b.work work;
  owed = λ tied key h. ap (λ r. is_marked r key) ready ∙ h;
  marks = ap (λ r. count r) ready;
  within = refl;
  orderly = tt;
  reports = reports;
}

-- one call after another
pub does_then : {K : Type 0} (w : Work K) (a b c : EventLoop K) (first second : List Deed) → Does w a b first → Does w b c second
    → Does w a c (second ++ first)
does_then w a b c first second f s = record {
  works = works_then w a.work b.work c.work first second f.works s.works;
  owed = λ tied key h.
      s.owed (tied_then w a b f tied) key (owes_then (is_marked a.ready key) (is_marked b.ready key) key first second (f.owed tied key) h);
  marks = s.marks ∙ f.marks;
  within = ends_then first second f.within s.within;
  orderly = orderly_more second first s.within s.orderly f.orderly;
  reports = s.reports ∙ f.reports;
}

-- so for deeds of which something is known
pub did_then : {K : Type 0} (w : Work K) (a b c : EventLoop K) {P Q R : List Deed → Type 0} → Did w a b P → Did w b c Q
    → ((first second : List Deed) → Does w a b first → Does w b c second → IsTied w b → P first → Q second → R (second ++ first))
    → Did w a c R
did_then w a b c f s both = record {
  deeds = s.deeds ++ f.deeds;
  does = does_then w a b c f.deeds s.deeds f.does s.does;
  holds = λ tied.
      let after = tied_then w a b f.does tied in
      both f.deeds s.deeds f.does s.does after (f.holds tied) (s.holds after);
}

-- a loop that did these deeds did deeds of which all is known that holds of these
pub did_is : {K : Type 0} (w : Work K) (a b : EventLoop K) {P : List Deed → Type 0} (deeds : List Deed) → Does w a b deeds → P deeds
    → Did w a b P
did_is w a b deeds d p = record { deeds = deeds; does = d; holds = λ tied. p }

-- a loop that did nothing did deeds of which all is known that holds of an empty list
pub did_start : {K : Type 0} (w : Work K) (a : EventLoop K) {P : List Deed → Type 0} → P [] → Did w a a P
did_start w a p = did_is w a a [] (does_nothing w a a refl refl refl) p

-- what follows from what is known of a loop's deeds is known of them too
pub did_same : {K : Type 0} (w : Work K) (a b : EventLoop K) {P Q : List Deed → Type 0} → Did w a b P
    → ((deeds : List Deed) → P deeds → Q deeds) → Did w a b Q
did_same w a b d h = record { deeds = d.deeds; does = d.does; holds = λ tied. h d.deeds (d.holds tied) }

-- two calls, of which nothing is asked
pub did_and : {K : Type 0} (w : Work K) (a b c : EventLoop K) {P Q : List Deed → Type 0} → Did w a b P → Did w b c Q → Did w a c (λ _. ⊤)
did_and w a b c f s = did_then w a b c f s (λ first second f d tied p q. tt)

-- a call of which the deeds are known, after others
pub did_more : {K : Type 0} (w : Work K) (a b c : EventLoop K) {deeds : List Deed} {P : List Deed → Type 0} → Did w a b P → Does w b c deeds
    → Did w a c (λ _. ⊤)
did_more w a b c {deeds = ds} f d = record { deeds = ds ++ f.deeds; does = does_then w a b c f.deeds ds f.does d; holds = λ tied. tt }

-- a call of which the deeds are known, and then others
pub did_behind : {K : Type 0} (w : Work K) (a b c : EventLoop K) {deeds : List Deed} {P : List Deed → Type 0} → Does w a b deeds
    → Did w b c P → Did w a c (λ _. ⊤)
did_behind w a b c {deeds = ds} d s = record { deeds = s.deeds ++ ds; does = does_then w a b c ds s.deeds d s.does; holds = λ tied. tt }

-- what is said of a success holds of a call that failed
pub vacuous : {T E : Type 0} (P : Type 0) (r : Result T E) → IsErr r → OnOk r P
vacuous P (Ok x) h = absurd (no h)
vacuous P (Err e) h = tt

-- what is said of the value of a success holds of a call that failed
pub vacuous_if : {T E : Type 0} (P : T → Type 0) (r : Result T E) → IsErr r → IfOk r P
vacuous_if P (Ok x) h = absurd (no h)
vacuous_if P (Err e) h = tt

-- a call failed
pub did_fail : {K : Type 0} (w : Work K) (a b : EventLoop K) {P : List Deed → Type 0} (R : List Deed → Type 0) {T E : Type 0}
    (r : Result T E) → IsErr r
    → Did w a b P → Did w a b (λ deeds. OnOk r (R deeds))
did_fail w a b R r err f = did_same w a b f (λ deeds p. vacuous (R deeds) r err)

-- a call that failed did deeds of which all holds that is said of the value of a success
pub did_fail_if : {K : Type 0} (w : Work K) (a b : EventLoop K) {P : List Deed → Type 0} {T E : Type 0} (R : List Deed → T → Type 0)
    (r : Result T E) → IsErr r
    → Did w a b P → Did w a b (λ deeds. IfOk r (R deeds))
did_fail_if w a b R r err f = did_same w a b f (λ deeds p. vacuous_if (R deeds) r err)

-- what comes of what holds on a success holds on it too
pub on_ok_map : {T E P Q : Type 0} (r : Result T E) → (P → Q) → OnOk r P → OnOk r Q
on_ok_map (Ok x) h p = h p
on_ok_map (Err e) h p = tt

-- an exchange that gives way to a driven one changes nothing of who is owed a turn
way_still : (x : Bool) (k key : ℕ) (driven : Driven) → owes x k (ways driven ++ (Drove key driven ∷ [])) ≡ owes x k (Drove key driven ∷ [])
way_still x k key Waiting = refl
way_still x k key Paused = refl
way_still x k key CutShort = refl
way_still x k key (Blocked other) = refl
way_still x k key Over = refl

-- no turn ends with a drive, nor where one gives way to it
way_within : (key : ℕ) (driven : Driven) → ends (ways driven ++ (Drove key driven ∷ [])) ≡ false
way_within key Waiting = refl
way_within key Paused = refl
way_within key CutShort = refl
way_within key (Blocked other) = refl
way_within key Over = refl

-- a drive, and then the way that is given to it, may be done in that order
way_orderly : (key : ℕ) (driven : Driven) → AreOrderly (ways driven ++ (Drove key driven ∷ []))
way_orderly key Waiting = (tt, tt)
way_orderly key Paused = (tt, tt)
way_orderly key CutShort = (tt, tt)
way_orderly key (Blocked other) = (refl, (tt, tt))
way_orderly key Over = (tt, tt)

-- an exchange was driven, and marked if there is more to do
pub does_drive : {K : Type 0} (w : Work K) (a m b : EventLoop K) (key : ℕ) (driven : Driven)
    → Adds (w.past a.work) (w.past b.work) (Drove key driven)
    → (has_more driven ≡ true → key < w.bound a.work)
    → (w.bound b.work ≡ w.bound a.work) × (w.queues b.work ≡ w.queues a.work)
    → (has_more driven ≡ true → key < count a.ready → is_marked b.ready key ≡ true)
    → ((other : ℕ) → (other ≡ key → ⊥) → is_marked b.ready other ≡ is_marked a.ready other)
    → count b.ready ≡ count a.ready → b.reports ≡ a.reports
    → Does w a b (Drove key driven ∷ [])
does_drive w a m b key driven past there kept marked others marks reports = record {
  works = works_one w a.work b.work (Drove key driven) past kept;
  owed = λ tied k h.
      elim (eqb_tells key k) as (λ _. is_marked b.ready k ≡ true) [
        | inl same ↦
            let e : has_more driven ≡ true = subst (λ (b : Bool). cond b (has_more driven) (is_marked a.ready k) ≡ true) same.0 h in
            let less : key < count a.ready = let n = there e in omega arith in
            subst (λ (n : ℕ). is_marked b.ready n ≡ true) same.1 (marked e less)
        | inr apart ↦
            let e : is_marked a.ready k ≡ true = subst (λ (b : Bool). cond b (has_more driven) (is_marked a.ready k) ≡ true) apart.0 h in
            others k (λ same. apart.1 (sym same)) ∙ e
      ];
  marks = marks;
  within = refl;
  orderly = (tt, tt);
  reports = reports;
}

-- and one that blocks it gave way
pub does_way : {K : Type 0} (w : Work K) (a b c : EventLoop K) (key : ℕ) (driven : Driven) → Does w a b (Drove key driven ∷ [])
    → Works w b.work c.work (ways driven) → c.ready ≡ b.ready → c.reports ≡ b.reports → Does w a c (ways driven ++ (Drove key driven ∷ []))
does_way w a b c key driven d works ready reports = record {
  works = works_then w a.work b.work c.work (Drove key driven ∷ []) (ways driven) d.works works;
  owed = λ tied k h. ap (λ r. is_marked r k) ready ∙ d.owed tied k (sym (way_still (is_marked a.ready k) k key driven) ∙ h);
  marks = ap (λ r. count r) ready ∙ d.marks;
  within = way_within key driven;
  orderly = way_orderly key driven;
  reports = reports ∙ d.reports;
}

-- a call of the work that changes no mark
pub does_one : {K : Type 0} (w : Work K) (a b : EventLoop K) (deed : Deed) → Adds (w.past a.work) (w.past b.work) deed
    → ((x : Bool) (key : ℕ) → (owes_after x key deed ≡ x) × (is_end deed ≡ false) × Follows deed [])
    → (w.bound b.work ≡ w.bound a.work) × (w.queues b.work ≡ w.queues a.work)
    → b.ready ≡ a.ready → b.reports ≡ a.reports → Does w a b (deed ∷ [])
does_one w a b deed past still kept ready reports = record {
  works = works_one w a.work b.work deed past kept;
  owed = λ tied key h. ap (λ r. is_marked r key) ready ∙ (sym (still (is_marked a.ready key) key).0 ∙ h);
  marks = ap (λ r. count r) ready;
  within = ends_one deed (still false 0).1;
  orderly = ((still false 0).2, tt);
  reports = reports;
}

-- an event was noted, and the exchange for which it is news was marked
pub did_mark : {K : Type 0} (w : Work K) (a b : EventLoop K) (deed : Deed) (key : ℕ) → Adds (w.past a.work) (w.past b.work) deed
    → ((x : Bool) (k : ℕ) → (owes_after x k deed ≡ x) × (is_end deed ≡ false) × Follows deed [])
    → (w.bound b.work ≡ w.bound a.work) × (w.queues b.work ≡ w.queues a.work)
    → key < w.bound a.work → (key < count a.ready → is_marked b.ready key ≡ true)
    → ((other : ℕ) → (other ≡ key → ⊥) → is_marked b.ready other ≡ is_marked a.ready other)
    → count b.ready ≡ count a.ready → b.reports ≡ a.reports
    → {P : List Deed → Type 0} → (IsDue key deed (deed ∷ []) b.ready → P (deed ∷ [])) → Did w a b P
did_mark w a b deed key past still kept there marked others marks reports due =
    let now : IsTied w a → is_marked b.ready key ≡ true = λ tied. let less : key < count a.ready = omega arith in marked less in
    record {
      deeds = deed ∷ [];
      does = record {
        works = works_one w a.work b.work deed past kept;
        owed = λ tied k h.
            let was : is_marked a.ready k ≡ true = sym (still (is_marked a.ready k) k).0 ∙ h in
            elim (eqb_tells key k) as (λ _. is_marked b.ready k ≡ true) [
              | inl same ↦ subst (λ (n : ℕ). is_marked b.ready n ≡ true) same.1 (now tied)
              | inr apart ↦ others k (λ same. apart.1 (sym same)) ∙ was
            ];
        marks = marks;
        within = ends_one deed (still false 0).1;
        orderly = ((still false 0).2, tt);
        reports = reports;
      };
      holds = λ tied. due (record { later = []; before = []; is = refl; gets = inr (now tied) });
    }

-- answers to the administrator change no mark
pub did_answer : {K : Type 0} (w : Work K) (a b : EventLoop K) → Answers w a.work b.work → b.ready ≡ a.ready → b.reports ≡ a.reports
    → Did w a b (λ _. ⊤)
did_answer w a b h ready reports = record {
  deeds = h.deeds;
  does = record {
    works = h.works;
    owed = λ tied key e. ap (λ r. is_marked r key) ready ∙ (sym (h.idle (is_marked a.ready key) key) ∙ e);
    marks = ap (λ r. count r) ready;
    within = h.within;
    orderly = h.orderly;
    reports = reports;
  };
  holds = λ tied. tt;
}

-- the later deeds, begun with the turns that the earlier ones owe, owe just the turns that both owe together
owes_append : (x : Bool) (key : ℕ) (first second : List Deed) → owes x key (second ++ first) ≡ owes (owes x key first) key second
owes_append x key first [] = refl
owes_append x key first (deed ∷ second) = ap (λ (b : Bool). owes_after b key deed) (owes_append x key first second)

-- a work that does nothing has answered without driving anybody
pub answers_none : {K : Type 0} (w : Work K) (a : K) → Answers w a a
answers_none w a = record { deeds = []; works = works_same w a a refl; idle = λ x key. refl; within = refl; orderly = tt }

-- answers to the administrator, and then more of them, are answers together
pub answers_then : {K : Type 0} (w : Work K) (a b c : K) → Answers w a b → Answers w b c → Answers w a c
answers_then w a b c f s = record {
  deeds = s.deeds ++ f.deeds;
  works = works_then w a b c f.deeds s.deeds f.works s.works;
  idle = λ x key. owes_append x key f.deeds s.deeds ∙ (ap (λ (b : Bool). owes b key s.deeds) (f.idle x key) ∙ s.idle x key);
  within = ends_then f.deeds s.deeds f.within s.within;
  orderly = orderly_more s.deeds f.deeds s.within s.orderly f.orderly;
}

-- a deed that changes nobody's turn, ends no turn and needs none before it counts as an answer
pub answers_one : {K : Type 0} (w : Work K) (a b : K) (deed : Deed) → Adds (w.past a) (w.past b) deed
    → ((x : Bool) (key : ℕ) → (owes_after x key deed ≡ x) × (is_end deed ≡ false) × Follows deed [])
    → (w.bound b ≡ w.bound a) × (w.queues b ≡ w.queues a) → Answers w a b
answers_one w a b deed past still kept = record {
  deeds = deed ∷ [];
  works = works_one w a b deed past kept;
  idle = λ x key. (still x key).0;
  within = ends_one deed (still false 0).1;
  orderly = ((still false 0).2, tt);
}

-- deeds that stand among some stand among more
pub stands_more : {deed : Deed} {deeds : List Deed} (more : List Deed) → Stands deed deeds → Stands deed (more ++ deeds)
stands_more {deed} more s = record {
  later = more ++ s.later;
  before = s.before;
  is = ap (λ (ds : List Deed). more ++ ds) s.is ∙ sym (append_assoc more s.later (deed ∷ s.before));
}

-- a deed that stands among some stands there with older deeds before
pub stands_older : {deed : Deed} {deeds : List Deed} (older : List Deed) → Stands deed deeds → Stands deed (deeds ++ older)
stands_older {deed} older s = record {
  later = s.later;
  before = s.before ++ older;
  is = ap (λ (ds : List Deed). ds ++ older) s.is ∙ append_assoc s.later (deed ∷ s.before) older;
}

-- the newest deed stands there
pub stands_newest : (deed : Deed) (deeds : List Deed) → Stands deed (deed ∷ deeds)
stands_newest deed deeds = record { later = []; before = deeds; is = refl }

-- an exchange that was driven is so after later deeds
pub driven_more : (key : ℕ) {deeds : List Deed} (more : List Deed) → IsDriven key deeds → IsDriven key (more ++ deeds)
driven_more key more d = (d.0, stands_more more d.1)

-- an exchange that was driven is so with older deeds before
pub driven_older : (key : ℕ) {deeds : List Deed} (older : List Deed) → IsDriven key deeds → IsDriven key (deeds ++ older)
driven_older key older d = (d.0, stands_older older d.1)

-- an exchange was driven where nothing else was done but that one gave way to it
pub drives_driven : (key : ℕ) {deeds : List Deed} → Drives key deeds → IsDriven key deeds
drives_driven key d = (d.driven, record { later = ways d.driven; before = []; is = d.is })

-- an exchange under this key is driven where the newest deed drives the one under the same key
driven_now : (other key : ℕ) (driven : Driven) (deeds : List Deed) → other ≡ key → IsDriven key (Drove other driven ∷ deeds)
driven_now other key driven deeds e = subst (λ (n : ℕ). IsDriven n (Drove other driven ∷ deeds)) e
    (driven, stands_newest (Drove other driven) deeds)

-- one that is owed a turn was driven in the meantime, or is owed its turn still
owed_step : (x : Bool) (key : ℕ) (deed : Deed) (deeds : List Deed) → IsDriven key deeds ⊎ (owes x key deeds ≡ true)
    → IsDriven key (deed ∷ deeds) ⊎ (owes x key (deed ∷ deeds) ≡ true)
owed_step x key deed deeds (inl d) = inl (driven_more key (deed ∷ []) d)
owed_step x key (Drove other driven) deeds (inr e) =
    elim (eqb_tells other key) [
      | inl same ↦ inl (driven_now other key driven deeds same.1)
      | inr apart ↦ inr (subst (λ (b : Bool). cond b (has_more driven) (owes x key deeds) ≡ true) (sym apart.0) e)
    ]
owed_step x key (TookIn number admitted) deeds (inr e) = inr e
owed_step x key (MadeRoom there) deeds (inr e) = inr e
owed_step x key (Heard is_whole) deeds (inr e) = inr e
owed_step x key (Noted number peer told news) deeds (inr e) = inr e
owed_step x key (GaveWay other) deeds (inr e) = inr e
owed_step x key (Asked queue first) deeds (inr e) = inr e
owed_step x key (Answered request) deeds (inr e) = inr e
owed_step x key EndedTurn deeds (inr e) = inr e
owed_step x key Drained deeds (inr e) = inr e
owed_step x key Halted deeds (inr e) = inr e

-- an exchange that is owed a turn is driven by the deeds, or is owed it still after them
driven_or_owed : (x : Bool) (key : ℕ) (deeds : List Deed) → x ≡ true → IsDriven key deeds ⊎ (owes x key deeds ≡ true)
driven_or_owed x key [] e = inr e
driven_or_owed x key (deed ∷ deeds) e = owed_step x key deed deeds (driven_or_owed x key deeds e)

-- one with a mark gets its turn in later calls, or has a mark still
pub marked_gets : {K : Type 0} (w : Work K) (b c : EventLoop K) (key : ℕ) (more : List Deed) → Does w b c more → IsTied w b
    → is_marked b.ready key ≡ true → Gets key more c.ready
marked_gets w b c key more d tied marked =
    elim (driven_or_owed (is_marked b.ready key) key more marked) as (λ _. Gets key more c.ready) [
      | inl driven ↦ inl driven
      | inr owed ↦ inr (d.owed tied key owed)
    ]

-- so with the deeds before
pub gets_more : {K : Type 0} (w : Work K) (b c : EventLoop K) (key : ℕ) {deeds : List Deed} (more : List Deed) → Does w b c more
    → IsTied w b → Gets key deeds b.ready → Gets key (more ++ deeds) c.ready
gets_more w b c key more d tied (inl driven) = inl (driven_more key more driven)
gets_more w b c key {deeds} more d tied (inr marked) =
    elim (marked_gets w b c key more d tied marked) as (λ _. Gets key (more ++ deeds) c.ready) [
      | inl driven ↦ inl (driven_older key deeds driven)
      | inr still ↦ inr still
    ]

-- an exchange that gets a turn gets it with older deeds before
pub gets_older : (key : ℕ) {deeds : List Deed} (ready : ReadyList) (older : List Deed) → Gets key deeds ready
    → Gets key (deeds ++ older) ready
gets_older key ready older (inl driven) = inl (driven_older key older driven)
gets_older key ready older (inr marked) = inr marked

-- an exchange that gets a turn after a deed gets it after later deeds too
pub due_more : {K : Type 0} (w : Work K) (b c : EventLoop K) (key : ℕ) {deed : Deed} {deeds : List Deed} (more : List Deed)
    → Does w b c more → IsTied w b
    → IsDue key deed deeds b.ready → IsDue key deed (more ++ deeds) c.ready
due_more w b c key {deed} more d tied h = record {
  later = more ++ h.later;
  before = h.before;
  is = ap (λ (ds : List Deed). more ++ ds) h.is ∙ sym (append_assoc more h.later (deed ∷ h.before));
  gets = gets_more w b c key more d tied h.gets;
}

-- an exchange that gets a turn after a deed gets it with older deeds before
pub due_older : (key : ℕ) {deed : Deed} {deeds : List Deed} (ready : ReadyList) (older : List Deed) → IsDue key deed deeds ready
    → IsDue key deed (deeds ++ older) ready
due_older key {deed} ready older h = record {
  later = h.later;
  before = h.before ++ older;
  is = ap (λ (ds : List Deed). ds ++ older) h.is ∙ append_assoc h.later (deed ∷ h.before) older;
  gets = h.gets;
}

-- a deed of the work, and then its exchange gets a turn
pub did_due : {K : Type 0} (w : Work K) (a m b : EventLoop K) (deed : Deed) (key : ℕ) → Does w a m (deed ∷ [])
    → Did w m b (λ deeds. Gets key deeds b.ready) → Did w a b (λ deeds. IsDue key deed deeds b.ready)
did_due w a m b deed key first s = record {
  deeds = s.deeds ++ (deed ∷ []);
  does = does_then w a m b (deed ∷ []) s.deeds first s.does;
  holds = λ tied. record {
    later = s.deeds;
    before = [];
    is = refl;
    gets = s.holds (tied_then w a m first tied);
  };
}

-- so where the drive may fail
pub did_due_ok : {K : Type 0} (w : Work K) (a m b : EventLoop K) (deed : Deed) (key : ℕ) {T E : Type 0} (r : Result T E)
    → Does w a m (deed ∷ [])
    → Did w m b (λ deeds. OnOk r (Gets key deeds b.ready)) → Did w a b (λ deeds. OnOk r (IsDue key deed deeds b.ready))
did_due_ok w a m b deed key r first s = record {
  deeds = s.deeds ++ (deed ∷ []);
  does = does_then w a m b (deed ∷ []) s.deeds first s.does;
  holds = λ tied. on_ok_map r (λ gets. record { later = s.deeds; before = []; is = refl; gets = gets })
      (s.holds (tied_then w a m first tied));
}

-- one exchange more gets a turn
pub gets_below : {K : Type 0} (w : Work K) (b c : EventLoop K) (n : ℕ) (first second : List Deed) → Does w b c second → IsTied w b
    → ((key : ℕ) → key < n → Gets key first b.ready) → Gets n second c.ready
    → (key : ℕ) → key < n + 1 → Gets key (second ++ first) c.ready
gets_below w b c n first second d tied below one =
    below_more (λ key. Gets key (second ++ first) c.ready) n (λ key less. gets_more w b c key second d tied (below key less))
    (gets_older n c.ready first one)

-- whom a drive owes a turn it owes it whatever it was owed before
owes_last : (x y : Bool) (key k : ℕ) (driven : Driven) (later : List Deed) → ((k ≡ key → ⊥) → y ≡ x)
    → owes x k (later ++ (Drove key driven ∷ [])) ≡ owes y k (later ++ (Drove key driven ∷ []))
owes_last x y key k driven [] others =
    elim (eqb_tells key k) as (λ _. cond (nat_eq key k) (has_more driven) x ≡ cond (nat_eq key k) (has_more driven) y) [
      | inl same ↦ rw same.0 refl
      | inr apart ↦ rw apart.0 (sym (others (λ same. apart.1 (sym same))))
    ]
owes_last x y key k driven (deed ∷ later) others = ap (λ (b : Bool). owes_after b k deed) (owes_last x y key k driven later others)

-- the mark of an exchange was taken, and then it was driven
pub did_taken : {K : Type 0} (w : Work K) (a m b : EventLoop K) (key : ℕ)
    → m.work ≡ a.work → m.reports ≡ a.reports → count m.ready ≡ count a.ready
    → ((other : ℕ) → (other ≡ key → ⊥) → is_marked m.ready other ≡ is_marked a.ready other)
    → Did w m b (Drives key) → Did w a b (Drives key)
did_taken {K} w a m b key work reports marks others d =
    let bound : w.bound m.work ≡ w.bound a.work = ap (λ (k : K). w.bound k) work in
    let tie : IsTied w a → IsTied w m = λ tied. omega arith in
    record {
      deeds = d.deeds;
      does = record {
        works = record {
          past = λ past h. d.does.works.past past (subst (λ (k : K). w.past k past) (sym work) h);
          bound = d.does.works.bound ∙ bound;
          queues = d.does.works.queues ∙ ap (λ (k : K). w.queues k) work;
        };
        owed = λ tied k h.
            let one = d.holds (tie tied) in
            let e : owes (is_marked a.ready k) k d.deeds ≡ owes (is_marked m.ready k) k d.deeds =
            subst (λ (ds : List Deed). owes (is_marked a.ready k) k ds ≡ owes (is_marked m.ready k) k ds) (sym one.is)
            (owes_last (is_marked a.ready k) (is_marked m.ready k) key k one.driven (ways one.driven) (others k)) in
            d.does.owed (tie tied) k (sym e ∙ h);
        marks = d.does.marks ∙ marks;
        within = d.does.within;
        orderly = d.does.orderly;
        reports = d.does.reports ∙ reports;
      };
      holds = λ tied. d.holds (tie tied);
    }

-- one with a mark before is driven, or has its mark still; those below this key are driven
abbrev pub ReadyBelow : (before after : ReadyList) → ℕ → List Deed → Type 0
ReadyBelow before after n deeds = (key : ℕ) → is_marked before key ≡ true → Gets key deeds after × (key < n → IsDriven key deeds)

-- no key below this one has a mark
pub ready_start : (ready : ReadyList) (n : ℕ) → ((key : ℕ) → is_marked ready key ≡ true → n ≤ key) → ReadyBelow ready ready n []
ready_start ready n low key was = let least = low key was in (inr was, λ less. absurd (omega (arith, less, least)))

-- one exchange more was driven
pub ready_driven : {K : Type 0} (w : Work K) (a b m t c : EventLoop K) (n : ℕ) → Did w a b (ReadyBelow a.ready b.ready n)
    → Does w b m [] → t.work ≡ m.work → t.reports ≡ m.reports → count t.ready ≡ count m.ready
    → ((other : ℕ) → (other ≡ n → ⊥) → is_marked t.ready other ≡ is_marked m.ready other)
    → Did w t c (Drives n) → Did w a c (ReadyBelow a.ready c.ready (n + 1))
ready_driven w a b m t c n did clock work reports marks others d =
    let before : Did w a m (ReadyBelow a.ready m.ready n) = record {
      deeds = did.deeds;
      does = does_then w a b m did.deeds [] did.does clock;
      holds = λ tied key was.
          let h = did.holds tied key was in
          (gets_more w b m key [] clock (tied_then w a b did.does tied) h.0, h.1);
    } in
    did_then w a m c before (did_taken w m t c n work reports marks others d) (λ first second f s tied p q key was. (
      gets_more w m c key second s tied (p key was).0,
      λ less. below_more (λ k. is_marked a.ready k ≡ true → IsDriven k (second ++ first)) n
          (λ k below was. driven_more k second ((p k was).1 below)) (λ was. driven_older n first (drives_driven n q)) key less was,
    ))

-- one that has no mark is passed over: it was driven before, if it had one
pub ready_still : {K : Type 0} (w : Work K) (a b : EventLoop K) (n : ℕ) → Did w a b (ReadyBelow a.ready b.ready n)
    → is_marked b.ready n ≡ false → Did w a b (ReadyBelow a.ready b.ready (n + 1))
ready_still w a b n did unset =
    did_same w a b did (λ deeds p key was. (
      (p key was).0,
      λ less. below_more (λ k. is_marked a.ready k ≡ true → IsDriven k deeds) n (λ k below was. (p k was).1 below)
          (λ was. elim (p n was).0 as (λ _. IsDriven n deeds) [ inl driven ↦ driven | inr marked ↦ absurd (no (sym unset ∙ marked)) ]) key
          less was,
    ))

-- at the end each one that had a mark was driven, wherever one is looked for
pub ready_over : {K : Type 0} (w : Work K) (a b c : EventLoop K) (n : ℕ) → Did w a b (ReadyBelow a.ready b.ready n)
    → ((key : ℕ) → is_marked a.ready key ≡ true → key < n)
    → c.work ≡ b.work → c.ready.marked ≡ b.ready.marked → c.reports ≡ b.reports
    → Did w a c (λ deeds. (key : ℕ) → is_marked a.ready key ≡ true → IsDriven key deeds)
ready_over w a b c n did all work marked reports =
    let looked : Does w b c [] = record {
      works = works_same w b.work c.work work;
      owed = λ tied key h. ap (λ m. slice_index_or m.items key false) marked ∙ h;
      marks = ap (λ m. length m.items) marked;
      within = refl;
      orderly = tt;
      reports = reports;
    } in
    record {
      deeds = did.deeds;
      does = does_then w a b c did.deeds [] did.does looked;
      holds = λ tied key was.
          (did.holds tied key was).1 (all key was);
    }
