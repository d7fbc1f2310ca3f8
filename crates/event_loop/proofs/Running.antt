-- The turns of a loop, one after another.
use Rattle.std.proofs.Common.{◌≡◌, ℕ, ◌≤◌, ◌⊎◌, inl, inr, Bool, true, false, cond, List, [], ◌∷◌, ◌++◌, refl, ap, sym, ◌∙◌, subst}
use Rattle.std.proofs.Common.{append_assoc, arith}
use Rattle.std.specs.Prelude.{nat_eq, ⊤}
use Rattle.std.proofs.lemmas.Bool.Decides.{eqb_tells}
use Rattle.event_loop.specs.Marks.{is_marked, count}
use Rattle.event_loop.specs.declared.work.Driven.{Driven}
use Rattle.event_loop.specs.declared.work.Work.{Ghosts as Work}
use Rattle.event_loop.specs.declared.looping.EventLoop.{EventLoop}
use Rattle.event_loop.specs.Deeds.{Deed, is_end}
use Rattle.event_loop.specs.Deeds.Deed.{Drove, EndedTurn, Halted}
use Rattle.event_loop.specs.Turns.{owes, ends, waits, drives, AreOrderly, IsTied, Works, WorksOn, Ran, Does, Did, Stands, IsDriven}
use Rattle.event_loop.specs.Turns.{ServesRound, polled}
use Rattle.event_loop.proofs.Turning.{no, neither, ends_then, orderly_more, owes_then, works_then, works_same, stands_more, stands_newest}

-- a choice between false and what is false is false
cond_false : (b x : Bool) → x ≡ false → cond b false x ≡ false
cond_false true x e = refl
cond_false false x e = e

-- one that waits for no turn waits for none until one ends
waits_stays : (key : ℕ) (more deeds : List Deed) → ends more ≡ false → waits key deeds ≡ false → waits key (more ++ deeds) ≡ false
waits_stays key [] deeds e h = h
waits_stays key (deed ∷ more) deeds e h =
    let parts = neither (is_end deed) (ends more) e in
    let rest = waits_stays key more deeds parts.1 h in
    rw parts.0 (cond_false (drives key deed) (waits key (more ++ deeds)) rest)

-- where no turn ends among deeds, none ends among the later ones of them
ends_later : (later before : List Deed) → ends (later ++ before) ≡ false → ends later ≡ false
ends_later [] before e = refl
ends_later (deed ∷ later) before e =
    let parts = neither (is_end deed) (ends (later ++ before)) e in
    rw parts.0 (ends_later later before parts.1)

-- a key is the same as itself
same_key : (key : ℕ) → nat_eq key key ≡ true
same_key key = elim (eqb_tells key key) as (λ _. nat_eq key key ≡ true) [ inl same ↦ same.0 | inr apart ↦ absurd (apart.1 refl) ]

-- an exchange that was just driven waits for no turn
just_driven : (key : ℕ) (driven : Driven) (deeds : List Deed) → waits key (Drove key driven ∷ deeds) ≡ false
just_driven key driven deeds = ap (λ (b : Bool). cond b false (waits key deeds)) (same_key key)

-- one that was driven waits for no turn
waits_driven : (key : ℕ) (deeds before : List Deed) → ends deeds ≡ false → IsDriven key deeds → waits key (deeds ++ before) ≡ false
waits_driven key deeds before e d =
    let s = d.1 in
    let one : List Deed = Drove key d.0 ∷ s.before in
    let within : ends (s.later ++ one) ≡ false = subst (λ (ds : List Deed). ends ds ≡ false) s.is e in
    let after : waits key (s.later ++ (one ++ before)) ≡ false =
    waits_stays key s.later (one ++ before) (ends_later s.later one within) (just_driven key d.0 (s.before ++ before)) in
    let joined : waits key ((s.later ++ one) ++ before) ≡ false =
    subst (λ (ds : List Deed). waits key ds ≡ false) (sym (append_assoc s.later one before)) after in
    subst (λ (ds : List Deed). waits key (ds ++ before) ≡ false) (sym s.is) joined

-- what a loop has had its work do so far: those that are owed a turn have a mark, and so have those that wait
pub record Runs {K : Type 0} (w : Work K) (old new : EventLoop K) (deeds : List Deed) : Type 0 where
  pub works : Works w old.work new.work deeds
  pub marks : count new.ready ≡ count old.ready
  pub owed : (key : ℕ) → owes false key deeds ≡ true → is_marked new.ready key ≡ true
  pub waiting : (key : ℕ) → waits key deeds ≡ true → is_marked new.ready key ≡ true
  pub orderly : AreOrderly deeds

-- so, where there is a mark for each key
pub record HasRun {K : Type 0} (w : Work K) (old new : EventLoop K) : Type 0 where
  pub deeds : List Deed
  pub runs : Runs w old new deeds

-- a loop that has done nothing yet counts as one that has run
pub run_start : {K : Type 0} (w : Work K) (a : EventLoop K) → HasRun w a a
run_start w a = record {
  deeds = [];
  runs = record {
    works = works_same w a.work a.work refl;
    marks = refl;
    owed = λ key e. absurd (no e);
    waiting = λ key e. absurd (no e);
    orderly = tt;
  };
}

-- a loop that began with a mark for each key still has one for each, once it has run and polled
tied_now : {K : Type 0} (w : Work K) (a b c : EventLoop K) (deeds : List Deed) → Runs w a b deeds → IsTied w a → IsTied w (polled b c)
tied_now w a b c deeds r tied =
    let bound = r.works.bound in let marks = r.marks in
    let after : w.bound b.work ≤ count b.ready = omega arith in
    after

-- a mark is true or false
true_or_false : (b : Bool) → (b ≡ true) ⊎ (b ≡ false)
true_or_false true = inl refl
true_or_false false = inr refl

-- a round, and then the end of its turn
pub run_turn : {K : Type 0} (w : Work K) (a b c d : EventLoop K) → HasRun w a b → IsTied w a
    → Did w (polled b c) c (ServesRound w b c) → Works w c.work d.work (EndedTurn ∷ []) → d.ready ≡ c.ready → HasRun w a d
run_turn w a b c d h tied did ended ready =
    let r = h.runs in
    let before = h.deeds in
    let round = did.deeds in
    let within = did.does.within in
    let after = tied_now w a b c before r tied in
    let serves = did.holds after in
    let served : (key : ℕ) → waits key (round ++ before) ≡ false = λ key.
    elim (true_or_false (waits key before)) as (λ _. waits key (round ++ before) ≡ false) [
      | inl is ↦ waits_driven key round before within (serves.turn.ready key (r.waiting key is))
      | inr none ↦ waits_stays key round before within none
    ] in
    let owed : (key : ℕ) → owes false key (round ++ before) ≡ true → is_marked d.ready key ≡ true = λ key e.
    ap (λ m. is_marked m key) ready
    ∙ did.does.owed after key (owes_then false (is_marked b.ready key) key before round (r.owed key) e) in
    record {
      deeds = EndedTurn ∷ (round ++ before);
      runs = record {
        works = works_then w a.work c.work d.work (round ++ before) (EndedTurn ∷ [])
            (works_then w a.work b.work c.work before round r.works did.does.works) ended;
        marks = ap (λ m. count m) ready ∙ (did.does.marks ∙ r.marks);
        owed = owed;
        waiting = owed;
        orderly = (served, orderly_more round before within did.does.orderly r.orderly);
      };
    }

-- a round that is the last one
pub run_over : {K : Type 0} (w : Work K) (a b c : EventLoop K) {P : List Deed → Type 0} → HasRun w a b → Did w (polled b c) c P
    → Ran w a.work c.work (λ deeds. ⊤)
run_over w a b c h did = record {
  deeds = did.deeds ++ h.deeds;
  works = works_then w a.work b.work c.work h.deeds did.deeds h.runs.works did.does.works;
  orderly = orderly_more did.deeds h.deeds did.does.within did.does.orderly h.runs.orderly;
  holds = tt;
}

-- all exchanges were ended after that, and some were driven on
pub ran_out : {K : Type 0} (w : Work K) (a b c d : K) {P : List Deed → Type 0} → Ran w a b P → Works w b c (Halted ∷ []) → WorksOn w c d
    → Ran w a d (Stands Halted)
ran_out w a b c d r halted on = record {
  deeds = on.deeds ++ (Halted ∷ r.deeds);
  works = works_then w a c d (Halted ∷ r.deeds) on.deeds (works_then w a b c r.deeds (Halted ∷ []) r.works halted) on.works;
  orderly = orderly_more on.deeds (Halted ∷ r.deeds) on.within on.orderly (tt, r.orderly);
  holds = stands_more on.deeds (stands_newest Halted r.deeds);
}

-- nothing was done
pub ran_nothing : {K : Type 0} (w : Work K) (a : K) {P : List Deed → Type 0} → P [] → Ran w a a P
ran_nothing w a p = record { deeds = []; works = works_same w a a refl; orderly = tt; holds = p }

-- a call within the last turn, and others
pub on_start : {K : Type 0} (w : Work K) (a : K) → WorksOn w a a
on_start w a = record { deeds = []; works = works_same w a a refl; within = refl; orderly = tt }

-- deeds with which no turn ends, and then more of them, are such deeds together
pub on_then : {K : Type 0} (w : Work K) (a b c : K) → WorksOn w a b → WorksOn w b c → WorksOn w a c
on_then w a b c f s = record {
  deeds = s.deeds ++ f.deeds;
  works = works_then w a b c f.deeds s.deeds f.works s.works;
  within = ends_then f.deeds s.deeds f.within s.within;
  orderly = orderly_more s.deeds f.deeds s.within s.orderly f.orderly;
}

-- the deeds that a loop has its work do within a turn are ones with which no turn ends
pub on_does : {K : Type 0} (w : Work K) (a b : EventLoop K) {deeds : List Deed} → Does w a b deeds → WorksOn w a.work b.work
on_does w a b {deeds = ds} d = record { deeds = ds; works = d.works; within = d.within; orderly = d.orderly }

-- deeds of which more is known, and that a loop has its work do within a turn, end no turn
pub on_did : {K : Type 0} (w : Work K) (a b : EventLoop K) {P : List Deed → Type 0} → Did w a b P → WorksOn w a.work b.work
on_did w a b d = on_does w a b d.does

-- the same of works that are the same
pub ran_same : {K : Type 0} (w : Work K) (a b c d : K) {P Q : List Deed → Type 0} → b ≡ a → d ≡ c
    → ((deeds : List Deed) → P deeds → Q deeds) → Ran w b c P → Ran w a d Q
ran_same {K} w a b c d from to holds r = record {
  deeds = r.deeds;
  works = subst (λ (k : K). Works w k d r.deeds) from (subst (λ (k : K). Works w b k r.deeds) (sym to) r.works);
  orderly = r.orderly;
  holds = holds r.deeds r.holds;
}
