-- An exchange that takes its steps, one by one.
use Rattle.std.proofs.Common.{◌≡◌, ℕ, ◌+◌, ◌<◌, ◌≤◌, inl, inr, true, cond, List, [], ◌∷◌, ◌++◌, length, refl, ap, sym, ◌∙◌, subst, arith}
use Rattle.std.proofs.lemmas.Bool.Decides.{leb_tells}
use Rattle.event_loop.specs.declared.work.Driven.{Driven}
use Rattle.event_loop.specs.declared.work.Driven.TheVariants.{Waiting, Paused, CutShort, Blocked, Over}
use Rattle.exchange_core.specs.declared.phase.Phase.{Phase}
use Rattle.shard_exchange.specs.declared.tasks.Task.TheVariants as tasks
use Rattle.shard_exchange.specs.declared.tasks.Step.{Step}
use Rattle.shard_exchange.specs.declared.tasks.Step.TheVariants as steps
use Rattle.shard_desk.specs.declared.driving.TheConstants.{ROUNDS, STEPS}
use Rattle.shard_desk.specs.Driving.{Doing, Adds, is_round, weight, rounds, MayStep, leads_on, LeadOn, Passes}
use Rattle.shard_desk.specs.Driving.Doing.{Did}

-- the steps so far led on; so many they are, and so much was done at connections
pub record Led (before after : List Doing → Type 0) (taken spent : ℕ) : Type 0 where
  pub doings : List Doing
  pub past : (past : List Doing) → before past → after (doings ++ past)
  pub on : LeadOn doings
  pub many : length doings ≡ taken
  pub rounds_are : rounds doings ≡ spent

-- before the first one
pub led_none : (before : List Doing → Type 0) → Led before before 0 0
led_none before = record { doings = []; past = λ past h. h; on = tt; many = refl; rounds_are = refl }

-- a step may come after those so far, unless it is at a connection and as much was done there as a turn has
may_step : (phase : Phase) (before after : List Doing → Type 0) (taken spent : ℕ) (led : Led before after taken spent)
    → (is_round phase ≡ true → spent < ROUNDS) → MayStep phase led.doings
may_step phase before after taken spent led room is = subst (λ (n : ℕ). n < ROUNDS) (sym led.rounds_are) (room is)

-- a step in a phase that was read off is one in that phase
pub adds_read : (mid after : List Doing → Type 0) (phase there : Phase) (step : Step) → phase ≡ there
    → Adds mid after (Did there tasks.Step step) → Adds mid after (Did phase tasks.Step step)
adds_read mid after phase there step read adds = subst (λ it. Adds mid after (Did it tasks.Step step)) (sym read) adds

-- one more
pub led_more : (before mid after : List Doing → Type 0) (taken spent : ℕ) (phase : Phase) (step : Step) → Led before mid taken spent
    → (is_round phase ≡ true → spent < ROUNDS) → Adds mid after (Did phase tasks.Step step) → leads_on step ≡ true
    → Led before after (taken + 1) (cond (is_round phase) (spent + weight step) spent)
led_more before mid after taken spent phase step led room adds on = record {
  doings = Did phase tasks.Step step ∷ led.doings;
  past = λ past h. adds (led.doings ++ past) (led.past past h);
  on = (refl, on, may_step phase before mid taken spent led room, led.on);
  many = let many = led.many in omega (arith, many);
  rounds_are = ap (λ (n : ℕ). cond (is_round phase) (n + weight step) n) led.rounds_are;
}

-- it is blocked
pub passes_blocked : (before after : List Doing → Type 0) (taken spent other : ℕ) → Led before after taken spent → taken ≤ STEPS
    → Passes before after (Blocked other)
passes_blocked before after taken spent other led most = record {
  doings = led.doings;
  past = led.past;
  most = subst (λ (n : ℕ). n ≤ STEPS) (sym led.many) most;
  leads = led.on;
}

-- it goes on in the next turn, since so much was done at its connections
pub passes_spent : (before after : List Doing → Type 0) (taken spent : ℕ) → Led before after taken spent → taken ≤ STEPS → ROUNDS ≤ spent
    → Passes before after CutShort
passes_spent before after taken spent led most much = record {
  doings = led.doings;
  past = led.past;
  most = subst (λ (n : ℕ). n ≤ STEPS) (sym led.many) most;
  leads = (led.on, subst (λ (n : ℕ). ROUNDS ≤ n) (sym led.rounds_are) much);
}

-- others take their steps, since so many were taken
passes_paused : (before after : List Doing → Type 0) (taken spent : ℕ) → Led before after taken spent → taken ≡ STEPS → spent < ROUNDS
    → Passes before after Paused
passes_paused before after taken spent led all room = record {
  doings = led.doings;
  past = led.past;
  most = let e = led.many ∙ all in omega (arith, e);
  leads = (led.on, led.many ∙ all, subst (λ (n : ℕ). n < ROUNDS) (sym led.rounds_are) room);
}

-- it has more to do after all steps of a drive
pub passes_left : (before after : List Doing → Type 0) (taken spent : ℕ) (driven : Driven) → Led before after taken spent → taken ≡ STEPS
    → (spent < ROUNDS → driven ≡ Paused) → (ROUNDS ≤ spent → driven ≡ CutShort) → Passes before after driven
passes_left before after taken spent driven led all paused cut = elim (leb_tells ROUNDS spent) as (λ _. Passes before after driven) [
  | inl much ↦
      subst (λ (d : Driven). Passes before after d) (sym (cut much.1))
      (passes_spent before after taken spent led (omega (arith, all)) much.1)
  | inr room ↦
      subst (λ (d : Driven). Passes before after d) (sym (paused room.1))
      (passes_paused before after taken spent led all room.1)
]

-- its user is lost
pub passes_lost : (before mid after : List Doing → Type 0) (taken spent : ℕ) (phase : Phase) (step : Step) → Led before mid taken spent
    → taken < STEPS → Adds mid after (Did phase tasks.Lose step) → Passes before after Over
passes_lost before mid after taken spent phase step led most adds = record {
  doings = Did phase tasks.Lose step ∷ led.doings;
  past = λ past h. adds (led.doings ++ past) (led.past past h);
  most = let many = led.many in omega (arith, many, most);
  leads = inr (
    step,
    record {
      phase = phase;
      before = led.doings;
      is = refl;
      may = λ no. let no : tasks.Lose ≡ tasks.Step = no in cc;
      on = led.on;
    },
  );
}

-- the last step waits
pub passes_waiting : (before mid after : List Doing → Type 0) (taken spent : ℕ) (phase : Phase) → Led before mid taken spent
    → taken < STEPS → (is_round phase ≡ true → spent < ROUNDS) → Adds mid after (Did phase tasks.Step steps.Waits)
    → Passes before after Waiting
passes_waiting before mid after taken spent phase led most room adds = record {
  doings = Did phase tasks.Step steps.Waits ∷ led.doings;
  past = λ past h. adds (led.doings ++ past) (led.past past h);
  most = let many = led.many in omega (arith, many, most);
  leads = record { phase = phase; before = led.doings; is = refl; may = λ is. may_step phase before mid taken spent led room; on = led.on };
}

-- with the last step it is over
pub passes_over : (before mid after : List Doing → Type 0) (taken spent : ℕ) (phase : Phase) → Led before mid taken spent
    → taken < STEPS → (is_round phase ≡ true → spent < ROUNDS) → Adds mid after (Did phase tasks.Step steps.Over) → Passes before after Over
passes_over before mid after taken spent phase led most room adds = record {
  doings = Did phase tasks.Step steps.Over ∷ led.doings;
  past = λ past h. adds (led.doings ++ past) (led.past past h);
  most = let many = led.many in omega (arith, many, most);
  leads = inl (record {
    phase = phase;
    before = led.doings;
    is = refl;
    may = λ is. may_step phase before mid taken spent led room;
    on = led.on;
  });
}
