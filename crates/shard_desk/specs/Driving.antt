-- What an exchange does in a drive, and what that leads to.
use Rattle.std.specs.Prelude.{◌≡◌, ℕ, ◌+◌, ◌/◌, ◌<◌, ◌≤◌, ◌⊎◌, ⊤, Bool, true, false, ◌&&◌, cond, if◌then◌else◌}
use Rattle.std.specs.Prelude.{length, List, [], ◌∷◌, ◌++◌}
use Rattle.event_loop.specs.declared.work.Driven.{Driven}
use Rattle.event_loop.specs.declared.work.Driven.TheVariants.{Waiting, Paused, CutShort, Blocked, Over}
use Rattle.event_loop.specs.Deeds.{is_paused}
use Rattle.exchange_core.specs.declared.phase.Phase.{Phase}
use Rattle.exchange_core.specs.declared.phase.Phase.TheVariants.{Planning, Preparing, AtGate}
use Rattle.shard_exchange.specs.declared.tasks.Task.{Task}
use Rattle.shard_exchange.specs.declared.tasks.Task.TheVariants as tasks
use Rattle.shard_exchange.specs.declared.tasks.Step.{Step}
use Rattle.shard_exchange.specs.declared.tasks.Step.TheVariants as steps
use Rattle.shard_desk.specs.declared.driving.TheConstants.{FRAMING, LONE_PASSES, ROUNDS, STEPS}

-- something that an exchange did
pub data Doing : Type 0 where
  -- in this phase it was told to do this task, and came so far
  Did : Phase → Task → Step → Doing

-- one more, whatever was done before
abbrev pub Adds : (before after : List Doing → Type 0) → Doing → Type 0
Adds before after doing = (past : List Doing) → before past → after (doing ∷ past)

-- a step in this phase is one at a connection: a message is read, moves, or waits
abbrev pub is_round : Phase → Bool
is_round (Planning point) = false
is_round (Preparing point offered waits) = false
is_round (AtGate point offered) = false
is_round _ = true

-- a step counts as one, and so do each `FRAMING` bytes that moved in it and are no body's
abbrev pub weight : Step → ℕ
weight (steps.Turned framing) = 1 + framing / FRAMING
weight _ = 1

-- what was done at connections, in steps that move bodies
abbrev pub rounds : List Doing → ℕ
rounds [] = 0
rounds (Did phase task step ∷ before) = cond (is_round phase) (rounds before + weight step) (rounds before)

-- a step in this phase may come after these: one at a connection while others needn't get their turn
abbrev pub MayStep : Phase → List Doing → Type 0
MayStep phase before = is_round phase ≡ true → rounds before < ROUNDS

-- there may be more to do after a step that came so far
abbrev pub leads_on : Step → Bool
leads_on steps.On = true
leads_on (steps.Turned framing) = true
leads_on steps.Unmoved = true
leads_on steps.Waits = false
leads_on steps.Over = false

-- each of these was a step that might come, and led on
abbrev pub LeadOn : List Doing → Type 0
LeadOn [] = ⊤
LeadOn (Did phase task step ∷ before) = (task ≡ tasks.Step) × (leads_on step ≡ true) × MayStep phase before × LeadOn before

-- the last one of these came so far with this task, and all before it led on
pub record EndsWith (task : Task) (step : Step) (doings : List Doing) : Type 0 where
  pub phase : Phase
  pub before : List Doing
  pub is : doings ≡ Did phase task step ∷ before
  pub may : task ≡ tasks.Step → MayStep phase before
  pub on : LeadOn before

-- these lead to this answer: it waits exactly where the last step waited; it pauses only where it has taken all steps of a pass, and done
-- less at its connections than a pass may; and it is cut short only where it has done as much
abbrev pub LeadTo : Driven → List Doing → Type 0
LeadTo Waiting doings = EndsWith tasks.Step steps.Waits doings
LeadTo Paused doings = LeadOn doings × (length doings ≡ STEPS) × (rounds doings < ROUNDS)
LeadTo CutShort doings = LeadOn doings × (ROUNDS ≤ rounds doings)
LeadTo (Blocked other) doings = LeadOn doings
LeadTo Over doings = EndsWith tasks.Step steps.Over doings ⊎ ((step : Step) × EndsWith tasks.Lose step doings)

-- an exchange took its steps once, and came so far
pub record Passes (before after : List Doing → Type 0) (driven : Driven) : Type 0 where
  -- the newest first
  pub doings : List Doing
  pub past : (past : List Doing) → before past → after (doings ++ past)
  pub most : length doings ≤ STEPS
  pub leads : LeadTo driven doings

-- what was done in these passes, upon a past; the newest first, as in each of them
abbrev pub upon : (passes : List (List Doing)) (past : List Doing) → List Doing
upon [] past = past
upon (pass ∷ earlier) past = pass ++ upon earlier past

-- each of these passes ended with a pause
abbrev pub Pause : List (List Doing) → Type 0
Pause [] = ⊤
Pause (pass ∷ earlier) = LeadTo Paused pass × Pause earlier

-- an exchange was driven so far: it took its steps once; or, where nobody else has a seat, again after each pause, and it is cut short
-- where the last pass that it may take ends with one
pub record Drives (alone : Bool) (before after : List Doing → Type 0) (driven : Driven) : Type 0 where
  -- the passes before the last one, and what was done in that; the newest first
  pub earlier : List (List Doing)
  pub doings : List Doing
  -- how that one ended
  pub last : Driven
  pub past : (past : List Doing) → before past → after (doings ++ upon earlier past)
  pub paused : Pause earlier
  pub again : 0 < length earlier → alone ≡ true
  pub few : length earlier < LONE_PASSES
  pub most : length doings ≤ STEPS
  pub leads : LeadTo last doings
  pub whole : (alone && is_paused last) ≡ true → length earlier + 1 ≡ LONE_PASSES
  pub ends : driven ≡ (if alone && is_paused last then CutShort else last)

-- how far an exchange came at a stop, by how far it came with its user's leave
abbrev pub left_at : Step → Driven
left_at steps.Over = Over
left_at steps.Waits = Waiting
left_at _ = CutShort

-- this leads to the answer at a stop
abbrev pub IsLeave : Driven → Doing → Type 0
IsLeave driven (Did phase tasks.TakeLeave step) = driven ≡ left_at step
IsLeave driven (Did phase tasks.Lose step) = driven ≡ Over
IsLeave driven (Did phase _ step) = ⊥

-- an exchange came so far at a stop
pub record Leaves (before after : List Doing → Type 0) (driven : Driven) : Type 0 where
  pub doing : Doing
  pub past : Adds before after doing
  pub leads : IsLeave driven doing

-- so of the exchange that blocks the one that was driven, where one does
abbrev pub IfBlocked : Driven → (ℕ → Type 0) → Type 0
IfBlocked (Blocked other) holds = holds other
IfBlocked _ holds = ⊤
