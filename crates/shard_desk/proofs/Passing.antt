-- An exchange that is driven, pass by pass.
use Rattle.std.proofs.Common.{◌≡◌, ℕ, ◌+◌, Bool, true, List, [], ◌∷◌, length}
use Rattle.std.proofs.Common.{refl, sym, ◌∙◌, subst, arith}
use Rattle.event_loop.specs.Deeds.{is_paused}
use Rattle.event_loop.specs.declared.work.Driven.{Driven}
use Rattle.event_loop.specs.declared.work.Driven.TheVariants.{Waiting, Paused, CutShort, Blocked, Over}
use Rattle.shard_desk.specs.declared.driving.TheConstants.{LONE_PASSES}
use Rattle.shard_desk.specs.Driving.{Doing, LeadTo, Passes, Pause, upon, Drives}

-- each pass so far ended with a pause; so many they are
pub record Passed (before after : List Doing → Type 0) (taken : ℕ) : Type 0 where
  pub earlier : List (List Doing)
  pub past : (past : List Doing) → before past → after (upon earlier past)
  pub paused : Pause earlier
  pub many : length earlier ≡ taken

-- what pauses says so
is_pause : (driven : Driven) → is_paused driven ≡ true → driven ≡ Paused
is_pause Waiting is = cc
is_pause Paused is = refl
is_pause CutShort is = cc
is_pause (Blocked other) is = cc
is_pause Over is = cc

-- one more
pub passed_more : (before mid after : List Doing → Type 0) (taken : ℕ) (driven : Driven) → Passed before mid taken
    → Passes mid after driven → is_paused driven ≡ true → Passed before after (taken + 1)
passed_more before mid after taken driven passed pass is = record {
  earlier = pass.doings ∷ passed.earlier;
  past = λ past h. pass.past (upon passed.earlier past) (passed.past past h);
  paused = (subst (λ (d : Driven). LeadTo d pass.doings) (is_pause driven is) pass.leads, passed.paused);
  many = let many = passed.many in omega (arith, many);
}

-- where nobody else has a seat, it is cut short after these passes, if they are all
cut_short : (before after : List Doing → Type 0) (passes : List (List Doing))
    → ((past : List Doing) → before past → after (upon passes past)) → Pause passes → length passes ≡ LONE_PASSES
    → Drives true before after CutShort
cut_short before after [] past paused all = let all : 0 ≡ LONE_PASSES = all in absurd (omega (arith, all))
cut_short before after (pass ∷ earlier) past paused all = record {
  earlier = earlier;
  doings = pass;
  last = Paused;
  past = past;
  paused = paused.1;
  again = λ some. refl;
  few = omega (arith, all);
  most = let most = paused.0.1 in omega (arith, most);
  leads = paused.0;
  whole = λ goes. omega (arith, all);
  ends = refl;
}

-- so after as many passes as there may be
pub drives_cut : (alone : Bool) (before after : List Doing → Type 0) (taken : ℕ) → alone ≡ true → Passed before after taken
    → taken ≡ LONE_PASSES → Drives alone before after CutShort
drives_cut alone before after taken lone passed all =
    subst (λ (alone : Bool). Drives alone before after CutShort) (sym lone)
    (cut_short before after passed.earlier passed.past passed.paused (passed.many ∙ all))
