-- A source with the history's numbers is read; any other fails the transaction, and nothing of it is read.
use Rattle.std.proofs.Common.{◌≡◌, Option, true, Some, None, inl, inr, refl, sym, ap, ◌∙◌, subst}
use Rattle.std.proofs.lemmas.Bool.{false≢true}
use Rattle.trace_core.specs.declared.history.Seen.{Seen}
use Rattle.trace_core.specs.declared.history.Cause.{Cause}
use Rattle.trace_core.specs.declared.history.Cause.TheVariants as causes
use Rattle.trace_core.specs.History.{History}
use Rattle.trace_core.specs.Turns.{after_all}
use Rattle.adapt_hold.specs.Holding.{shows}
use Rattle.adapt_turn.specs.declared.pass.PassAnswer.{PassAnswer}
use Rattle.adapt_turn.specs.declared.turn.Side.TheVariants.{Source}
use Rattle.adapt_turn.specs.Reports.{IsOfSide, stepped, outcome_by}
use Rattle.adapt_turn.proofs.Reasons.{reported_idle, reported_waits, reported_blames, reported_still, cause_none, source_blame}
use Rattle.adapt_turn.proofs.Paced.{reported_received, original_few, fail_received}
use Rattle.adapt_turn.proofs.Rows.{reported_took, reported_acts, of_source, untouched_or, fail_advances, took_fail}
use Rattle.adapt_turn.proofs.Stepped.{reported_shows, reported_over, failed_closed}
use Rattle.adapt_turn.proofs.Told.{reported_told, failed_told}
use Rattle.adapt_turn.proofs.pass.source.source_pass.Goals as goal

pub returns-then-agrees_with-clause-passes : goal.returns-then-agrees_with-clause-passes
returns-then-agrees_with-clause-passes g c =
    let h = c.args.hold.now in
    let d = c.read_source.ensures.reports in
    let whole = c.read_source.ensures.whole in
    let tied = c.state-state.ensures.tied in
    let yes = subst (λ (y : History). g.S.Source.agrees (shows y) c.args.source.now) c.state-state.ensures.state
    (c.agrees_with.ensures.yes c.if-agrees_with.true) in
    record {
      did = inl (yes, d);
      tied = tied;
      idle = reported_idle d.reports;
      still = reported_still d.reports;
      waits = reported_waits d.reports;
      framed = d.framed;
      paced = reported_received tied d.reports _ d.few (original_few (shows h.history) h.claim h.limits.window h.limits.turn);
      took = reported_took Source of_source tied d.reports;
      active = λ w. reported_acts Source of_source tied d.reports w whole;
      blames = λ cause e. (λ a. reported_blames d.reports cause e, λ no. absurd (no yes));
      reason = c.read_source.ensures.reason;
      of_side = λ cause e. source_blame cause (d.reports.blamed cause e);
      over = reported_over tied d.reports;
      ends = reported_told (λ cause. refl) tied c.requires.running d.reports;
      sound = λ n. d.reports.sound n whole;
      told = λ n v.
          ap (λ (x : Seen). x.ended) (reported_shows tied d.reports)
          ∙ ap (λ (failed : Option Cause). (after_all (shows h.history) (stepped failed d.reported)).ended) n ∙ d.told n v;
      whole = whole;
      head = c.read_source.ensures.head;
    }

pub returns-else-agrees_with-clause-passes : goal.returns-else-agrees_with-clause-passes
returns-else-agrees_with-clause-passes g c =
    let h = c.args.hold.now in
    let k = c.close.new.hold in
    let tied = c.state-state.ensures.tied in
    let is = c.close.ensures.moved in
    let same = c.close.ensures.passed in
    let no : g.S.Source.agrees (shows h.history) c.args.source.now → ⊥ =
    λ a. c.agrees_with.ensures.no c.if-agrees_with.false (subst (λ (y : History). g.S.Source.agrees (shows y) c.args.source.now)
    (sym c.state-state.ensures.state) a) in
    let waits : c.close.result.waiting ≡ true → ⊥ = λ e. false≢true (sym (ap (λ (z : PassAnswer). z.waiting) same) ∙ e) in
    let failed : Some causes.Source ≡ c.close.result.failed = sym (ap (λ (z : PassAnswer). z.failed) same) in
    let unfailed : c.close.result.failed ≡ None → ⊥ = λ n. (let d : Some causes.Source ≡ None = failed ∙ n in cc) in
    record {
      did = inr (record { no = no; failed = is; side = refl; wire = refl; passed_is = same });
      tied = tied;
      idle = λ e. absurd (waits e);
      still = λ e. absurd (waits e);
      waits = λ e. absurd (waits e);
      framed = λ e. absurd (waits e);
      paced = fail_received h k causes.Source h.limits.turn tied c.requires.running is;
      took = took_fail Source h k causes.Source c.requires.running is;
      active = λ w. untouched_or _ _ (fail_advances Source h k causes.Source c.requires.running is);
      blames = λ cause e. (λ a. absurd (no a), λ n. (let d : Some causes.Source ≡ Some cause = failed ∙ e in cc));
      reason = cause_none _ _ _ refl;
      of_side = λ cause e. (let d : Some causes.Source ≡ Some cause = failed ∙ e in let s : causes.Source ≡ cause = cc in
          subst IsOfSide s tt);
      over = λ cause e. failed_closed h k causes.Source tied c.requires.running is;
      ends = ap outcome_by (sym failed) ∙ failed_told h k causes.Source is;
      sound = λ n. absurd (unfailed n);
      told = λ n v. absurd (unfailed n);
      whole = ap (λ (z : PassAnswer). z.broken) same;
      head = refl;
    }
