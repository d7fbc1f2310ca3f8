-- What comes next is all of the body that may go and fits, and its end where that follows; or the body breaks its length.
use Rattle.std.proofs.Common.{◌≡◌, ◌≤◌, ◌+◌, IfSome, sym, subst, ap, ◌∙◌, arith}
use Rattle.trace_core.specs.History.{shows}
use Rattle.trace_core.specs.declared.history.Seen.{Seen}
use Rattle.http_relay.specs.Message.{length_of}
use Rattle.adapt_sides.specs.Tapes.{chosen_received, chosen_over, chosen_delivered}
use Rattle.http_relay.specs.Giving.{BreaksLength}
use Rattle.http_relay.proofs.Chosen.{fewer, some_of}
use Rattle.http_relay.proofs.due.decide.Goals as goal

pub returns-then-not-fits_length-clause-none : goal.returns-then-not-fits_length-clause-none
returns-then-not-fits_length-clause-none c h = (
  sym c.is_begun.ensures ∙ c.if-not-is_begun.false,
  subst (λ (y : Seen). BreaksLength y c.args.framing) c.seen-seen.ensures (c.fits_length.ensures.breaks c.if-not-fits_length.true),
)

pub returns-clause-next : goal.returns-clause-next
returns-clause-next c =
    let x = shows c.args.state.now in
    let here = c.seen-seen.ensures in
    let begun = sym c.is_begun.ensures ∙ c.if-not-is_begun.false in
    let fits = c.fits_length.ensures in
    let fit = c.fit-count.ensures in
    let end = c.ending-end.ensures in
    let length = c.args.framing in
    record {
      chunked = c.is_in_chunks-chunked.ensures;
      from = c.chosen-from.ensures.out ∙ ap chosen_delivered here;
      fits = (fit.few, fit.within);
      few = omega (arith, fit.most);
      usr = λ some.
          let all = c.deliverable.ensures.allowed (omega (arith, some, fit.most)) in
          (begun, all.0, fewer x c.fit-count.result c.deliverable.result some (omega (arith, fit.most)) all.1);
      greatest = λ m n o a t f. fit.greatest n (omega (arith, t, c.deliverable.ensures.bound n (o, a))) f;
      some = λ m n o a. fit.some (omega (arith, c.requires, some_of x n a, c.deliverable.ensures.bound n (o, a)));
      room = λ some. subst (λ (y : Seen). IfSome (length_of length) (λ n. chosen_received y ≤ n)) here
          (fits.within c.if-not-fits_length.false);
      ends = λ i.
          let e = end.ends i in (
            begun,
            ap (λ (y : Seen). y.closed) (sym here) ∙ e.0,
            ap chosen_over (sym here) ∙ e.1,
            ap (λ (y : Seen). chosen_delivered y + c.fit-count.result) (sym here) ∙ (e.2 ∙ ap chosen_received here),
          );
      text = end.text;
      exact = λ i. subst (λ (y : Seen). IfSome (length_of length) (λ n. chosen_received y ≡ n)) here
          (fits.exact c.if-not-fits_length.false (end.ends i).1);
      no_end = λ m i o v a.
          end.never i (ap (λ (y : Seen). y.closed) here ∙ o) (ap chosen_over here ∙ v)
          (ap (λ (y : Seen). chosen_delivered y + c.fit-count.result) here ∙ (a ∙ ap chosen_received (sym here)));
    }
