-- A message is planned, or has no plan, by the configuration, limits, book, time and user's address of its surroundings.
use Rattle.std.proofs.Common.{rules, ◌≡◌, Option, Some, IfSome, is_some, sym, ap, ◌∙◌, subst}
use Rattle.std.specs.Prelude.{Box}
use Rattle.std.specs.declared.alloc.Global.{Global}
use Rattle.proxy_rules.specs.Arrivals.{Arrival, point_of}
use Rattle.shard_exchange.specs.declared.answers.Marks.{Marks}
use Rattle.shard_message.specs.declared.planning.Planned.{Planned}
use Rattle.shard_message.specs.Planning.{Grounds, grounds, heads_of, waits, repeats, IsPlan, IsKept, HasNoPlan}
use Rattle.shard_message.proofs.planning.keep_plan.Goals as goal

-- what holds of a thing that was found
of_found : {A : Type 0} → (F : A → Type 0) → (found : Option A) → (x : A) → found ≡ Some x → F x → IfSome found F
of_found F found x e holds = subst (λ z. IfSome z F) (sym e) holds

-- a plan is kept of a message that was lent as these
kept_of : (by : Grounds) → (m lent again : Arrival) → (planned : Box Planned Global) → (kept : Option (Box Planned Global))
    → (marks : Marks)
    → lent ≡ m → again ≡ m → IsPlan by lent planned.value → kept ≡ Some planned
    → marks.offered ≡ is_some planned.value.offer.side → marks.waits ≡ waits (heads_of again)
    → marks.repeatable ≡ repeats (heads_of again) → IsKept by m kept marks
kept_of by m lent again planned kept marks e e' plan k o w r = record {
  planned = planned;
  kept_is = k;
  plan = subst (λ z. IsPlan by z planned.value) e plan;
  offered = o;
  waits_is = w ∙ ap (λ z. waits (heads_of z)) e';
  repeats_is = r ∙ ap (λ z. repeats (heads_of z)) e';
}

pub returns-in-Ok-clause-planned : goal.returns-in-Ok-clause-planned
returns-in-Ok-clause-planned g c =
    let at : c.deref.result.now ≡ c.in-Some.message.value = search rules in
    let lent : c.deref-2.result.now ≡ c.in-Some.message.value = search rules in
    let again : c.deref-in-Ok.result.now ≡ c.in-Some.message.value = search rules in
    of_found _ _ c.in-Some.message c.in-Some.is (
      c.config.result.now,
      c.config.ensures,
      c.limits-limits.result,
      c.limits-limits.ensures,
      c.book-book.result.now,
      subst (λ z. g.O.Services.book_is c.args.out.now z c.book-book.result.now) (c.point.ensures ∙ ap (λ m. point_of m.user) at)
          c.book-book.ensures,
      c.now-now.result,
      c.now-now.ensures,
      c.user_address.result,
      c.user_address.ensures,
      kept_of (grounds c.config.result.now c.limits-limits.result c.book-book.result.now c.now-now.result c.args.asked
          c.user_address.result) c.in-Some.message.value c.deref-2.result.now c.deref-in-Ok.result.now c.in-Ok.planned
          c.keep_planned.new.plan c.keep_planned.result lent again c.in-Ok.ensures.planned c.keep_planned.ensures.kept
          c.keep_planned.ensures.offered c.keep_planned.ensures.waits c.keep_planned.ensures.repeats,
    )

pub returns-in-Err-clause-planned : goal.returns-in-Err-clause-planned
returns-in-Err-clause-planned g c =
    let at : c.deref.result.now ≡ c.in-Some.message.value = search rules in
    let lent : c.deref-2.result.now ≡ c.in-Some.message.value = search rules in
    of_found _ _ c.in-Some.message c.in-Some.is (
      c.config.result.now,
      c.config.ensures,
      c.limits-limits.result,
      c.limits-limits.ensures,
      c.book-book.result.now,
      subst (λ z. g.O.Services.book_is c.args.out.now z c.book-book.result.now) (c.point.ensures ∙ ap (λ m. point_of m.user) at)
          c.book-book.ensures,
      c.now-now.result,
      c.now-now.ensures,
      c.user_address.result,
      c.user_address.ensures,
      (
        search rules,
        subst (λ z. HasNoPlan (grounds c.config.result.now c.limits-limits.result c.book-book.result.now c.now-now.result
            c.args.asked c.user_address.result) z c.in-Err.unplanned) lent c.in-Err.ensures.unplanned,
      ),
    )
