-- The parts in order are an allowed layout whose offsets rise, or the first fault that applies is answered.
use Rattle.std.proofs.Common.{◌≡◌, ℕ, List, subst, sym, rules, true}
use Rattle.std.proofs.lemmas.Result.{err_from_is_err_and}
use Rattle.adapt_bytes.specs.declared.method.Method.{Method}
use Rattle.encapsulated.specs.declared.message.Direction.{Direction}
use Rattle.encapsulated.specs.declared.fault.EncFault.{EncFault}
use Rattle.encapsulated.specs.declared.fault.EncFault.TheVariants.{Syntax, Name, Order, NoBodyPart, Offset}
use Rattle.encapsulated.specs.Rows.{allowed, IsFront}
use Rattle.encapsulated.specs.Grammar.{AreParts}
use Rattle.encapsulated.specs.Faults.{RefusesList}
use Rattle.encapsulated.specs.Layouts.{names, parts_of}
use Rattle.encapsulated.specs.Order.{Unread, any_front, seen_parts}
use Rattle.encapsulated.proofs.RowLemmas.{no_front, any_front-sound, whole_layout, no_body}
use Rattle.encapsulated.proofs.reader.find_layout.Goals as goal

-- a list that can't be read as parts in order is refused for the same fault
unread : (m : Method) (d : Direction) (text : List ℕ) (f : EncFault) → Unread f text → RefusesList f m d text
unread m d text Syntax h = h
unread m d text Name h = h
unread m d text Order h = (h.0, h.1, no_front m d (names h.0) h.2)
unread m d text NoBodyPart h = absurd h
unread m d text Offset h = absurd h

pub returns-in_err-seen-clause-err : goal.returns-in_err-seen-clause-err
returns-in_err-seen-clause-err c =
    let p = err_from_is_err_and c.from_residual.result c.from_residual.ensures.1 in
    rw (p.1, p.2) (unread c.args.method c.args.direction c.args.list.now c.in_err-seen.field-0.0 c.in_err-seen.ensures.err)

pub returns-in_default-clause-err : goal.returns-in_default-clause-err
returns-in_default-clause-err c =
    let seen = c.in_ok-seen.seen in
    let front : any_front (allowed c.args.method c.args.direction) (names (seen_parts seen)) ≡ true = search rules in
    (seen_parts seen, c.in_ok-seen.ensures.ok, (any_front-sound _ _ front, no_body _ c.in_default.ensures.none))

pub returns-then-rises-clause-ok : goal.returns-then-rises-clause-ok
returns-then-rises-clause-ok c =
    let seen = c.in_ok-seen.seen in
    let l = c.in-Some.layout in
    let same : seen_parts seen ≡ parts_of l = sym c.in-Some.ensures.some in
    let front : any_front (allowed c.args.method c.args.direction) (names (seen_parts seen)) ≡ true = search rules in
    record {
      parts = subst (AreParts c.args.list.now) same c.in_ok-seen.ensures.ok;
      may = record {
        whole = whole_layout c.args.method c.args.direction l (subst (λ p. IsFront (allowed c.args.method c.args.direction) (names p)) same
            (any_front-sound _ _ front));
        rises = search rules;
      };
    }

pub returns-else-rises-clause-err : goal.returns-else-rises-clause-err
returns-else-rises-clause-err c =
    let seen = c.in_ok-seen.seen in
    let l = c.in-Some.layout in
    let same : seen_parts seen ≡ parts_of l = sym c.in-Some.ensures.some in
    let front : any_front (allowed c.args.method c.args.direction) (names (seen_parts seen)) ≡ true = search rules in (
      parts_of l,
      subst (AreParts c.args.list.now) same c.in_ok-seen.ensures.ok,
      (
        whole_layout c.args.method c.args.direction l (subst (λ p. IsFront (allowed c.args.method c.args.direction) (names p)) same
            (any_front-sound _ _ front)),
        search rules,
      ),
    )
