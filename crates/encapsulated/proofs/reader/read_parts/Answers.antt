-- The items so far name parts, seen while in order; an item that names none, or parts out of order, are a fault.
use Rattle.std.proofs.Common.{Bor, ℕ, List, [], ◌∷◌, ◌++◌, map, length, subst, sym, rules}
use Rattle.std.specs.List.{AllZip}
use Rattle.std.proofs.lemmas.List.{map-append}
use Rattle.std.proofs.lemmas.Iterator.Consumers.{YieldsList-from_first, YieldsList-turn, YieldsList-end}
use Rattle.adapt_bytes.specs.Text.{comma_parts, parts_left}
use Rattle.encapsulated.specs.declared.parts.Part.{Part}
use Rattle.encapsulated.specs.Grammar.{IsPart}
use Rattle.encapsulated.proofs.ZipLemmas.{AllZip-more, AllZip-at}
use Rattle.encapsulated.proofs.StepLemmas.{finish}
use Rattle.encapsulated.proofs.reader.read_parts.Goals as goal

abbrev Reads : List ℕ → (Part × ℕ) → Type 0
Reads text part = IsPart text part.0 part.1

pub returns-in_default-clause-err : goal.returns-in_default-clause-err
returns-in_default-clause-err c =
    let items = c.are_items.ensures.all (search rules) in (
      items.0,
      items.1,
      λ parts all.
          let turn = YieldsList-turn (YieldsList-from_first (λ x. x.now) parts_left (comma_parts c.args.list.now) cc) c.loop-item.yielded _
          c.loop-item.yielded_by _ _ c.in-Some.item c.in-Some.is c.next.ensures.steps in
          let there = AllZip-at Reads (comma_parts c.args.list.now) parts (length c.loop-item.yielded) c.in-Some.item.now all turn.0 in
          c.in_default.ensures.none there.0.0 there.0.1 (subst (λ t. Reads t there.0) (sym turn.1) there.1),
    )

pub loop-item-preserved : goal.loop-item-preserved
loop-item-preserved c =
    let h = c.loop-item.invariant.parts in
    let part = c.in-Some-read_part.part in
    let offset = c.in-Some-read_part.offset in
    let more = AllZip-more Reads (map (λ x. x.now) c.loop-item.yielded) h.0 c.in-Some.item.now (part, offset) h.1 (search rules) in
    record {
      can = tt;
      ends = tt;
      parts = (
        h.0 ++ (part, offset) ∷ [],
        rw (map-append {A = Bor (List ℕ)} {B = List ℕ} (λ x. x.now) c.loop-item.yielded
            (c.in-Some.item ∷ [])) more,
        c.add_part-seen.ensures h.0 h.2,
      );
    }

pub returns-clause-err : goal.returns-clause-err
returns-clause-err c =
    let h = c.loop-item.invariant.parts in
    let last = YieldsList-end (YieldsList-from_first (λ x. x.now) parts_left (comma_parts c.args.list.now) cc) c.loop-item.yielded _
    c.loop-item.yielded_by _ _ c.in-None.is c.next.ensures.steps in
    rw c.ok_or.ensures.value (finish c.loop-item.seen c.args.list.now h.0 (subst (λ parts. AllZip Reads parts h.0) last.0 h.1) h.2)
