-- Each part so far is an item; a list with a part that is no item isn't a list of items.
use Rattle.std.proofs.Common.{Bor, ℕ, List, [], ◌∷◌, ◌++◌, map, length, subst, sym, rules}
use Rattle.std.proofs.lemmas.List.{map-append}
use Rattle.std.proofs.lemmas.Iterator.Consumers.{YieldsList-from_first, YieldsList-turn}
use Rattle.adapt_bytes.specs.Text.{comma_parts, parts_left}
use Rattle.encapsulated.specs.Grammar.{IsItem}
use Rattle.encapsulated.proofs.ZipLemmas.{AllZip-more, AllZip-at}
use Rattle.encapsulated.proofs.StepLemmas.{from_some, from_none}
use Rattle.encapsulated.proofs.items.are_items.Goals as goal

abbrev Reads : List ℕ → (List ℕ × ℕ) → Type 0
Reads text item = IsItem text item.0 item.1

pub returns-then-is_none-clause-not : goal.returns-then-is_none-clause-not
returns-then-is_none-clause-not c = λ no items all.
    let turn = YieldsList-turn (YieldsList-from_first (λ x. x.now) parts_left (comma_parts c.args.list.now) cc) c.loop-item.yielded _
    c.loop-item.yielded_by _ _ c.in-Some.item c.in-Some.is c.next.ensures.steps in
    let there = AllZip-at Reads (comma_parts c.args.list.now) items (length c.loop-item.yielded) c.in-Some.item.now all turn.0 in
    from_none _ c.read_item.result (search rules) c.read_item.ensures.none there.0.0 there.0.1
    (subst (λ t. Reads t there.0) (sym turn.1) there.1)

pub loop-item-preserved : goal.loop-item-preserved
loop-item-preserved c =
    let h = c.loop-item.invariant.items in
    let r = from_some _ c.read_item.result (search rules) c.read_item.ensures.some in
    let more = AllZip-more Reads (map (λ x. x.now) c.loop-item.yielded) h.0 c.in-Some.item.now (r.0.0.now, r.0.1) h.1 r.1 in
    record {
      can = tt;
      ends = tt;
      items = (
        h.0 ++ (r.0.0.now, r.0.1) ∷ [],
        rw (map-append {A = Bor (List ℕ)} {B = List ℕ} (λ x. x.now) c.loop-item.yielded
            (c.in-Some.item ∷ [])) more,
      );
    }
