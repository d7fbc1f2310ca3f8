-- Each field that stays goes on, except a Content-Length after another one.
use Rattle.std.proofs.Common.{◌≡◌, ◌<◌, Bool, false, List, ℕ, [], ◌∷◌, ◌++◌, ◌&&◌, ◌||◌, map, length, take, All, sym, ap, ◌∙◌, subst, arith}
use Rattle.std.specs.List.{list_any, filter}
use Rattle.std.proofs.lemmas.List.{get_or-replicate, map-append}
use Rattle.std.proofs.lemmas.List.Elements.{All-push}
use Rattle.adapt_bytes.specs.Fields.{field_at}
use Rattle.http_side.specs.Forward.{stays, is_removed, is_named_by, is_length}
use Rattle.http_side.proofs.ForwardLemmas.{not_removed, length_again, goes_on, first_length, no_length}
use Rattle.http_side.proofs.writing.kept_places.Goals as goal
use Rattle.http_side.proofs.writing.kept_places.Goals.{then-is_named+else-seen, else-is_named}

pub mark_named-requires : goal.mark_named-requires
mark_named-requires c i l = get_or-replicate 100 i false false l

pub loop-at-preserved-then-seen : goal.loop-at-preserved-then-seen
loop-at-preserved-then-seen c =
    let fields = c.args.fields.now in
    let beside = c.args.beside in
    let i = c.loop-at.at in
    let marked = c.mark_named.ensures i (omega arith) (omega arith) ∙ ap (is_named_by fields) (sym c.name-name.ensures) in
    let stay = not_removed (sym (c.is_removed.ensures fields marked ∙ ap (is_removed beside fields) c.name-name.ensures)
    ∙ c.if-is_removed.false) in
    let named : is_length (field_at fields i) ≡ c.is_named.result = sym c.is_named.ensures in
    let again = length_again beside fields i (omega arith) stay (named ∙ c.if-is_named.true)
    (sym c.loop-at.invariant.seen ∙ c.if-seen.true) in
    record {
      seen = c.if-seen.true ∙ sym again.1;
      few = omega arith;
      within = c.loop-at.invariant.within;
      kept = c.loop-at.invariant.kept ∙ sym again.0;
    }

pub loop-at-preserved : goal.loop-at-preserved
loop-at-preserved c =
    let fields = c.args.fields.now in
    let beside = c.args.beside in
    let i = c.loop-at.at in
    let old : Bool = list_any is_length (filter (stays beside fields) (take i fields)) in
    let n : Bool = is_length (field_at fields i) in
    let marked = c.mark_named.ensures i (omega arith) (omega arith) ∙ ap (is_named_by fields) (sym c.name-name.ensures) in
    let stay = not_removed (sym (c.is_removed.ensures fields marked ∙ ap (is_removed beside fields) c.name-name.ensures)
    ∙ c.if-is_removed.false) in
    let named : n ≡ c.is_named.result = sym c.is_named.ensures in
    let first : ((n && old) ≡ false) × ((old || n) ≡ c.if-is_named.seen) = elim c.if-is_named.branch [
      | then-is_named+else-seen w ↦ first_length n old c.if-is_named.seen (named ∙ w.if-is_named.true)
          (sym c.loop-at.invariant.seen ∙ w.if-seen.false) w.seen-is
      | else-is_named w ↦ no_length n old c.if-is_named.seen (named ∙ w.if-is_named.false) (w.seen-is ∙ c.loop-at.invariant.seen)
    ] in
    let on = goes_on beside fields i (omega arith) stay first.0 in
    let P : List ℕ → Type 0 = λ places. All (λ at. at < length fields) places in
    record {
      seen = sym first.1 ∙ sym on.1;
      few = omega arith;
      within = subst P (sym c.push.ensures.items) (All-push (λ at. at < length fields) c.loop-at.places.items i c.loop-at.invariant.within
          (omega arith));
      kept =
          ap (map (field_at fields)) c.push.ensures.items
          ∙ map-append (field_at fields) c.loop-at.places.items (i ∷ [])
          ∙ ap (λ xs. xs ++ field_at fields i ∷ []) c.loop-at.invariant.kept
          ∙ sym on.0;
    }
