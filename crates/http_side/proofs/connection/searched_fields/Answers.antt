-- At the start no field is marked, so those of one name are marked alike.
use Rattle.std.proofs.Common.{refl, sym, ◌∙◌, false, arith}
use Rattle.std.proofs.lemmas.List.{get_or-replicate}
use Rattle.http_side.proofs.connection.searched_fields.Goals as goal

pub loop-at-init : goal.loop-at-init
loop-at-init c = record {
  size = refl;
  each = λ i l m. get_or-replicate 100 i false false m;
  alike = λ i j l m e. get_or-replicate 100 i false false (omega arith) ∙ sym (get_or-replicate 100 j false false (omega arith));
}
