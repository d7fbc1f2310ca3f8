-- The beginning, the other sides' events, and the end.
use Rattle.std.proofs.Common.{◌≡◌, ℕ, List, [], ◌++◌, refl, ap, sym, subst, ◌∙◌, append_assoc, append-nil}
use Rattle.trace_core.specs.declared.history.Plan.{Plan}
use Rattle.trace_core.specs.declared.history.Point.{Point}
use Rattle.trace_core.specs.declared.history.Seen.{Seen}
use Rattle.trace_core.specs.History.{seen}
use Rattle.icap_client.specs.Replies.Final.{unchanged, changed}
use Rattle.icap_client.specs.Heard.{Reader, HasHeard, HeardTo, HeardFinal}
use Rattle.icap_client.specs.Heard.HeardFinal.{unchanged as was_unchanged, changed as was_changed}
use Rattle.icap_client.specs.Laws.{first_reader, IsWhole, WasSaid}
use Rattle.icap_client.specs.declared.stage.Stage.{Stage}
use Rattle.icap_client.specs.declared.stage.Stage.TheVariants.{Over}

-- at a history's beginning a first reader has heard nothing
pub nothing_heard : (plan : Plan) (point : Point) → HasHeard (seen plan []) [] [] (first_reader point)
nothing_heard plan point = record {
  marks = record { no_mod_is = refl; modified_is = refl; has_body_is = refl; over_is = refl };
  none = refl;
  count = refl;
  interim = refl;
}

-- what was read with a final response heard is a whole answer
whole_by : (x : Seen) (adapted read : List ℕ) (r : Reader) → HeardFinal x adapted read r → IsWhole x adapted read r
whole_by x adapted read r (was_unchanged h) = record {
  final = unchanged;
  answer = record { before = h.before; last = h.last; text_is = h.text_is; interim = h.interim; final_is = h.reply };
  kept = (h.marks.no_mod_is, h.marks.modified_is, h.none);
}
whole_by x adapted read r (was_changed h) = record {
  final = changed h.layout r.head adapted;
  answer = record { before = h.before; last = h.last; text_is = h.text_is; interim = h.interim; final_is = h.reply };
  kept = (h.marks.no_mod_is, h.marks.modified_is, h.marks.has_body_is, h.marks.over_is, refl, h.layout_is, refl);
}

-- a reader at a final response's end has read a whole answer
pub answer_whole : (x : Seen) (adapted read : List ℕ) (r : Reader) → r.stage ≡ Over → HasHeard x adapted read r → IsWhole x adapted read r
answer_whole x adapted read r e h = whole_by x adapted read r (subst (λ (s : Stage). HeardTo s x adapted read r) e h)

-- a final response that was heard has an ICAP head that says what the reader keeps
said_by : (x : Seen) (adapted read : List ℕ) (r : Reader) → HeardFinal x adapted read r → WasSaid x read r
said_by x adapted read r (was_unchanged h) = record {
  before = h.before;
  icap = h.last;
  rest = [];
  text_is = h.text_is ∙ ap (λ (t : List ℕ). h.before ++ t) (sym (append-nil h.last));
  interim = h.interim;
  said = h.said;
}
said_by x adapted read r (was_changed h) =
    let heads : h.reply.heads ≡ h.reply.heads_are.icap ++ r.head = h.reply.heads_are.text_is in
    record {
      before = h.before;
      icap = h.reply.heads_are.icap;
      rest = r.head ++ h.reply.rest;
      text_is = h.text_is ∙ ap (λ (t : List ℕ). h.before ++ t) (h.reply.text_is
          ∙ (ap (λ (t : List ℕ). t ++ h.reply.rest) heads ∙ append_assoc h.reply.heads_are.icap r.head h.reply.rest));
      interim = h.interim;
      said = h.said;
    }

-- at a final response's end the reader keeps what a response's ICAP head said
pub final_said : (x : Seen) (adapted read : List ℕ) (r : Reader) → r.stage ≡ Over → HasHeard x adapted read r → WasSaid x read r
final_said x adapted read r e h = said_by x adapted read r (subst (λ (s : Stage). HeardTo s x adapted read r) e h)
