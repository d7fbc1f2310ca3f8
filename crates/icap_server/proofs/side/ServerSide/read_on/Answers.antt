-- A part that is read into an answer of its own is served as well once that answer is put after those so far.
use Rattle.std.proofs.Common.{◌≡◌, ◌++◌, List, ℕ, take, sym, ap, ◌∙◌, subst, append_assoc, append-nil}
use Rattle.icap_services.specs.Texts.{shown}
use Rattle.icap_server.specs.Served.{Serves}
use Rattle.icap_server.proofs.side.ServerSide.read_on.Goals as goal

pub returns-in_ok-extend_from_slice-clause-served : goal.returns-in_ok-extend_from_slice-clause-served
returns-in_ok-extend_from_slice-clause-served c = λ stream before h.
    let old = c.args.self.now in
    let new = c.read.new.self in
    let out = c.args.out.now.items in
    let P : List ℕ → Type 0 = λ t. Serves (shown old.settings) stream t old.stage old.input.items old.body.items in
    let Q : List ℕ → Type 0 = λ t. Serves (shown new.settings) (stream ++ take c.in_ok-used.used c.args.piece.now) t new.stage
    new.input.items new.body.items in
    let start : (before ++ out) ++ c.new-answer.result.items ≡ before ++ out =
    ap (λ t. (before ++ out) ++ t) c.new-answer.ensures.items ∙ append-nil (before ++ out) in
    let joined : c.extend_from_slice.new.self.items ≡ out ++ c.read.new.out.items =
    c.in_ok-extend_from_slice.ensures.items ∙ ap (λ t. out ++ t) c.deref.ensures.value in
    subst Q (append_assoc before out c.read.new.out.items ∙ ap (λ t. before ++ t) (sym joined))
    (c.in_ok-used.ensures.served stream (before ++ out) (subst P (sym start) h))
