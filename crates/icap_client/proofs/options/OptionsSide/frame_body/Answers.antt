-- The body is framed further, or to its end, where the kept head is answered; bytes that break the body are refused.
use Rattle.std.proofs.Common.{rules, ◌≡◌, ◌∙◌, ap, sym, subst, refl, List, ℕ, is_some, true}
use Rattle.icap_client.specs.Hearing.{ReadsOn}
use Rattle.icap_client.specs.Asking.{Asker}
use Rattle.icap_client.proofs.Bodies.{not_ended}
use Rattle.icap_client.proofs.Skipping.{frames_on, frames_end, head_held, refuses_body}
use Rattle.icap_client.proofs.options.OptionsSide.frame_body.Goals as goal

pub returns-then-skipped-clause-frames : goal.returns-then-skipped-clause-frames
returns-then-skipped-clause-frames c =
    let raw_is : c.as_slice.result.now ≡ c.args.self.now.raw = search rules in
    let held : is_some c.args.self.now.response ≡ true =
    head_held c.args.self.now c.self.inside.stage c.self.inside.response c.args.chunks (ap (λ (s : Asker). s.response) c.self.view_is)
    (ap (λ (s : Asker). s.stage) c.self.view_is ∙ c.requires) c.self.invariant.1 in
    frames_end c.args.self.now _ c.args.chunks c.skip_body.new.chunks c.in-Ok.skipped.used c.in-Ok.ensures.reads.0 _ c.requires
    (subst (λ (t : List ℕ). ReadsOn c.args.chunks t c.in-Ok.skipped.used c.in-Ok.ensures.reads.0 c.skip_body.new.chunks) raw_is
    c.in-Ok.ensures.reads.1)
    (sym c.in-Ok.ensures.ended ∙ c.if-skipped.true) held refl (search rules) (search rules) (search rules)

pub returns-else-skipped-clause-frames : goal.returns-else-skipped-clause-frames
returns-else-skipped-clause-frames c =
    let raw_is : c.as_slice.result.now ≡ c.args.self.now.raw = search rules in
    frames_on c.args.self.now _ c.args.chunks c.skip_body.new.chunks c.in-Ok.skipped.used c.in-Ok.ensures.reads.0 c.requires
    (subst (λ (t : List ℕ). ReadsOn c.args.chunks t c.in-Ok.skipped.used c.in-Ok.ensures.reads.0 c.skip_body.new.chunks) raw_is
    c.in-Ok.ensures.reads.1)
    (not_ended c.skip_body.new.chunks c.in-Ok.skipped.ended c.in-Ok.ensures.ended c.if-skipped.false) c.in-Ok.ensures.no_fault refl
    (search rules) (search rules) (search rules)

pub returns-in-Err-clause-refuses : goal.returns-in-Err-clause-refuses
returns-in-Err-clause-refuses c =
    let raw_is : c.as_slice.result.now ≡ c.args.self.now.raw = search rules in
    refuses_body c.args.self.now c.args.chunks c.as_slice.result.now _ c.requires raw_is c.in-Err.ensures.fault
