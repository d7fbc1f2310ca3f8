-- A head is framed alone, or with what comes of its body; it is refused for its text, its list or its body.
use Rattle.std.proofs.Common.{rules, arith, ◌≡◌, subst, refl, List, ℕ}
use Rattle.icap_head.specs.Heads.{response_parts, HasResponse}
use Rattle.icap_client.specs.declared.options.OptionsStage.TheVariants.{Head}
use Rattle.adapt_sides.specs.declared.fault.ClientFault.TheVariants as faults
use Rattle.icap_client.proofs.Heads.{ok_map}
use Rattle.icap_client.proofs.Skipping.{frames_bare, frames_then, refuses_here, refuses_then, head_stands, err_map, holds_start}
use Rattle.icap_client.proofs.options.OptionsSide.frame_head.Goals as goal

pub returns-then-not-body-clause-frames : goal.returns-then-not-body-clause-frames
returns-then-not-body-clause-frames c =
    let raw_is : c.as_slice.result.now ≡ c.args.self.now.raw = search rules in
    frames_bare c.args.self.now _ (response_parts c.in-Ok.head.value) c.in-Ok.head.length c.requires
    (subst (λ (t : List ℕ). HasResponse t (response_parts c.in-Ok.head.value) c.in-Ok.head.length) raw_is c.in-Ok.ensures.ok)
    (search rules) refl (search rules) (search rules)

pub returns-clause-frames : goal.returns-clause-frames
returns-clause-frames c =
    let raw_is : c.as_slice.result.now ≡ c.args.self.now.raw = search rules in
    ok_map c.frame_body.result _ _ (λ found g.
    frames_then c.args.self.now _ c.frame_body.new.self (response_parts c.in-Ok.head.value) c.new-start.result c.in-Ok.head.length _
    c.new-start.ensures c.requires
    (subst (λ (t : List ℕ). HasResponse t (response_parts c.in-Ok.head.value) c.in-Ok.head.length) raw_is c.in-Ok.ensures.ok)
    (search rules) refl refl (search rules) (search rules) g) c.frame_body.ensures.frames

pub returns-clause-refuses : goal.returns-clause-refuses
returns-clause-refuses c =
    let raw_is : c.as_slice.result.now ≡ c.args.self.now.raw = search rules in
    err_map c.frame_body.result _ _ (λ fault g.
    refuses_then c.args.self.now _ (response_parts c.in-Ok.head.value) c.new-start.result c.in-Ok.head.length fault c.new-start.ensures
    c.requires
    (subst (λ (t : List ℕ). HasResponse t (response_parts c.in-Ok.head.value) c.in-Ok.head.length) raw_is c.in-Ok.ensures.ok)
    (search rules) refl refl (search rules) (search rules) g) c.frame_body.ensures.refuses

pub returns-in_default-clause-refuses : goal.returns-in_default-clause-refuses
returns-in_default-clause-refuses c =
    let raw_is : c.as_slice.result.now ≡ c.args.self.now.raw = search rules in
    refuses_here c.args.self.now Head faults.Layout c.requires (
      response_parts c.in-Ok.head.value,
      c.in-Ok.head.length,
      subst (λ (t : List ℕ). HasResponse t (response_parts c.in-Ok.head.value) c.in-Ok.head.length) raw_is c.in-Ok.ensures.ok,
      c.in_default.ensures.none,
    )

pub refuse_head-requires-clause-stands : goal.refuse_head-requires-clause-stands
refuse_head-requires-clause-stands c =
    let raw_is : c.as_slice.result.now ≡ c.args.self.now.raw = search rules in
    head_stands c.in-Err.fault c.args.self.now.raw c.as_slice.result.now raw_is (λ k. (k.0, k.1, k.2, tt)) c.in-Err.ensures.err

pub invariant_of-self-2 : goal.invariant_of-self-2
invariant_of-self-2 c = (
  c.self.invariant.0,
  holds_start c.in-Ok.head.value c.new-start.result c.new-start.ensures,
  omega (arith, c.pass.ensures.fewer, c.self.invariant.2),
)
