-- Bytes that are a prefix of a head want more; any other fault of a head refuses them.
use Rattle.std.proofs.Common.{◌≡◌, ◌∙◌, ap, sym, subst}
use Rattle.icap_head.specs.Heads.{RefusesResponse}
use Rattle.icap_head.specs.declared.reading.HeadFault.TheVariants.{More}
use Rattle.icap_client.specs.HeadFront.{IsHeadFront}
use Rattle.icap_client.specs.Asking.{Asker, HasToAsk}
use Rattle.icap_client.specs.declared.options.OptionsStage.{OptionsStage}
use Rattle.icap_client.specs.declared.stage.Stage.TheVariants.{Replies}
use Rattle.icap_client.proofs.Sides.{has_to_wait}
use Rattle.icap_client.proofs.Skipping.{more_stands, refuses_head}
use Rattle.icap_client.proofs.options.OptionsSide.refuse_head.Goals as goal

pub pass-requires-clause-front : goal.pass-requires-clause-front
pass-requires-clause-front c = λ e.
    subst (λ (s : Asker). RefusesResponse More s.raw) (sym c.self.view_is)
    (more_stands c.args.fault c.args.self.now.raw c.in-None.ensures.none c.requires.stands)

pub returns-in-None-clause-waits : goal.returns-in-None-clause-waits
returns-in-None-clause-waits c =
    let front : IsHeadFront c.args.self.now.raw = has_to_wait Replies c.args.self.now.raw 0
    (more_stands c.args.fault c.args.self.now.raw c.in-None.ensures.none c.requires.stands) in
    let raw : c.pass.new.self.bytes ≡ c.args.self.now.raw = c.pass.ensures.bytes ∙ ap (λ (s : Asker). s.raw) c.self.view_is in
    subst (λ (s : OptionsStage). HasToAsk s c.pass.new.self.bytes) (sym (ap (λ (s : Asker). s.stage) c.self.view_is ∙ c.requires.stage))
    (subst IsHeadFront (sym raw) front)

pub returns-in-Some-clause-refuses : goal.returns-in-Some-clause-refuses
returns-in-Some-clause-refuses c = refuses_head c.args.fault c.in-Some.found c.args.self.now.raw c.in-Some.ensures.some c.requires.stands
