-- The address is looked for in one network after another.
use Rattle.std.proofs.Common.{◌≡◌, List, [], drop, refl, sym, ◌∙◌, subst}
use Rattle.std.proofs.lemmas.List.{drop_all}
use Rattle.std.proofs.lemmas.Bool.{false≢true}
use Rattle.proxy_config.specs.declared.network.Network.{Network}
use Rattle.proxy_config.specs.Networks.{IsInOne}
use Rattle.proxy_config.proofs.NetworkLists.{is_there, left_after, left_at_first}
use Rattle.proxy_config.proofs.membership.is_in.Goals as goal

pub loop-network-init : goal.loop-network-init
loop-network-init c = left_at_first c.args.networks.now c.args.address

pub returns-then-has : goal.returns-then-has
returns-then-has c = (
  λ _. is_there
      c.args.networks.now
      c.args.address
      c.loop-network.network-index
      c.network-item.result
      c.loop-network-test.true
      c.network-item.is
      c.loop-network.invariant
      (c.has.ensures.0 c.if-has.true),
  λ _. refl,
)

pub loop-network-preserved : goal.loop-network-preserved
loop-network-preserved c =
    left_after
    c.args.networks.now
    c.args.address
    c.loop-network.network-index
    c.network-item.result
    c.loop-network-test.true
    c.network-item.is
    c.loop-network.invariant
    (λ there. false≢true (sym c.if-has.false ∙ c.has.ensures.1 there))

pub returns : goal.returns
returns c =
    let past : drop c.loop-network.network-index c.args.networks.now ≡ [] =
    drop_all c.loop-network.network-index c.args.networks.now c.loop-network-test.false in
    let P : List Network → Type 0 = λ rest. IsInOne rest c.args.address in
    (λ never. absurd (false≢true never), λ one. absurd (subst P past (c.loop-network.invariant.still one)))
