-- The wire answered is that of the idle connection to this address which was taken, by the turn that the seats heard of.
use Rattle.std.proofs.Common.{rules, ◌≡◌, ℕ, Some, None, refl, subst}
use Rattle.std.specs.Bool.{⊤}
use Rattle.shard_desk.specs.declared.origins.KeptOrigin.{KeptOrigin}
use Rattle.shard_desk.specs.Kept.{IsFit, IsUnfit, IsTaken}
use Rattle.shard_desk.proofs.Sifting.{lay_there}
use Rattle.shard_desk.specs.Lines.{IsNotPolled}
use Rattle.shard_desk.proofs.origins.take_origin.Goals as goal

-- the one that is taken lay idle there, and its connection is the one that is answered
pub returns-clause-kept : goal.returns-clause-kept
returns-clause-kept c =
    let before = c.args.kept.now in
    let after = c.take.new.self in
    let there = lay_there (λ (idle : KeptOrigin). idle.wire.stream.to ≡ Some c.args.address)
    (IsFit (λ (idle : KeptOrigin). idle.since) (λ _. ⊤) c.args.now c.args.seconds)
    (IsUnfit (λ (idle : KeptOrigin). idle.since) (λ _. ⊤) c.args.now c.args.seconds) _ before.all.items after.all.items
    c.in_ok-wire.field-0 c.in_ok-wire.ensures.taken in
    (there.0, c.in_ok-wire.field-0, there.1, there.2, refl)

-- the turn that was asked for is the one that the seats have heard of
pub returns-clause-taken : goal.returns-clause-taken
returns-clause-taken c =
    let before = c.args.kept.now in
    let after = c.take.new.self in (
      Some c.in_ok-wire.field-0,
      refl,
      subst (λ (turn : ℕ). IsTaken (λ (idle : KeptOrigin). idle.wire.stream.to ≡ Some c.args.address)
          (IsFit (λ (idle : KeptOrigin). idle.since) (λ _. ⊤) c.args.now c.args.seconds)
          (IsUnfit (λ (idle : KeptOrigin). idle.since) (λ _. ⊤) c.args.now c.args.seconds)
          (λ (idle : KeptOrigin). IsNotPolled turn idle.line) before.all.items after.all.items (Some c.in_ok-wire.field-0))
          c.heard_at.ensures c.in_ok-wire.ensures.taken,
    )

pub returns-in_err-wire-clause-taken : goal.returns-in_err-wire-clause-taken
returns-in_err-wire-clause-taken c =
    let before = c.args.kept.now in
    let after = c.take.new.self in (
      None,
      search rules,
      subst (λ (turn : ℕ). IsTaken (λ (idle : KeptOrigin). idle.wire.stream.to ≡ Some c.args.address)
          (IsFit (λ (idle : KeptOrigin). idle.since) (λ _. ⊤) c.args.now c.args.seconds)
          (IsUnfit (λ (idle : KeptOrigin). idle.since) (λ _. ⊤) c.args.now c.args.seconds)
          (λ (idle : KeptOrigin). IsNotPolled turn idle.line) before.all.items after.all.items None)
          c.heard_at.ensures c.in_err-wire.ensures.taken,
    )
