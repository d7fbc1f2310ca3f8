-- A response's head without folds is read as it is; one with folds reads the same without what follows it.
use Rattle.std.proofs.Common.{◌∙◌, ap, length, length-take-le}
use Rattle.icap_head.specs.Folds.{unfolded}
use Rattle.icap_head.specs.Heads.{StartsResponse}
use Rattle.icap_head.proofs.Folding.{head_stays, front_alone}
use Rattle.icap_head.proofs.laws.folds_are_spaces.Goals as goal

pub returns-clause-plain : goal.returns-clause-plain
returns-clause-plain c = λ text value. head_stays (StartsResponse value) text value.fields

pub returns-clause-alone : goal.returns-clause-alone
returns-clause-alone c = λ text value size h.
    let same = front_alone (StartsResponse value) text value.fields size h in
    (same, ap length same ∙ length-take-le size (unfolded text) h.inside)
