-- The head or the fault of the copy, whose folds are written over, is that of the text.
use Rattle.std.proofs.Common.{◌≡◌, ℕ, List, ◌⊎◌, IfOk, IfErr, ◌∙◌, subst}
use Rattle.icap_head.specs.declared.reading.HeadFault.TheVariants.{NoMemory}
use Rattle.icap_head.specs.StartLines.{StatusForm}
use Rattle.icap_head.specs.Heads.{Response, HasPlainResponse, RefusesIcapHead, response_parts}
use Rattle.icap_head.proofs.responses.read_folded.Goals as goal

pub returns-clause-ok : goal.returns-clause-ok
returns-clause-ok c =
    let P : List ℕ → Type 0 = λ t. IfOk c.read_plain.result (λ head. HasPlainResponse t (response_parts head.value) head.length) in
    subst P (c.as_slice.ensures.value ∙ c.unfolded-plain.ensures) c.read_plain.ensures.ok

pub returns-clause-err : goal.returns-clause-err
returns-clause-err c =
    let P : List ℕ → Type 0 = λ t. IfErr c.read_plain.result (λ fault. ((fault ≡ NoMemory)
    × ((value : Response) × (size : ℕ) × HasPlainResponse t value size)) ⊎ RefusesIcapHead StatusForm fault t) in
    subst P (c.as_slice.ensures.value ∙ c.unfolded-plain.ensures) c.read_plain.ensures.err
