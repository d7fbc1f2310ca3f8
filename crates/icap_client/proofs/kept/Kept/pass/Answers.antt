-- Where the rest is a prefix of a head all of it counts as judged, and it keeps the limit of the bytes.
use Rattle.std.proofs.Common.{rules, ◌≡◌, ◌≤◌, length, drop, ℕ, List, ap, sym, subst, arith, length-drop}
use Rattle.icap_head.specs.Heads.{RefusesResponse}
use Rattle.icap_head.specs.declared.reading.HeadFault.TheVariants.{More}
use Rattle.icap_client.specs.HeadFront.{IsJudged}
use Rattle.icap_client.proofs.Judged.{all_judged}
use Rattle.icap_client.proofs.kept.Kept.pass.Goals as goal

pub invariant_of-self : goal.invariant_of-self
invariant_of-self c =
    let bytes = c.advance.new.self.items in
    let text : bytes ≡ drop c.args.used c.args.self.now.bytes = search rules in
    let rest : length bytes ≡ length (drop c.args.used c.self.inside.bytes.items) = ap (λ (t : List ℕ). length t) c.advance.ensures.items in
    let few : length bytes ≤ 65536 = omega (arith, rest, length-drop c.args.used c.self.inside.bytes.items, c.self.invariant.0) in
    let front : RefusesResponse More bytes = subst (λ (t : List ℕ). RefusesResponse More t) (sym text)
    (c.requires.front c.if-judged.true) in (
      few,
      omega (arith, c.len-self-inside.ensures),
      subst (λ (n : ℕ). IsJudged n bytes) (sym c.len-self-inside.ensures) (all_judged bytes front),
    )
