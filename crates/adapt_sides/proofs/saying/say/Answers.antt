-- One write offers what is left of the text, and its answer says how far the text is out.
use Rattle.std.proofs.Common.{◌≡◌, ℕ, ◌+◌, ◌-◌, ◌≤◌, length, drop, List, Some, refl, ap, ◌∙◌, subst, arith}
use Rattle.std.proofs.lemmas.List.{length-drop}
use Rattle.wire_kit.specs.declared.wire.Put.{Put}
use Rattle.wire_kit.specs.declared.wire.Put.TheVariants as put
use Rattle.wire_kit.specs.Past.{Past, FitsPut, after_write, Offers}
use Rattle.adapt_sides.proofs.saying.say.Goals as goal

-- what is left of a text was offered
offers_rest : (old new : Past → Type 0) (rest left : List ℕ) (answer : Put) → rest ≡ left
    → ((p : Past) → old p → new (after_write p rest answer)) → FitsPut (length rest) answer → Offers old new left (Some answer)
offers_rest old new rest left answer e past fits =
    subst (λ (b : List ℕ). Offers old new b (Some answer)) e (record { each = past; fits = fits })

-- how many bytes are out, by how many are left of those that were offered
out_of : (before n left : ℕ) (text rest : List ℕ) → rest ≡ drop before text → (1 ≤ n) × (n ≤ length rest)
    → left ≡ length rest - n → before + n + left ≡ length text
out_of before n left text rest e fits l =
    let h : length rest ≡ length text - before = ap length e ∙ length-drop before text in
    omega (arith, h, fits.0, fits.1, l)

pub returns-then-left-eq0 : goal.returns-then-left-eq0
returns-then-left-eq0 g c = (
  Some (put.Took c.in-Took.count),
  offers_rest _ _ _ _ _ c.behind-rest.ensures c.in-Took.ensures.past c.in-Took.ensures.fits,
  let a = out_of c.args.before c.in-Took.count _ c.args.text.now _ c.behind-rest.ensures c.in-Took.ensures.fits refl in
      omega (arith, a, c.if-left-eq0.true),
)

pub returns-else-left-eq0 : goal.returns-else-left-eq0
returns-else-left-eq0 g c = (
  Some (put.Took c.in-Took.count),
  offers_rest _ _ _ _ _ c.behind-rest.ensures c.in-Took.ensures.past c.in-Took.ensures.fits,
  let a = out_of c.args.before c.in-Took.count _ c.args.text.now _ c.behind-rest.ensures c.in-Took.ensures.fits refl in
      (omega (arith, a), omega (arith, a, c.in-Took.ensures.fits.0, c.if-left-eq0.false)),
)

pub returns-in-Wait : goal.returns-in-Wait
returns-in-Wait g c = (
  Some put.Wait,
  offers_rest _ _ _ _ _ c.behind-rest.ensures c.in-Wait.ensures.past c.in-Wait.ensures.fits,
  tt,
)

pub returns-in-Fault : goal.returns-in-Fault
returns-in-Fault g c = (
  Some put.Fault,
  offers_rest _ _ _ _ _ c.behind-rest.ensures c.in-Fault.ensures.past c.in-Fault.ensures.fits,
  tt,
)
