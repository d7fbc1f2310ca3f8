-- There is room for what is added; all of it, with a held line end once the text reaches the limit, is the unfolded text.
use Rattle.std.proofs.Common.{◌≡◌, ◌++◌, get_or, sym, ap, ap₂, ◌∙◌, arith, length, take, length-take, length-take-le, take_all}
use Rattle.icap_head.specs.declared.folds.HeadPlace.TheVariants.{StartLine}
use Rattle.icap_head.specs.Folds.{head_byte, held, place_after, added, place_behind, all_added}
use Rattle.icap_head.proofs.Folding.{lengths, place_more, added_more, unfolded_long, unfolded_short}
use Rattle.icap_head.proofs.folds.unfolded.Goals as goal

pub add-place-requires : goal.add-place-requires
add-place-requires c =
    let xs = take c.loop-byte.byte-index c.judged-seen.result.now in
    let n = lengths StartLine xs in
    let out = ap length c.loop-byte.invariant.0 in
    let place = ap (λ p. length (held p)) c.loop-byte.invariant.1 in
    let size = length-take-le c.loop-byte.byte-index c.judged-seen.result.now (omega (arith, c.loop-byte-test.true)) in
    omega (arith, n, out, place, size, c.loop-byte-test.true, c.judged-seen.ensures.limit)

pub loop-byte-preserved : goal.loop-byte-preserved
loop-byte-preserved c =
    let seen = c.judged-seen.result.now in
    let k = c.loop-byte.byte-index in
    let place = c.loop-byte.invariant.1 in (
      c.add-place.ensures.added ∙ ap₂ (λ t p. t ++ added p (get_or seen k 0)) c.loop-byte.invariant.0 place
          ∙ sym (added_more StartLine seen k c.loop-byte-test.true),
      c.add-place.ensures.place ∙ ap (λ p. place_after p (head_byte (get_or seen k 0))) place
          ∙ sym (place_more StartLine seen k c.loop-byte-test.true),
    )

pub put-requires : goal.put-requires
put-requires c =
    let seen = c.judged-seen.result.now in
    let n = lengths StartLine (take c.loop-byte.byte-index seen) in
    let out = ap length c.loop-byte.invariant.0 in
    let place = ap (λ p. length (held p)) c.loop-byte.invariant.1 in
    let text = ap length c.held.ensures in
    let size = length-take c.loop-byte.byte-index seen in
    omega (arith, n, out, place, text, size, c.judged-seen.ensures.limit)

-- all of the judged bytes
pub returns-then-text-ge-MAX_HEAD : goal.returns-then-text-ge-MAX_HEAD
returns-then-text-ge-MAX_HEAD c =
    let seen = c.judged-seen.result.now in
    let text = c.args.text.now in
    let all : take c.loop-byte.byte-index seen ≡ take 16384 text =
    take_all c.loop-byte.byte-index seen c.loop-byte-test.false ∙ c.judged-seen.ensures.front in
    c.put.ensures
    ∙ ap₂ (λ t h. t ++ h) (c.loop-byte.invariant.0 ∙ ap (all_added StartLine) all)
    (c.held.ensures ∙ ap held (c.loop-byte.invariant.1 ∙ ap (place_behind StartLine) all))
    ∙ sym (unfolded_long text c.if-text-ge-MAX_HEAD.true)

pub returns-else-text-ge-MAX_HEAD : goal.returns-else-text-ge-MAX_HEAD
returns-else-text-ge-MAX_HEAD c =
    let seen = c.judged-seen.result.now in
    let text = c.args.text.now in
    let short = c.if-text-ge-MAX_HEAD.false in
    let all : take c.loop-byte.byte-index seen ≡ text =
    take_all c.loop-byte.byte-index seen c.loop-byte-test.false ∙ c.judged-seen.ensures.front
    ∙ take_all 16384 text (omega (arith, short)) in
    c.loop-byte.invariant.0 ∙ ap (all_added StartLine) all ∙ sym (unfolded_short text short)
