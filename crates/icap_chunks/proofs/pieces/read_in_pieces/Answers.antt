-- If no piece has the end or a fault, the text is a prefix of a body.
use Rattle.icap_chunks.specs.declared.pieces.Outcome.TheVariants.{More}
use Rattle.icap_chunks.proofs.Readings.{reading_as, collected}
use Rattle.icap_chunks.proofs.pieces.read_in_pieces.Goals as goal

-- nothing of the text is left
pub returns : goal.returns
returns c =
    let collector = c.loop-collector.collector in
    reading_as c.args.text.now collector.body.items c.reading-2.result.body.items More c.reading-2.result.outcome
    (collected c.args.text.now collector c.loop-collector.invariant c.loop-collector-test.false) c.reading-2.ensures.body
    c.reading-2.ensures.outcome
