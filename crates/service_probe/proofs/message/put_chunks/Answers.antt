-- One chunk more is written, and one fewer is left.
use Rattle.std.proofs.Common.{◌≡◌, ◌++◌, ◌+◌, ◌-◌, take, drop, ap, ◌∙◌}
use Rattle.service_probe.specs.Messages.{chunk, chunks_of}
use Rattle.service_probe.proofs.Texts.{grown, chunks_left}
use Rattle.service_probe.proofs.message.put_chunks.Goals as goal

pub loop-chunk-preserved : goal.loop-chunk-preserved
loop-chunk-preserved c =
    let old = c.loop-chunk.text.items in
    let new = c.put_chunk.new.text.items in
    let rest = c.loop-chunk.rest.now in
    let fewer = c.args.count - (c.loop-chunk._chunk + 1) in
    let part : new ≡ old ++ chunk (take 4096 rest) = c.in_ok-put_chunk.ensures ∙ ap (λ bytes. old ++ chunk bytes) c.front.ensures.front in
    ap (λ left. new ++ chunks_of fewer left) c.behind-rest.ensures
    ∙ grown old new (chunk (take 4096 rest)) (chunks_of fewer (drop 4096 rest)) (chunks_of (c.args.count - c.loop-chunk._chunk) rest) part
    (chunks_left c.args.count c.loop-chunk._chunk rest c.loop-chunk-test.true)
    ∙ c.loop-chunk.invariant
