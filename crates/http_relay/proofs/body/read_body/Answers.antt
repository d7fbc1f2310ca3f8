-- Runs one after another are one reading; a run that breaks before any byte of the body came breaks the whole.
use Rattle.std.proofs.Common.{◌-◌, length, sym, ap, arith, length-drop, ◌∙◌}
use Rattle.http_relay.proofs.Bodies.{reads_more_runs, reads_kept, reads_none, breaks_behind, not_ended}
use Rattle.http_relay.proofs.body.read_body.Goals as goal

pub loop-used-init : goal.loop-used-init
loop-used-init c = record {
  read = omega arith;
  fits = omega arith;
  fewer = omega arith;
  reads = reads_none c.args.reader.now c.args.raw.now;
  going_on = sym c.has_ended.ensures ∙ c.if-has_ended.false;
}

pub loop-used-preserved : goal.loop-used-preserved
loop-used-preserved c =
    let w = rw c.in-Ok-Some.field-0-is at c.in-Ok-Some.ensures.within in
    let r = rw c.in-Ok-Some.field-0-is at c.in-Ok-Some.ensures.reads in
    let kept = c.read_run.auto.out in
    let e = rw c.in-Ok-Some.field-0-is at c.in-Ok-Some.ensures.ended in
    record {
      read = omega (arith, w.0, ap length c.behind-rest.ensures, length-drop c.loop-used.used c.args.raw.now);
      fits = omega (arith, w.1, kept);
      fewer = omega (arith, w.2, c.loop-used.invariant.fewer);
      reads = reads_more_runs c.args.reader.now c.loop-used.reader c.read_run.new.reader c.args.raw.now c.behind-rest.result.now
          c.loop-used.used c.in-Ok-Some.run'.used c.loop-used.out c.read_run.new.out
          c.loop-used.count (length c.loop-used.out - c.loop-used.count) c.in-Ok-Some.run'.count c.loop-used.invariant.reads
          c.behind-rest.ensures r c.loop-used.invariant.fits (omega (arith, w.1, kept));
      going_on = not_ended c.read_run.new.reader c.in-Ok-Some.run'.ended e c.if-run.false;
    }

pub returns-then-run-clause-reads : goal.returns-then-run-clause-reads
returns-then-run-clause-reads c =
    let w = rw c.in-Ok-Some.field-0-is at c.in-Ok-Some.ensures.within in
    let r = rw c.in-Ok-Some.field-0-is at c.in-Ok-Some.ensures.reads in
    let kept = c.read_run.auto.out in
    rw c.new-then-run.ensures (reads_more_runs c.args.reader.now c.loop-used.reader c.read_run.new.reader c.args.raw.now
    c.behind-rest.result.now c.loop-used.used c.in-Ok-Some.run'.used c.loop-used.out c.read_run.new.out
    c.loop-used.count (length c.loop-used.out - c.loop-used.count) c.in-Ok-Some.run'.count c.loop-used.invariant.reads c.behind-rest.ensures
    r c.loop-used.invariant.fits (omega (arith, w.1, kept)))

pub returns-in-Ok-None-clause-reads : goal.returns-in-Ok-None-clause-reads
returns-in-Ok-None-clause-reads c =
    let n = rw c.in-Ok-None.field-0-is at c.in-Ok-None.ensures.none in
    rw c.new-in-Ok-None.ensures (reads_kept c.args.reader.now c.loop-used.reader c.read_run.new.reader c.args.raw.now c.loop-used.used
    c.loop-used.out c.read_run.new.out c.loop-used.count (length c.loop-used.out - c.loop-used.count)
    c.loop-used.invariant.reads n.1 c.loop-used.invariant.fits)

pub returns-in-Err-clause-reads : goal.returns-in-Err-clause-reads
returns-in-Err-clause-reads c =
    rw c.new-in-Err.ensures (reads_kept c.args.reader.now c.loop-used.reader c.read_run.new.reader c.args.raw.now c.loop-used.used
    c.loop-used.out c.read_run.new.out c.loop-used.count (length c.loop-used.out - c.loop-used.count)
    c.loop-used.invariant.reads c.in-Err.ensures.fault.0 c.loop-used.invariant.fits)

pub returns-then-count-eq0-clause-fault : goal.returns-then-count-eq0-clause-fault
returns-then-count-eq0-clause-fault c =
    breaks_behind c.args.reader.now c.loop-used.reader c.args.raw.now c.behind-rest.result.now c.loop-used.used c.loop-used.count
    c.loop-used.out c.in-Err.fault c.if-count-eq0.true
    c.loop-used.invariant.reads c.behind-rest.ensures c.in-Err.ensures.fault.1
