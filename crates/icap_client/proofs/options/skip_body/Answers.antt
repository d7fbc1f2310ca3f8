-- Run after run of the body is skipped; what breaks a run breaks the body after the part that was skipped before it.
use Rattle.std.proofs.Common.{[], ◌++◌, length, ap, arith, length-drop}
use Rattle.icap_client.proofs.Bodies.{not_ended}
use Rattle.icap_client.proofs.Skipping.{skip_none, skip_more, skip_breaks}
use Rattle.icap_client.proofs.options.skip_body.Goals as goal

pub loop-used-init : goal.loop-used-init
loop-used-init c = record {
  within = omega arith;
  part = [];
  reads = skip_none c.args.chunks.now c.args.raw.now;
  going_on = c.requires.going_on;
  sound = c.requires.sound;
}

pub loop-used-preserved : goal.loop-used-preserved
loop-used-preserved c =
    let w = rw c.in-Ok-Some.field-0-is at c.in-Ok-Some.ensures.within in
    let r = rw c.in-Ok-Some.field-0-is at c.in-Ok-Some.ensures.reads in
    let e = rw c.in-Ok-Some.field-0-is at c.in-Ok-Some.ensures.ended in
    let o = rw c.in-Ok-Some.field-0-is at c.in-Ok-Some.ensures.no_fault in
    record {
      within = omega (arith, w.0, ap length c.behind.ensures, length-drop c.loop-used.used c.args.raw.now);
      part = c.loop-used.invariant.part ++ _;
      reads = skip_more c.args.chunks.now c.loop-used.chunks c.read_run.new.chunks c.args.raw.now c.behind.result.now c.loop-used.used
          c.in-Ok-Some.run'.used c.loop-used.invariant.part _ c.loop-used.invariant.reads c.behind.ensures r;
      going_on = not_ended c.read_run.new.chunks c.in-Ok-Some.run'.ended e c.if-run.false;
      sound = o;
    }

pub returns-then-run-clause-reads : goal.returns-then-run-clause-reads
returns-then-run-clause-reads c =
    let r = rw c.in-Ok-Some.field-0-is at c.in-Ok-Some.ensures.reads in (
      _,
      skip_more c.args.chunks.now c.loop-used.chunks c.read_run.new.chunks c.args.raw.now c.behind.result.now c.loop-used.used
          c.in-Ok-Some.run'.used c.loop-used.invariant.part _ c.loop-used.invariant.reads c.behind.ensures r,
    )

pub returns-in-Err-clause-fault : goal.returns-in-Err-clause-fault
returns-in-Err-clause-fault c = (
  c.loop-used.invariant.part,
  skip_breaks c.args.chunks.now c.loop-used.chunks c.args.raw.now c.behind.result.now c.loop-used.used c.loop-used.invariant.part
      c.in-Err.fault c.loop-used.invariant.reads c.behind.ensures c.in-Err.ensures.fault.1,
)
