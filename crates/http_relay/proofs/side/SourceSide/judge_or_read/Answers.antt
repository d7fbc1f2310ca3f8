-- What judging the kept bytes gives, or else each answer of the one read, is a turn at the head.
use Rattle.std.proofs.Common.{◌≡◌, ◌⊎◌, IfErr, Result, Ok, Err, refl, subst, arith}
use Rattle.adapt_sides.specs.declared.fault.RelayFault.{RelayFault}
use Rattle.adapt_sides.specs.declared.fault.RelayFault.TheVariants.{Head, NoMemory}
use Rattle.http_relay.specs.declared.side.SourceSide.{SourceSide}
use Rattle.http_relay.specs.declared.side.head.HeadProgress.{HeadProgress}
use Rattle.http_relay.specs.declared.side.head.HeadProgress.TheVariants as progress
use Rattle.http_relay.proofs.Heads.{head_judged, head_bytes, head_waited, head_ended, head_failed, head_full}
use Rattle.http_relay.proofs.side.SourceSide.judge_or_read.Goals as goal

pub returns-in-Ok-Interim : goal.returns-in-Ok-Interim
returns-in-Ok-Interim g c = record {
  turn =
      let count = rw c.in-Ok-Interim.field-0-is at c.in-Ok-Interim.ensures.count in
      let heads = rw c.in-Ok-Interim.field-0-is at c.in-Ok-Interim.ensures.heads in
      let judged = rw c.in-Ok-Interim.field-0-is at c.in-Ok-Interim.ensures.judged in
      head_judged c.args.self.now c.judge.new.self (g.W.Wire.past c.args.wire.now) (Ok progress.Interim) (λ e. cc) (λ f e. cc) count heads
      judged;
  asks = c.in-Ok-Interim.ensures.asks;
}

pub returns-in-Ok-Taken : goal.returns-in-Ok-Taken
returns-in-Ok-Taken g c = record {
  turn =
      let count = rw c.in-Ok-Taken.field-0-is at c.in-Ok-Taken.ensures.count in
      let heads = rw c.in-Ok-Taken.field-0-is at c.in-Ok-Taken.ensures.heads in
      let judged = rw c.in-Ok-Taken.field-0-is at c.in-Ok-Taken.ensures.judged in
      head_judged c.args.self.now c.judge.new.self (g.W.Wire.past c.args.wire.now) (Ok progress.Taken) (λ e. cc) (λ f e. cc) count heads
      judged;
  asks = c.in-Ok-Taken.ensures.asks;
}

pub returns-in-Err : goal.returns-in-Err
returns-in-Err g c = record {
  turn =
      head_judged c.args.self.now c.judge.new.self (g.W.Wire.past c.args.wire.now) (Err c.in-Err.fault) (λ e. cc)
      (λ f e. let is : c.in-Err.fault ≡ f = cc in subst (λ (h : RelayFault). (h ≡ Head) ⊎ (h ≡ NoMemory)) is c.in-Err.ensures.refused)
      c.in-Err.ensures.count c.in-Err.ensures.heads c.in-Err.ensures.judged;
  asks = c.in-Err.ensures.asks;
}

pub returns-in-Bytes-clause-turn : goal.returns-in-Bytes-clause-turn
returns-in-Bytes-clause-turn g c =
    let count = rw c.in-Ok-More.field-0-is at c.in-Ok-More.ensures.count in
    let heads = rw c.in-Ok-More.field-0-is at c.in-Ok-More.ensures.heads in
    let judged = rw c.in-Ok-More.field-0-is at c.in-Ok-More.ensures.judged in
    let more : SourceSide = record {
      alloc = c.judge.new.self.alloc;
      asks = c.judge.new.self.asks;
      head = c.judge.new.self.head;
      head_fault = c.judge.new.self.head_fault;
      body = c.judge.new.self.body;
      raw = c.fill.new.raw;
      judged = c.judge.new.self.judged;
      interims = c.judge.new.self.interims;
      fault = c.judge.new.self.fault;
    } in
    head_bytes c.args.self.now c.judge.new.self more c.judge-in-Bytes.new.self (g.W.Wire.past c.args.wire.now)
    (g.W.Wire.past c.fill.new.wire) c.judge-in-Bytes.result
    (omega (arith, count)) c.judge-in-Bytes.ensures.count heads (record { asks = refl; head = refl; body = refl }) c.in-Bytes.ensures.filled
    (λ f e. subst (λ (r : Result HeadProgress RelayFault). IfErr r (λ h. (h ≡ Head) ⊎ (h ≡ NoMemory))) e c.judge-in-Bytes.ensures.refused)
    c.judge-in-Bytes.ensures.heads
    (record { judged = refl; interims = refl; head_fault = refl }) judged c.judge-in-Bytes.ensures.judged

pub returns-in-Wait-clause-turn : goal.returns-in-Wait-clause-turn
returns-in-Wait-clause-turn g c =
    let count = rw c.in-Ok-More.field-0-is at c.in-Ok-More.ensures.count in
    let heads = rw c.in-Ok-More.field-0-is at c.in-Ok-More.ensures.heads in
    let judged = rw c.in-Ok-More.field-0-is at c.in-Ok-More.ensures.judged in
    let new : SourceSide = record {
      alloc = c.judge.new.self.alloc;
      asks = c.judge.new.self.asks;
      head = c.judge.new.self.head;
      head_fault = c.judge.new.self.head_fault;
      body = c.judge.new.self.body;
      raw = c.fill.new.raw;
      judged = c.judge.new.self.judged;
      interims = c.judge.new.self.interims;
      fault = c.judge.new.self.fault;
    } in
    head_waited c.args.self.now c.judge.new.self new (g.W.Wire.past c.args.wire.now) (g.W.Wire.past c.fill.new.wire)
    (omega (arith, count)) heads (record { asks = refl; head = refl; body = refl }) c.in-Wait.ensures.filled
    (record { judged = refl; interims = refl; head_fault = refl }) judged

pub returns-in-Ended-clause-turn : goal.returns-in-Ended-clause-turn
returns-in-Ended-clause-turn g c =
    let count = rw c.in-Ok-More.field-0-is at c.in-Ok-More.ensures.count in
    let heads = rw c.in-Ok-More.field-0-is at c.in-Ok-More.ensures.heads in
    let judged = rw c.in-Ok-More.field-0-is at c.in-Ok-More.ensures.judged in
    let new : SourceSide = record {
      alloc = c.judge.new.self.alloc;
      asks = c.judge.new.self.asks;
      head = c.judge.new.self.head;
      head_fault = c.judge.new.self.head_fault;
      body = c.judge.new.self.body;
      raw = c.fill.new.raw;
      judged = c.judge.new.self.judged;
      interims = c.judge.new.self.interims;
      fault = c.judge.new.self.fault;
    } in
    head_ended c.args.self.now c.judge.new.self new (g.W.Wire.past c.args.wire.now) (g.W.Wire.past c.fill.new.wire)
    (omega (arith, count)) heads (record { asks = refl; head = refl; body = refl }) c.in-Ended.ensures.filled
    (record { judged = refl; interims = refl; head_fault = refl }) judged

pub returns-in-Failed-clause-turn : goal.returns-in-Failed-clause-turn
returns-in-Failed-clause-turn g c =
    let count = rw c.in-Ok-More.field-0-is at c.in-Ok-More.ensures.count in
    let heads = rw c.in-Ok-More.field-0-is at c.in-Ok-More.ensures.heads in
    let judged = rw c.in-Ok-More.field-0-is at c.in-Ok-More.ensures.judged in
    let new : SourceSide = record {
      alloc = c.judge.new.self.alloc;
      asks = c.judge.new.self.asks;
      head = c.judge.new.self.head;
      head_fault = c.judge.new.self.head_fault;
      body = c.judge.new.self.body;
      raw = c.fill.new.raw;
      judged = c.judge.new.self.judged;
      interims = c.judge.new.self.interims;
      fault = c.judge.new.self.fault;
    } in
    head_failed c.args.self.now c.judge.new.self new (g.W.Wire.past c.args.wire.now) (g.W.Wire.past c.fill.new.wire)
    (omega (arith, count)) heads (record { asks = refl; head = refl; body = refl }) c.in-Failed.ensures.filled
    (record { judged = refl; interims = refl; head_fault = refl }) judged

pub returns-in-NoMemory-clause-turn : goal.returns-in-NoMemory-clause-turn
returns-in-NoMemory-clause-turn g c =
    let count = rw c.in-Ok-More.field-0-is at c.in-Ok-More.ensures.count in
    let heads = rw c.in-Ok-More.field-0-is at c.in-Ok-More.ensures.heads in
    let judged = rw c.in-Ok-More.field-0-is at c.in-Ok-More.ensures.judged in
    let new : SourceSide = record {
      alloc = c.judge.new.self.alloc;
      asks = c.judge.new.self.asks;
      head = c.judge.new.self.head;
      head_fault = c.judge.new.self.head_fault;
      body = c.judge.new.self.body;
      raw = c.fill.new.raw;
      judged = c.judge.new.self.judged;
      interims = c.judge.new.self.interims;
      fault = c.judge.new.self.fault;
    } in
    head_full c.args.self.now c.judge.new.self new (g.W.Wire.past c.args.wire.now) (g.W.Wire.past c.fill.new.wire)
    (omega (arith, count)) heads (record { asks = refl; head = refl; body = refl }) c.in-NoMemory.ensures.filled
    (record { judged = refl; interims = refl; head_fault = refl }) judged
