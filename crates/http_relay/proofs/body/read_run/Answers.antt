-- What a prefix of the bytes reads or breaks, all of them do; where its part finds no room, the next byte is one of the body.
use Rattle.std.proofs.Common.{◌≡◌, ℕ, ◌<◌, List, length, take, refl, ap, sym, subst, ◌∙◌, arith}
use Rattle.http_relay.specs.Body.{ReadsOn}
use Rattle.http_relay.proofs.Bodies.{breaks_whole, reads_whole, next_is_body}
use Rattle.http_relay.proofs.body.read_run.Goals as goal

pub returns-then-part-out-clause-none : goal.returns-then-part-out-clause-none
returns-then-part-out-clause-none c =
    let most = c.front-piece.ensures.most in
    let room = c.max.ensures in
    let long = c.part_of-part.ensures.len in
    let w = c.in-Ok.ensures.within in
    let none : length c.args.out.now ≡ 0 = omega arith in
    let one : c.max.result ≡ 1 = omega arith in
    let used : c.in-Ok.fed.used ≡ 1 = omega arith in
    let some : 0 < length c.part_of-part.result.now = omega arith in (
      none,
      refl,
      next_is_body c.args.reader.now c.feed.new.self c.args.raw.now c.front-piece.result.now c.in-Ok.fed.used c.part_of-part.result.now
          (c.front-piece.ensures.front ∙ ap (λ (n : ℕ). take n c.args.raw.now) one) used w.2 some
          (subst (λ (p : List ℕ). ReadsOn c.args.reader.now c.front-piece.result.now c.in-Ok.fed.used p c.feed.new.self)
          (sym c.part_of-part.ensures.part) c.in-Ok.ensures.read),
    )

pub returns-else-part-out-clause-reads : goal.returns-else-part-out-clause-reads
returns-else-part-out-clause-reads c =
    let put = c.put_front.ensures in
    let on = subst (λ (p : List ℕ). ReadsOn c.args.reader.now c.front-piece.result.now c.in-Ok.fed.used p c.feed.new.self)
    (sym c.part_of-part.ensures.part) c.in-Ok.ensures.read in
    let all = reads_whole c.args.reader.now c.feed.new.self c.args.raw.now c.front-piece.result.now c.max.result c.in-Ok.fed.used
    c.part_of-part.result.now c.front-piece.ensures.front c.in-Ok.ensures.within.2 on in
    subst (λ (p : List ℕ). ReadsOn c.args.reader.now c.args.raw.now c.in-Ok.fed.used p c.feed.new.self) (sym put) all

pub returns-in-Err-clause-fault : goal.returns-in-Err-clause-fault
returns-in-Err-clause-fault c = (
  refl,
  breaks_whole c.args.reader.now c.args.raw.now c.front-piece.result.now c.max.result c.in-Err.fault c.front-piece.ensures.front
      c.in-Err.ensures.fault,
)
