-- Each line that says something is read, in order.
use Rattle.std.proofs.Common.{◌≡◌, ◌∙◌, ◌∷◌, false, sym, append_assoc}
use Rattle.proxy_commands.specs.Lines.{is_comment}
use Rattle.proxy_commands.proofs.Walks.{first_line, one_more}
use Rattle.proxy_commands.proofs.script.read_lines.Goals as goal

pub unreachable-requires : goal.unreachable-requires
unreachable-requires c =
    let cut = c.cut_line in
    let left = c.loop-rest.invariant.left in
    let plain : is_comment cut.result.0.now ≡ false = sym c.is_comment.ensures ∙ c.if-not-is_comment.true in
    let first = first_line c.loop-rest.rest.now cut.result.0.now cut.result.1.now cut.ensures.cut left.0 plain left.1 in
    c.in_default.not-Some first.0 (c.read_line.ensures ∙ first.2)

pub loop-rest-preserved-in_ok-push : goal.loop-rest-preserved-in_ok-push
loop-rest-preserved-in_ok-push c =
    let cut = c.cut_line in
    let rest = c.loop-rest.rest.now in
    let text = cut.result.0.now in
    let left = c.loop-rest.invariant.left in
    let plain : is_comment text ≡ false = sym c.is_comment.ensures ∙ c.if-not-is_comment.true in
    let first = first_line rest text cut.result.1.now cut.ensures.cut left.0 plain left.1 in
    let is = sym c.read_line.ensures ∙ c.in-Some.is in
    record {
      left = (first.1, first.3);
      read = λ more h.
          let here = c.loop-rest.invariant.read (c.in-Some.line ∷ more)
          (one_more rest text cut.result.1.now cut.ensures.cut c.in-Some.line more is h) in
          let e = c.in_ok-push.ensures.items in
          rw (e, append_assoc) here;
    }
