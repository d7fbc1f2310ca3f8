-- Bytes shorter than a head may be, with no line ended since they were judged, are a prefix of a head.
use Rattle.std.proofs.Common.{rules, ◌≡◌, ◌<◌, length, drop, false, ℕ, List, ap, sym, subst, ◌∙◌}
use Rattle.adapt_bytes.specs.Text.{has_line}
use Rattle.icap_client.specs.HeadFront.{Store, IsHeadFront}
use Rattle.icap_client.proofs.Judged.{is_false}
use Rattle.icap_client.proofs.kept.Kept.is_front.Goals as goal

pub returns-then-len-lt-MAX_HEAD : goal.returns-then-len-lt-MAX_HEAD
returns-then-len-lt-MAX_HEAD c = λ e.
    let bytes = c.self.inside.bytes.items in
    let judged = c.self.inside.judged in
    let short : length bytes < 16384 = search rules in
    let slice : c.as_slice.result.now ≡ bytes = search rules in
    let none : has_line (drop judged bytes) ≡ false =
    sym (c.has_line.ensures ∙ ap has_line (c.behind.ensures ∙ ap (λ (t : List ℕ). drop judged t) slice)) ∙ is_false c.has_line.result e in
    subst (λ (s : Store). IsHeadFront s.bytes) c.self.view_is (record {
      judged = judged;
      more = c.self.invariant.2;
      no_line = none;
      short = short;
    })
