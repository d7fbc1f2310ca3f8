-- The bytes before the first LF, without one CR at their end, are the first line; without an LF there is none.
use Rattle.std.proofs.Common.{take, rules}
use Rattle.adapt_bytes.proofs.Cuts.{cut_here, Lacks-take}
use Rattle.icap_head.proofs.Lacking.{lacks_cut}
use Rattle.icap_head.proofs.start_lines.first_line.Goals as goal

pub returns-in_err-at-clause-none : goal.returns-in_err-at-clause-none
returns-in_err-at-clause-none c = rw c.from_residual.ensures (λ line rest h. lacks_cut 10 c.args.text.now h.raw rest (search rules) h.cut)

pub returns-clause-some : goal.returns-clause-some
returns-clause-some c =
    let text = c.args.text.now in
    let at = c.in_ok-at.at in (
      search rules,
      record {
        raw = take at text;
        cut = cut_here text at 10 (search rules) (search rules);
        no_feed = Lacks-take 10 text at (search rules) (search rules);
        line_is = search rules;
      },
    )
