-- A text that spells a URI and has no number sign is an ICAP URI just if the URI's scheme is `icap`, in any case of its letters.
use Rattle.std.proofs.Common.{rules, ◌∙◌}
use Rattle.adapt_bytes.specs.Text.{Lacks}
use Rattle.http_uri.proofs.Theorems.{Spells_unique}
use Rattle.icap_head.proofs.Words.{is_true_unless}
use Rattle.icap_head.proofs.start_lines.is_icap_uri.Goals as goal

pub returns-in-Ok : goal.returns-in-Ok
returns-in-Ok c =
    let none : Lacks 35 c.args.text.now = search rules in (
      λ is.
          let s = c.has_icap_scheme.ensures.yes is in
          record { uri = c.in-Ok.uri; spells = c.in-Ok.ensures.ok; scheme = s.0; scheme_is = s.1; icap = s.2; no_fragment = none },
      λ h. is_true_unless c.has_icap_scheme.result (λ wrong.
          let same = Spells_unique c.args.text.now c.in-Ok.uri h.uri c.in-Ok.ensures.ok h.spells in
          c.has_icap_scheme.ensures.not wrong h.scheme (same.0 ∙ h.scheme_is) h.icap),
    )
