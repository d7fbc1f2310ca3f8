-- Messages that come one after the other over a connection.
use Rattle.std.proofs.Common.{◌≡◌, ℕ, List, [], ◌++◌, Option, sym, ap, subst, ◌∙◌}
use Rattle.std.proofs.lemmas.List.{append-nil, append_assoc}
use Rattle.wire_kit.specs.declared.wire.Wire.{Ghosts as Wire}
use Rattle.adapt_hold.specs.Holding.{Holding, shows}
use Rattle.http_relay.specs.Reading.{SideRead}
use Rattle.proxy_rules.specs.Grown.{Grown}
use Rattle.proxy_rules.specs.Running.{OwnEnds}
use Rattle.proxy_rules.specs.Since.{Snapshot, Since}
use Rattle.adapt_turn.specs.Stands.{joined}
use Rattle.proxy_rules.specs.Wires.{WiresTook, begun_with}
use Rattle.proxy_rules.specs.Following.{GaveTexts, IsMessageText}
use Rattle.proxy_rules.proofs.SinceLemmas.{grown_none, grown_then}

-- a connection that is still as it was gave no text, and no byte is left over
pub gave_none : {A : Type 0} (a : Wire A) (wire : A) → GaveTexts a wire wire [] []
gave_none a wire = record { taken = []; wire_is = grown_none (a.past wire) }

-- the connection takes more meanwhile
pub gave_meanwhile : {A : Type 0} (a : Wire A) (first old wire : A) (texts left more : List ℕ) → Grown (a.past old) (a.past wire) [] more
    → GaveTexts a first old texts left → GaveTexts a first wire texts left
gave_meanwhile a first old wire texts left more g t = record {
  taken = t.taken ++ more;
  wire_is = subst (λ (bs : List ℕ). Grown (a.past first) (a.past wire) bs (t.taken ++ more)) (append-nil (texts ++ left))
      (grown_then (a.past first) (a.past old) (a.past wire) (texts ++ left) t.taken [] more t.wire_is g);
}

-- the text is all that was read but for the raw bytes
text_then : (before head framed raw read : List ℕ) → read ≡ (before ++ head) ++ (framed ++ raw) → read ≡ ((before ++ head) ++ framed) ++ raw
text_then before head framed raw read e = e ∙ sym (append_assoc (before ++ head) framed raw)

-- the texts, the bytes that were kept and what was read since
texts_then : (texts ahead read text left : List ℕ) → ahead ++ read ≡ text ++ left → (texts ++ ahead) ++ read ≡ (texts ++ text) ++ left
texts_then texts ahead read text left e = append_assoc texts ahead read
    ∙ (ap (λ (bs : List ℕ). texts ++ bs) e ∙ sym (append_assoc texts text left))

-- a further message comes
pub gave_message : {E H G A W C : Type 0} (a : Wire A) (w : Wire W) (c : Wire C) (s : Snapshot A W C) (ends : OwnEnds E A W C H G)
    (h : Holding) (line : Option W) (first : A) (texts : List ℕ)
    → Since a w c s (WiresTook ends h) ends.source_wire line ends.next_wire → GaveTexts a first s.source texts s.ahead
    → (text : List ℕ) × IsMessageText ends h text × GaveTexts a first ends.source_wire (texts ++ text) ends.source.raw.items
gave_message a w c s ends h line first texts since gave =
    let took = since.took_is in
    let gives = took.original_read in
    let text = (gives.before ++ gives.head_text) ++ gives.framed in
    let all : s.ahead ++ since.texts.source_read.bytes ≡ text ++ ends.source.raw.items =
    text_then gives.before gives.head_text gives.framed ends.source.raw.items _ gives.text_is in (
      text,
      record {
        original = took.original;
        ended = (joined (begun_with s.ahead) since.texts).source_read.ended;
        original_is = took.original_is;
        spells = subst (λ (bs : List ℕ). SideRead (shows h.history) took.original bs
            (joined (begun_with s.ahead) since.texts).source_read.ended ends.source) all gives;
      },
      record {
        taken = gave.taken ++ (s.beside ++ since.texts.back_taken);
        wire_is = subst (λ (bs : List ℕ). Grown (a.past first) (a.past ends.source_wire) bs
            (gave.taken ++ (s.beside ++ since.texts.back_taken)))
            (texts_then texts s.ahead since.texts.source_read.bytes text ends.source.raw.items all)
            (grown_then (a.past first) (a.past s.source) (a.past ends.source_wire) (texts ++ s.ahead) gave.taken
            since.texts.source_read.bytes (s.beside ++ since.texts.back_taken) gave.wire_is
            (λ p b. let x = since.source_is p b in (x.0, x.1, x.2)));
      },
    )
