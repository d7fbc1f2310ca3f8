-- A turn that reads frames the bytes that came, or tells that the wire waits, ended or failed, or that no memory was found.
use Rattle.std.proofs.Common.{◌∙◌, ◌<◌, ap, sym, subst, refl, length}
use Rattle.icap_client.specs.Asking.{Asker}
use Rattle.adapt_sides.specs.Filling.{IsFilled}
use Rattle.adapt_sides.specs.declared.filling.Filled.TheVariants as filled
use Rattle.icap_client.proofs.Asked.{ask_short, ask_on, asks_bytes, asks_wait, asks_ended, asks_failed, asks_full}
use Rattle.icap_client.proofs.options.OptionsSide.read_on.Goals as goal

pub fill-requires-clause-short : goal.fill-requires-clause-short
fill-requires-clause-short g c = subst (λ (s : Asker). length s.raw < 16384) (sym c.self.view_is)
    (ask_short c.args.self.now.stage c.args.self.now.raw c.requires.asks)

pub frame-requires : goal.frame-requires
frame-requires g c = λ o. ask_on c.args.self.now.stage c.args.self.now.raw c.requires.asks
    (sym (ap (λ (s : Asker). s.stage) c.self.view_is) ∙ o)

pub returns-clause-asks : goal.returns-clause-asks
returns-clause-asks g c =
    asks_bytes c.args.self.now _ c.frame.new.self (g.W.Wire.past c.args.wire.now) (g.W.Wire.past c.fill.new.wire) c.fill.new.self.bytes
    c.frame.result c.requires.out (ask_on c.args.self.now.stage c.args.self.now.raw c.requires.asks)
    (c.frame.ensures.waiting ∙ ap (λ (s : Asker). s.waiting) c.self.view_is)
    (subst (λ (s : Asker). IsFilled (g.W.Wire.past c.args.wire.now) (g.W.Wire.past c.fill.new.wire) s.raw c.fill.new.self.bytes
    filled.Bytes) c.self.view_is c.in-Bytes.ensures.filled)
    (ap (λ (s : Asker). s.stage) c.self.view_is) (ap (λ (s : Asker). s.response) c.self.view_is) refl c.frame.ensures.frames
    c.frame.ensures.waits c.frame.ensures.refuses

pub returns-in-Wait-clause-asks : goal.returns-in-Wait-clause-asks
returns-in-Wait-clause-asks g c =
    asks_wait c.args.self.now _ (g.W.Wire.past c.args.wire.now) (g.W.Wire.past c.fill.new.wire) c.fill.new.self.bytes c.requires.out
    c.requires.asks (ap (λ (s : Asker). s.waiting) c.self.view_is)
    (subst (λ (s : Asker). IsFilled (g.W.Wire.past c.args.wire.now) (g.W.Wire.past c.fill.new.wire) s.raw c.fill.new.self.bytes filled.Wait)
    c.self.view_is c.in-Wait.ensures.filled)
    (ap (λ (s : Asker). s.stage) c.self.view_is) (ap (λ (s : Asker). s.response) c.self.view_is) refl

pub returns-in-Ended-clause-asks : goal.returns-in-Ended-clause-asks
returns-in-Ended-clause-asks g c =
    asks_ended c.args.self.now _ (g.W.Wire.past c.args.wire.now) (g.W.Wire.past c.fill.new.wire) c.fill.new.self.bytes c.requires.out
    (ask_on c.args.self.now.stage c.args.self.now.raw c.requires.asks) (ap (λ (s : Asker). s.waiting) c.self.view_is)
    (subst (λ (s : Asker). IsFilled (g.W.Wire.past c.args.wire.now) (g.W.Wire.past c.fill.new.wire) s.raw c.fill.new.self.bytes
    filled.Ended) c.self.view_is c.in-Ended.ensures.filled)

pub returns-in-Failed-clause-asks : goal.returns-in-Failed-clause-asks
returns-in-Failed-clause-asks g c =
    asks_failed c.args.self.now _ (g.W.Wire.past c.args.wire.now) (g.W.Wire.past c.fill.new.wire) c.fill.new.self.bytes c.requires.out
    (ask_on c.args.self.now.stage c.args.self.now.raw c.requires.asks) (ap (λ (s : Asker). s.waiting) c.self.view_is)
    (subst (λ (s : Asker). IsFilled (g.W.Wire.past c.args.wire.now) (g.W.Wire.past c.fill.new.wire) s.raw c.fill.new.self.bytes
    filled.Failed) c.self.view_is c.in-Failed.ensures.filled)

pub returns-in-NoMemory-clause-asks : goal.returns-in-NoMemory-clause-asks
returns-in-NoMemory-clause-asks g c =
    asks_full c.args.self.now _ (g.W.Wire.past c.args.wire.now) (g.W.Wire.past c.fill.new.wire) c.fill.new.self.bytes c.requires.out
    (ask_on c.args.self.now.stage c.args.self.now.raw c.requires.asks) (ap (λ (s : Asker). s.waiting) c.self.view_is)
    (subst (λ (s : Asker). IsFilled (g.W.Wire.past c.args.wire.now) (g.W.Wire.past c.fill.new.wire) s.raw c.fill.new.self.bytes
    filled.NoMemory) c.self.view_is c.in-NoMemory.ensures.filled)
