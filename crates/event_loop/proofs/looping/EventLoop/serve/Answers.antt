-- An event of an exchange is noted, and the exchange is marked if that is news.
use Rattle.std.proofs.Common.{◌≡◌, ℕ, Some, None, [], ◌∷◌, refl, sym, ap, ◌∙◌}
use Rattle.socket_wire.specs.declared.token.Peer.{Peer}
use Rattle.event_loop.specs.Deeds.Deed.{Noted}
use Rattle.event_loop.proofs.Turning.{did_is, did_mark, does_nothing, does_one}
use Rattle.event_loop.proofs.Serving.{no_admin, no_metrics, served_news, served_still}
use Rattle.event_loop.proofs.looping.EventLoop.serve.Goals as goal

-- where some pair is some other one, the pairs are the same
same_pair : {x y : ℕ × Peer} → Some x ≡ Some y → x ≡ y
same_pair e = cc

-- where some number and peer are some others, the numbers are the same, and so are the peers
same_named : {k n : ℕ} {p q : Peer} → let x : ℕ × Peer = (k, p) in let y : ℕ × Peer = (n, q) in Some x ≡ Some y → (k ≡ n) × (p ≡ q)
same_named {k} {n} {p} {q} e = let x : ℕ × Peer = (k, p) in let y : ℕ × Peer = (n, q) in let f : x ≡ y = same_pair e in
    (ap (λ (z : ℕ × Peer). z.0) f, ap (λ (z : ℕ × Peer). z.1) f)

pub returns-in-Some-note : goal.returns-in-Some-note
returns-in-Some-note g c =
    let number = c.in-Some.number in
    let peer = c.in-Some.peer in
    let key = c.in-Some-note.key in
    did_mark g.K.Work c.args.self.now _ (Noted number peer c.args.event.told (Some key)) key c.in-Some-note.ensures.past
    (λ x k. (refl, refl, tt))
    c.in-Some-note.ensures.kept c.in-Some-note.ensures.there c.add.ensures.marked c.add.ensures.others c.add.ensures.count refl
    (λ due. (
      served_news c.args.event number peer key _ (λ n p e. same_named (c.in-Some.ensures n p e))
          (Noted number peer c.args.event.told (Some key) ∷ []) due,
      (tt, tt),
    ))

pub returns-in-None-note : goal.returns-in-None-note
returns-in-None-note g c =
    did_is g.K.Work c.args.self.now _ (Noted c.in-Some.number c.in-Some.peer c.args.event.told None ∷ [])
    (does_one g.K.Work c.args.self.now _ (Noted c.in-Some.number c.in-Some.peer c.args.event.told None) c.in-None-note.ensures.past
    (λ x key. (refl, refl, tt)) c.in-None-note.ensures.kept refl refl)
    (served_still c.args.event c.in-Some.number c.in-Some.peer _ (λ n p e. same_named (c.in-Some.ensures n p e)), (tt, tt))

-- none isn't some pair
none_some : {x : ℕ × Peer} → None ≡ Some x → ⊥
none_some e = cc

pub returns-then-key-lt-MAX_ASKERS : goal.returns-then-key-lt-MAX_ASKERS
returns-then-key-lt-MAX_ASKERS g c =
    did_is g.K.Work c.args.self.now _ [] (does_nothing g.K.Work c.args.self.now _ refl refl refl)
    (λ k p e. absurd (none_some (sym c.in-None.is ∙ c.peer_of.ensures k p e)), tt)

pub returns-else-key-lt-MAX_ASKERS : goal.returns-else-key-lt-MAX_ASKERS
returns-else-key-lt-MAX_ASKERS g c =
    did_is g.K.Work c.args.self.now _ [] (does_nothing g.K.Work c.args.self.now _ refl refl refl)
    (λ k p e. absurd (none_some (sym c.in-None.is ∙ c.peer_of.ensures k p e)), tt)

pub returns-then-event-2 : goal.returns-then-event-2
returns-then-event-2 g c =
    did_is g.K.Work c.args.self.now _ [] (does_nothing g.K.Work c.args.self.now _ refl refl refl)
    (λ k p e. absurd (no_admin k p (sym e ∙ c.if-event-2.true)), tt)

pub returns-then-event-3 : goal.returns-then-event-3
returns-then-event-3 g c =
    did_is g.K.Work c.args.self.now _ [] (does_nothing g.K.Work c.args.self.now _ refl refl refl)
    (λ k p e. absurd (no_metrics k p (sym e ∙ c.if-event-3.true)), tt)
