-- The side hears, waits for and refuses what its reader does of the raw bytes; a judged rest is a head's prefix.
use Rattle.std.proofs.Common.{rules, ◌≡◌, List, ℕ, length, take, drop, ap, sym, subst}
use Rattle.trace_core.specs.History.{shows}
use Rattle.icap_client.specs.Events.{ad_sum}
use Rattle.icap_client.specs.Heard.{Reader}
use Rattle.icap_client.specs.Refused.{Refuses}
use Rattle.icap_client.specs.Hearing.{ReaderHears, MustWait}
use Rattle.icap_client.specs.declared.stage.Stage.{Stage}
use Rattle.icap_client.specs.Reading.{ReadSide}
use Rattle.icap_client.proofs.Sides.{framed, has_to_wait, refuses_still}
use Rattle.icap_client.proofs.side.ReplySide.frame_raw.Goals as goal

pub returns-in-Ok-clause-hears : goal.returns-in-Ok-clause-hears
returns-in-Ok-clause-hears c =
    let x = shows c.args.state.now in
    let old = c.args.self.now in
    let events = c.in-Ok.heard.events.items in
    let used = c.in-Ok.heard.used in
    let raw_is : c.as_slice.result.now ≡ old.raw = search rules in
    let reader_is : c.self.inside.reader ≡ old.reader = ap (λ (s : ReadSide). s.reader) c.self.view_is in
    let rest : c.pass.new.self.bytes ≡ drop used old.raw = search rules in
    framed x old _ events used c.frame.new.out
    (subst (λ (r : Reader). ReaderHears x r c.frame.new.self events (take used old.raw) (take (ad_sum events) c.frame.new.out)) reader_is
    (subst (λ (t : List ℕ). ReaderHears x c.self.inside.reader c.frame.new.self events (take used t) (take (ad_sum events) c.frame.new.out))
    raw_is c.in-Ok.ensures.hears)) rest

pub pass-requires-clause-front : goal.pass-requires-clause-front
pass-requires-clause-front c = λ e.
    let used = c.in-Ok.heard.used in
    let room = length c.args.out.now in
    let raw_is : c.as_slice.result.now ≡ c.self.inside.raw.bytes = search rules in
    let waits : MustWait c.frame.new.self.stage (drop used c.as_slice.result.now) room =
    c.in-Ok.ensures.waits (c.awaits_more-judged.ensures.none e) in
    subst (λ (s : Stage). MustWait s (drop used c.self.inside.raw.bytes) room) (c.awaits_more-judged.ensures.stage e)
    (subst (λ (t : List ℕ). MustWait c.frame.new.self.stage (drop used t) room) raw_is waits)

pub returns-in-Ok-clause-waits : goal.returns-in-Ok-clause-waits
returns-in-Ok-clause-waits c = λ none.
    let room = length c.args.out.now in
    let rest : c.pass.new.self.bytes ≡ drop c.in-Ok.heard.used c.as_slice.result.now = search rules in
    has_to_wait c.frame.new.self.stage c.pass.new.self.bytes room (subst (λ (t : List ℕ). MustWait c.frame.new.self.stage t room) (sym rest)
    (c.in-Ok.ensures.waits none))

pub returns-in-Err-clause-refuses : goal.returns-in-Err-clause-refuses
returns-in-Err-clause-refuses c =
    let x = shows c.args.state.now in
    let raw_is : c.as_slice.result.now ≡ c.self.inside.raw.bytes = search rules in
    refuses_still c.in-Err.fault x c.self.inside.reader c.frame.new.self c.self.inside.raw.bytes c.in-Err.ensures.stays
    (subst (λ (t : List ℕ). Refuses c.in-Err.fault x c.self.inside.reader.point c.self.inside.reader.stage t) raw_is
    c.in-Err.ensures.refuses)
