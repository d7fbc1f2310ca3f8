-- Messages that come one after the other over a connection.
use Rattle.std.specs.Prelude.{ℕ, Bool, List, ◌++◌}
use Rattle.wire_kit.specs.declared.wire.Wire.{Ghosts as Wire}
use Rattle.adapt_hold.specs.Spans.{EndsBody}
use Rattle.adapt_hold.specs.Holding.{Holding, shows}
use Rattle.http_relay.specs.Reading.{SideRead}
use Rattle.proxy_rules.specs.Grown.{Grown}
use Rattle.proxy_rules.specs.Running.{OwnEnds}

-- This is the text of a message as far as it was read: with the raw bytes after it, it spells the head that was read and this original.
pub record IsMessageText {E A W C H G : Type 0} (ends : OwnEnds E A W C H G) (h : Holding) (text : List ℕ) : Type 0 where
  pub original : List ℕ
  pub ended : Bool
  pub original_is : EndsBody h.original original
  pub spells : SideRead (shows h.history) original (text ++ ends.source.raw.items) ended ends.source

-- since a connection was this one it gave just these texts of messages, one after the other, and then the bytes that are left over
pub record GaveTexts {A : Type 0} (a : Wire A) (first wire : A) (texts left : List ℕ) : Type 0 where
  pub taken : List ℕ
  pub wire_is : Grown (a.past first) (a.past wire) (texts ++ left) taken
