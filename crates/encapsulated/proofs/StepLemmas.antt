-- Lists of items that are read one by one.
use Rattle.std.proofs.Common.{◌≡◌, ℕ, List, [], Option, Some, None, IfSome, IfNone, IfErr, is_none, true, false, ap, append-nil, ◌∙◌}
use Rattle.std.specs.Prelude.{ok_or}
use Rattle.encapsulated.specs.declared.parts.Part.{Part}
use Rattle.encapsulated.specs.declared.seen.Seen.{Seen}
use Rattle.encapsulated.specs.declared.fault.EncFault.TheVariants.{Order}
use Rattle.encapsulated.specs.Grammar.{AreParts}
use Rattle.encapsulated.specs.Layouts.{names}
use Rattle.encapsulated.specs.Order.{HasSeen, Unread, ascends}

-- an answer that isn't None has a value, and what is said of its value holds
pub from_some : {A : Type 0} (P : A → Type 0) (r : Option A) → is_none r ≡ false → IfSome r P → (x : A) × P x
from_some P None e h = let wrong : true ≡ false = e in absurd (cc)
from_some P (Some x) e h = (x, h)

-- where an answer is None, what is said of that case holds
pub from_none : {A : Type 0} (P : Type 0) (r : Option A) → is_none r ≡ true → IfNone r P → P
from_none P None e h = h
from_none P (Some x) e h = absurd (cc)

-- a text whose parts were seen out of order can't be read, for Order
pub finish : (seen : Option Seen) (text : List ℕ) (parts : List (Part × ℕ)) → AreParts text parts → HasSeen seen parts
    → IfErr (ok_or seen Order) (λ fault. Unread fault text)
finish None text parts are out = (parts, are, λ up. out [] (ap ascends (append-nil (names parts)) ∙ up))
finish (Some seen) text parts are out = tt
