-- What an exchange that waits rests on.
use Rattle.std.specs.Prelude.{ℕ}
use Rattle.exchange_core.specs.declared.due.Due.{Due}
use Rattle.exchange_core.specs.declared.due.Due.TheVariants.{ReadRequest, Await, Hear, Tell, Turn, ReadResponse, Refuse, TryRefusal, Linger}

-- What was tried in one step, each thing where it is due, and came to nothing now.
pub record Tried : Type 1 where
  -- a turn at the head of the user's request
  pub request : Type 0
  -- one at the head of the origin's response
  pub response : Type 0
  -- one at asking a service for its options
  pub options : Type 0
  -- to have a connection of the service once it is the message's turn
  pub queue : Type 0
  -- to tell the user to send its body
  pub interim : Type 0
  -- to write what is left of the refusal of this status
  pub refusal : ℕ → Type 0
  -- a round of turns, one of each side
  pub turns : Type 0
  -- to read what the user still sends, and drop it
  pub rest : Type 0

-- Who waits has tried what is due; nobody waits for anything else.
abbrev pub RestsOn : Tried → Due → Type 0
RestsOn tried ReadRequest = tried.request
RestsOn tried ReadResponse = tried.response
RestsOn tried Hear = tried.options
RestsOn tried Await = tried.queue
RestsOn tried Tell = tried.interim
RestsOn tried (Refuse status) = tried.refusal status
RestsOn tried (TryRefusal status) = tried.refusal status
RestsOn tried Turn = tried.turns
RestsOn tried Linger = tried.rest
RestsOn tried _ = ⊥
