-- A prefix of a reply's head, which is judged once a line has ended.
use Rattle.std.specs.Prelude.{◌≡◌, ℕ, ◌<◌, ◌⊎◌, false, List, length, take, drop}
use Rattle.adapt_bytes.specs.declared.limits.TheConstants.{MAX_HEAD}
use Rattle.adapt_bytes.specs.Text.{has_line}
use Rattle.icap_head.specs.Heads.{RefusesResponse}
use Rattle.icap_head.specs.declared.reading.HeadFault.TheVariants.{More}
use Rattle.icap_client.specs.Hearing.{MustWait}
use Rattle.icap_client.specs.declared.stage.Stage.{Stage}
use Rattle.icap_client.specs.declared.stage.Stage.TheVariants.{Replies, Head, Body, Over}

-- bytes that aren't framed yet, how many of them were judged, and the room after them
pub record Store : Type 0 where
  pub bytes : List ℕ
  pub judged : ℕ
  pub room : ℕ

-- this many were judged to be a prefix of an ICAP head, or no byte was judged
abbrev pub IsJudged : ℕ → List ℕ → Type 0
IsJudged judged bytes = (judged ≡ 0) ⊎ RefusesResponse More (take judged bytes)

-- a prefix of a head: no line has ended after what was judged to be one, and there is room for more
pub record IsHeadFront (bytes : List ℕ) : Type 0 where
  pub judged : ℕ
  pub more : IsJudged judged bytes
  pub no_line : has_line (drop judged bytes) ≡ false
  pub short : length bytes < MAX_HEAD

-- a side has to wait for more bytes, with room for this many adapted ones
abbrev pub HasToWait : Stage → List ℕ → ℕ → Type 0
HasToWait Replies raw room = IsHeadFront raw
HasToWait (Head layout) raw room = MustWait (Head layout) raw room
HasToWait (Body chunks) raw room = MustWait (Body chunks) raw room
HasToWait Over raw room = MustWait Over raw room
