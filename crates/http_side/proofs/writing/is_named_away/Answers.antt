-- A field that Connection doesn't name is none that it names away.
use Rattle.std.proofs.Common.{◌≡◌, ◌&&◌, Bool, true, false, refl}
use Rattle.std.specs.Prelude.{not}
use Rattle.adapt_bytes.specs.Text.{is_among}
use Rattle.http_side.specs.Forward.{framing_names}
use Rattle.http_side.proofs.writing.is_named_away.Goals as goal

-- where the second is false, both aren't true
unnamed : (b n : Bool) → n ≡ false → n ≡ (b && n)
unnamed true n e = refl
unnamed false n e = e

pub returns-else-named : goal.returns-else-named
returns-else-named c = unnamed (not (is_among framing_names c.args.name.now)) c.args.named c.if-named.false
