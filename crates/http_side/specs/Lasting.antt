-- Which responses let their connection last (RFC 9112, sections 6.3 and 9.3).
use Rattle.std.specs.Prelude.{Bool, not, ◌&&◌, ◌==◌, codes}
use Rattle.http_side.specs.Heads.{ResponseParts, both_lengths}
use Rattle.http_side.specs.Forward.{is_named_by}

-- of HTTP/1.1, no Connection names `close`, and Content-Length doesn't stand beside Transfer-Encoding
abbrev pub lets_last : ResponseParts → Bool
lets_last r = (r.minor == 1) && (not (is_named_by r.fields (codes "close")) && not (both_lengths r.fields))
