-- The proxy's own error responses.
use Rattle.std.specs.Prelude.{ℕ, Bool, List, ◌++◌, codes, if◌then◌else◌, ◌==◌, ◌||◌}

-- the statuses that they have (RFC 9110, sections 15.5 and 15.6)
abbrev pub is_own_status : ℕ → Bool
is_own_status status = (status == 400) || ((status == 501) || ((status == 502) || ((status == 503) || (status == 504))))

-- the status and its phrase
abbrev pub status_text : ℕ → List ℕ
status_text s =
    if s == 400 then codes "400 Bad Request" else (if s == 501 then codes "501 Not Implemented" else
    (if s == 502 then codes "502 Bad Gateway"
    else (if s == 503 then codes "503 Service Unavailable" else codes "504 Gateway Timeout")))

abbrev pub refusal : ℕ → List ℕ
refusal s = codes "HTTP/1.1 " ++ status_text s ++ codes "\r\nContent-Length: 0\r\nConnection: close\r\n\r\n"
