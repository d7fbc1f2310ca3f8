-- The bytes of the messages that a service is tried with.
use Rattle.std.specs.Prelude.{ℕ, zero, suc, ◌/◌, ◌%◌, List, [], ◌++◌, length, take, drop, codes}
use Rattle.std.specs.Int.{div_ceil}
use Rattle.adapt_bytes.specs.Numeral.{numeral}
use Rattle.trace_core.specs.declared.history.Point.{Point}
use Rattle.trace_core.specs.declared.history.Point.TheVariants.{Reqmod, Respmod}
use Rattle.service_probe.specs.declared.samples.Sample.{Sample}
use Rattle.service_probe.specs.declared.samples.Sample.TheVariants.{NoBody, Chunked, Eicar}

-- the user's request to which the messages of RESPMOD are answers
abbrev pub request : List ℕ
request = codes "GET http://probe.test/sample.txt HTTP/1.1\r\nHost: probe.test\r\n\r\n"

-- the head of a message with a body, up to the fields that say how long the body is
abbrev pub head_of : Point → List ℕ
head_of Reqmod = codes "POST http://probe.test/sample.txt HTTP/1.1\r\nHost: probe.test\r\nContent-Type: text/plain\r\n"
head_of Respmod = codes "HTTP/1.1 200 OK\r\nContent-Type: text/plain\r\n"

-- the line that fills bodies
abbrev pub line : List ℕ
line = codes "A message by which adaptproxy tries a service, 0123456789.\r\n"

-- so many lines
abbrev pub lines : ℕ → List ℕ
lines zero = []
lines (suc n) = line ++ lines n

-- a body of so many bytes: whole lines, and the beginning of one more
abbrev pub filled : ℕ → List ℕ
filled size = lines (size / 60) ++ take (size % 60) line

-- the test text of EICAR
abbrev pub virus : List ℕ
virus = codes "X5O!P%@AP[4\\PZX54(P^)7CC)7}$EICAR" ++ codes "-STANDARD-ANTIVIRUS-TEST-FILE!$H+H*"

abbrev pub body_of : Sample → ℕ → List ℕ
body_of Eicar size = virus
body_of _ size = filled size

-- a chunk (RFC 9112, section 7.1)
abbrev pub chunk : List ℕ → List ℕ
chunk bytes = numeral 16 (length bytes) ++ (codes "\r\n" ++ (bytes ++ codes "\r\n"))

-- so many chunks, each of 4,096 bytes where there are so many
abbrev pub chunks_of : ℕ → List ℕ → List ℕ
chunks_of zero body = []
chunks_of (suc n) body = chunk (take 4096 body) ++ chunks_of n (drop 4096 body)

-- a body with the fields before it: of a length that is said, or in chunks
abbrev pub with_length : List ℕ → List ℕ
with_length body = codes "Content-Length: " ++ (numeral 10 (length body) ++ (codes "\r\n\r\n" ++ body))

abbrev pub in_chunks : List ℕ → List ℕ
in_chunks body = codes "Transfer-Encoding: chunked\r\n\r\n" ++ (chunks_of (div_ceil (length body) 4096) body ++ codes "0\r\n\r\n")

abbrev pub framed : Sample → List ℕ → List ℕ
framed Chunked body = in_chunks body
framed _ body = with_length body

-- the message with a sample's body, as it comes from the user at REQMOD and from the origin at RESPMOD
abbrev pub message_text : Point → Sample → ℕ → List ℕ
message_text Reqmod NoBody size = request
message_text point sample size = head_of point ++ framed sample (body_of sample size)
