-- The field, the chunks and the last chunk are added one after the other.
use Rattle.std.proofs.Common.{◌≡◌, ◌++◌, length, codes, ap, ◌∙◌, rules}
use Rattle.std.specs.Int.{div_ceil}
use Rattle.service_probe.specs.Messages.{chunks_of}
use Rattle.service_probe.proofs.Texts.{three}
use Rattle.service_probe.proofs.message.put_in_chunks.Goals as goal

pub returns : goal.returns
returns c =
    let body = c.args.body.now in
    let count : c.div_ceil.result ≡ div_ceil (length body) 4096 = search rules in
    three c.extend_from_slice-2.result c.args.text.now.items c.extend_from_slice.new.self.items c.put_chunks.new.text.items
    c.extend_from_slice-2.new.self.items
    (codes "Transfer-Encoding: chunked\r\n\r\n")
    (chunks_of (div_ceil (length body) 4096) body)
    (codes "0\r\n\r\n")
    c.in_ok-extend_from_slice.ensures.items
    (c.in_ok-put_chunks.ensures ∙ ap (λ n. c.extend_from_slice.new.self.items ++ chunks_of n body) count)
    c.extend_from_slice-2.ensures.items
