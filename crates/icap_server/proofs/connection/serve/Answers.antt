-- At the end, at a close, or where the reader fails, what was read is answered; where memory ran out, a prefix of it.
use Rattle.std.proofs.Common.{take, sym, ap, ◌∙◌}
use Rattle.icap_services.specs.Texts.{shown}
use Rattle.icap_server.proofs.Connections.{goes_on, read, read_kept, front_kept, ends_at, closes}
use Rattle.icap_server.proofs.connection.serve.Goals as goal

pub returns-in_default-clause-read : goal.returns-in_default-clause-read
returns-in_default-clause-read g c = λ is. read_kept (shown c.args.settings) (g.R.Read.remaining c.args.reader.now)
    (g.R.Read.remaining c.loop.reader) (g.R.Read.remaining c.read_piece.new.reader) (g.W.Write.contents c.args.writer.now)
    (g.W.Write.contents c.loop.writer)
    c.loop.side c.loop.invariant c.in_default.ensures.none

pub returns-clause-read : goal.returns-clause-read
returns-clause-read g c = λ is. read (shown c.args.settings) (g.R.Read.remaining c.args.reader.now) (g.R.Read.remaining c.loop.reader)
    (g.W.Write.contents c.args.writer.now) (g.W.Write.contents c.loop.writer) c.loop.side c.loop.invariant

pub returns-then-n-eq0-clause-all : goal.returns-then-n-eq0-clause-all
returns-then-n-eq0-clause-all g c = ends_at (shown c.args.settings) (g.R.Read.remaining c.args.reader.now)
    (g.R.Read.remaining c.loop.reader) (g.R.Read.remaining c.read_piece.new.reader) (g.W.Write.contents c.args.writer.now)
    (g.W.Write.contents c.loop.writer) c.loop.side
    c.in-Ok.n c.read_piece.new.buffer c.loop.invariant c.if-n-eq0.true c.in-Ok.ensures.bytes (c.in-Ok.ensures.end c.if-n-eq0.true)

pub returns-in-Err-clause-front : goal.returns-in-Err-clause-front
returns-in-Err-clause-front g c = λ other. front_kept (shown c.args.settings) (g.R.Read.remaining c.args.reader.now)
    (g.R.Read.remaining c.loop.reader) (g.W.Write.contents c.args.writer.now) (g.W.Write.contents c.loop.writer)
    (g.W.Write.contents c.answer_piece.new.writer) c.loop.side
    c.loop.invariant (ap (λ w. g.W.Write.contents w) (c.in-Err.ensures.kept other))

pub returns-then-is_closed-clause-all : goal.returns-then-is_closed-clause-all
returns-then-is_closed-clause-all g c = closes (shown c.args.settings) (g.R.Read.remaining c.args.reader.now)
    (g.R.Read.remaining c.loop.reader) (g.R.Read.remaining c.read_piece.new.reader) (g.W.Write.contents c.args.writer.now)
    (g.W.Write.contents c.loop.writer) (g.W.Write.contents c.answer_piece.new.writer)
    c.loop.side c.answer_piece.new.side (take c.in-Ok.n c.read_piece.new.buffer) c.loop.invariant c.in-Ok.ensures.bytes
    c.in_default-answer_piece.ensures.written (sym c.is_closed.ensures ∙ c.if-is_closed.true) c.answer_piece.ensures.settings

pub loop-preserved : goal.loop-preserved
loop-preserved g c = goes_on (shown c.args.settings) (g.R.Read.remaining c.args.reader.now) (g.R.Read.remaining c.loop.reader)
    (g.R.Read.remaining c.read_piece.new.reader) (g.W.Write.contents c.args.writer.now) (g.W.Write.contents c.loop.writer)
    (g.W.Write.contents c.answer_piece.new.writer)
    c.loop.side c.answer_piece.new.side (take c.in-Ok.n c.read_piece.new.buffer) c.loop.invariant c.in-Ok.ensures.bytes
    c.in_default-answer_piece.ensures.written (sym c.is_closed.ensures ∙ c.if-is_closed.false) c.answer_piece.ensures.settings
