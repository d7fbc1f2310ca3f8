-- What is read of a piece adds to the text and the body read before; an earlier fault or end stays.
use Rattle.std.proofs.Common.{refl}
use Rattle.icap_chunks.proofs.Feeding.{fed_read, fed_fault, fed_faulted, fed_over}
use Rattle.icap_chunks.proofs.reader.ChunkReader.feed.Goals as goal

pub returns : goal.returns
returns c =
    let e = c.read_piece.ensures in
    let old = c.args.self.now in
    let new = c.read_piece.new.self in
    let piece = c.args.piece.now in
    let r = c.read_piece.result in
    record {
      within = e.within;
      ended = e.ended;
      no_fault = e.no_fault;
      stops = e.stops;
      part_end = e.part_end;
      stays = e.fault;
      read = fed_read old new piece r e.within e.read e.part e.end_first;
      fault = fed_fault old new piece r e.fault e.fault_read e.fault_part;
      faulted = fed_faulted old new piece r _ refl e.read e.no_fault e.fault e.fault_read;
      over = fed_over old new piece r _ refl e.read e.ended e.end_first e.fault e.fault_read;
    }
