-- After a Retry nothing is sent or heard yet, no preview is answered, and all of the heads' text waits again.
use Rattle.std.proofs.Common.{◌∙◌, ap, sym}
use Rattle.chunk_writer.specs.Writer.{fresh}
use Rattle.icap_client.specs.OthersSent.{begins_again}
use Rattle.icap_client.specs.OthersHeard.{hears_again}
use Rattle.icap_client.proofs.Marked.{none_answered}
use Rattle.icap_client.proofs.contract.ServiceSideService.restart.Goals as goal

pub returns-clause-sent : goal.returns-clause-sent
returns-clause-sent c = λ x heads came taken adapted read o a l h s. record {
  sent = begins_again x came c.restart.new.self.writer heads (c.restart.ensures.writer ∙ ap fresh (h.kept (o, a)));
  kept = λ m. cc;
  last_stop = c.restart.ensures.marks.0;
}

pub returns-clause-heard : goal.returns-clause-heard
returns-clause-heard c = λ x heads came taken adapted read o a l h s.
    let replies = c.args.self.now.replies in
    record {
      heard = hears_again x adapted read replies c.restart.new.self.replies replies.reader.point
          c.restart.ensures.reader c.restart.ensures.raw a.3 s.heard;
      answered = c.restart.ensures.marks.1 ∙ sym (none_answered x adapted read replies a.3 s.heard);
    }
