-- What a service said is kept in the book of its own point, and the other point's book stays.
use Rattle.std.proofs.lemmas.Result.{IfOk-weaker}
use Rattle.shard_desk.proofs.Keeping.{keeps_request, keeps_response}
use Rattle.shard_desk.proofs.outside.services.DeskServicesSpot.keep.Goals as goal

pub returns-in-Reqmod : goal.returns-in-Reqmod
returns-in-Reqmod g c = IfOk-weaker c.keep_record.result _ _ (λ _ keeps. (keeps.0, keeps.1, keeps_request c.in-Reqmod.is keeps.2))
    c.keep_record.ensures.keeps

pub returns-in-Respmod : goal.returns-in-Respmod
returns-in-Respmod g c = IfOk-weaker c.keep_record-in-Respmod.result _ _
    (λ _ keeps. (keeps.0, keeps.1, keeps_response c.in-Respmod.is keeps.2)) c.keep_record-in-Respmod.ensures.keeps
