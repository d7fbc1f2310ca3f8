-- A text that says the page of what is noted is a refusal of this status with this page.
use Rattle.std.proofs.lemmas.Option.{IfSome_then}
use Rattle.shard_desk.proofs.Paging.{says_page}
use Rattle.shard_desk.proofs.reporter.Reporter.refusal_with.Goals as goal

pub returns : goal.returns
returns c = IfSome_then c.refuse_with.result c.refuse_with.ensures.says (λ text says. says_page c.args.status c.args.page.now _ _ _ says)
