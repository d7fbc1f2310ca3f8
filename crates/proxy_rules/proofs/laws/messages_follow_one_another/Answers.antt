-- A connection gave no text at first, none changes by what it takes, and each message's text follows those before it.
use Rattle.proxy_rules.proofs.FollowLemmas.{gave_none, gave_meanwhile, gave_message}
use Rattle.proxy_rules.proofs.laws.messages_follow_one_another.Goals as goal

pub returns-clause-none : goal.returns-clause-none
returns-clause-none g c = λ wire. gave_none g.W.SourceWire.Wire wire

pub returns-clause-meanwhile : goal.returns-clause-meanwhile
returns-clause-meanwhile g c = λ first old new texts left more grown gave.
    gave_meanwhile g.W.SourceWire.Wire first old new texts left more grown gave

pub returns-clause-further : goal.returns-clause-further
returns-clause-further g c =
    let tx = c.args.running.now.tx in
    λ s first texts since gave.
    gave_message g.W.SourceWire.Wire g.W.ServiceWire.Wire g.W.NextWire.Wire s tx.ends tx.hold _ first
    texts
    (c.a_running_transaction_takes_one_message.ensures.took s since) gave
