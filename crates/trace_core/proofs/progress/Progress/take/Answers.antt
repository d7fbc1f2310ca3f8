-- Each event makes of the fields what it makes of what they show.
use Rattle.std.proofs.Common.{inl, inr, refl}
use Rattle.trace_core.specs.declared.history.Payload.TheVariants.{Body, NullBody}
use Rattle.trace_core.specs.Faults.{is_early, is_all_sent}
use Rattle.trace_core.proofs.Taking.{renamed, no_fault_of, tested, of_payload, taken_in, taken_svc, taken_ad, taken_usr, taken_end}
use Rattle.trace_core.proofs.Taking.{taken_heard, taken_continue, taken_no_mod, taken_body, taken_null_body, taken_adapted_end}
use Rattle.trace_core.proofs.Taking.{taken_last_stop, taken_whole_stop, taken_first_stop, taken_done, taken_fail, taken_retry}
use Rattle.trace_core.proofs.progress.Progress.take.Goals as goal

pub returns-in-In : goal.returns-in-In
returns-in-In c = renamed c.self.view_is c.in-In.is (taken_in c.self.inside c.in-In.n)

pub returns-in-Svc : goal.returns-in-Svc
returns-in-Svc c = renamed c.self.view_is c.in-Svc.is (taken_svc c.self.inside c.in-Svc.n)

pub returns-in-Ad : goal.returns-in-Ad
returns-in-Ad c = renamed c.self.view_is c.in-Ad.is (taken_ad c.self.inside c.in-Ad.n)

pub returns-in-Usr : goal.returns-in-Usr
returns-in-Usr c = renamed c.self.view_is c.in-Usr.is (taken_usr c.self.inside c.in-Usr.n)

pub returns-in-End : goal.returns-in-End
returns-in-End c = renamed c.self.view_is c.in-End.is (taken_end c.self.inside c.phases-phases.result _ c.self.invariant
    c.phases-phases.ensures refl (no_fault_of c.self.view_is c.in-End.is c.requires))

pub returns-in-Heard : goal.returns-in-Heard
returns-in-Heard c = renamed c.self.view_is c.in-Heard.is (taken_heard c.self.inside c.phases-phases.result _ c.self.invariant
    c.phases-phases.ensures c.at_response-self-inside.ensures (no_fault_of c.self.view_is c.in-Heard.is c.requires))

pub returns-in-Continue : goal.returns-in-Continue
returns-in-Continue c = renamed c.self.view_is c.in-Continue.is (taken_continue c.self.inside c.phases-phases.result _ c.self.invariant
    c.phases-phases.ensures c.at_request-self-inside-in-Continue.ensures (no_fault_of c.self.view_is c.in-Continue.is c.requires))

pub returns-in-NoMod : goal.returns-in-NoMod
returns-in-NoMod c = renamed c.self.view_is c.in-NoMod.is (taken_no_mod c.self.inside c.phases-phases.result _ c.self.invariant
    c.phases-phases.ensures c.at_response-self-inside-in-NoMod.ensures (no_fault_of c.self.view_is c.in-NoMod.is c.requires))

pub returns-in-Mod-Body : goal.returns-in-Mod-Body
returns-in-Mod-Body c = let payload = rw c.in-Mod-Body.is at c.in-Mod-Body.field-0-is in let is =
    of_payload c.in-Mod-Body.field-0 Body c.in-Mod-Body.is payload in
    renamed c.self.view_is is (taken_body c.self.inside c.phases-phases.result _ c.self.invariant c.phases-phases.ensures
    c.at_response-self-inside-in-Mod-Body.ensures (no_fault_of c.self.view_is is c.requires))

pub returns-in-Mod-NullBody : goal.returns-in-Mod-NullBody
returns-in-Mod-NullBody c = let payload = rw c.in-Mod-NullBody.is at c.in-Mod-NullBody.field-0-is in let is =
    of_payload c.in-Mod-NullBody.field-0 NullBody c.in-Mod-NullBody.is payload in
    renamed c.self.view_is is (taken_null_body c.self.inside c.phases-phases.result _ c.self.invariant c.phases-phases.ensures
    c.at_response-self-inside-in-Mod-NullBody.ensures (no_fault_of c.self.view_is is c.requires))

pub returns-in-AdEnd : goal.returns-in-AdEnd
returns-in-AdEnd c = renamed c.self.view_is c.in-AdEnd.is (taken_adapted_end c.self.inside c.phases-phases.result _ c.self.invariant
    c.phases-phases.ensures c.at_response-self-inside-in-AdEnd.ensures (no_fault_of c.self.view_is c.in-AdEnd.is c.requires))

pub returns-in-Stop : goal.returns-in-Stop
returns-in-Stop c = renamed c.self.view_is c.in-Stop.is (taken_last_stop c.self.inside c.phases-phases.result _ c.self.invariant
    c.phases-phases.ensures c.at_request-self-inside.ensures (no_fault_of c.self.view_is c.in-Stop.is c.requires)
    (tested is_early c.self.view_is c.is_early.ensures c.if-not-is_early.true))

pub returns-in-Stop-2 : goal.returns-in-Stop-2
returns-in-Stop-2 c = renamed c.self.view_is c.in-Stop-2.is (taken_whole_stop c.self.inside c.phases-phases.result _ c.self.invariant
    c.phases-phases.ensures c.at_request-self-inside-in-Stop-2.ensures (no_fault_of c.self.view_is c.in-Stop-2.is c.requires)
    (tested is_early c.self.view_is c.is_early.ensures c.if-not-is_early.false)
    (tested is_all_sent c.self.view_is c.is_all_sent.ensures c.if-is_all_sent.true))

pub returns-in-Stop-3 : goal.returns-in-Stop-3
returns-in-Stop-3 c = renamed c.self.view_is c.in-Stop-3.is (taken_first_stop c.self.inside c.phases-phases.result _ c.self.invariant
    c.phases-phases.ensures c.at_request-self-inside-in-Stop-3.ensures (no_fault_of c.self.view_is c.in-Stop-3.is c.requires)
    (tested is_early c.self.view_is c.is_early.ensures c.if-not-is_early.false)
    (tested is_all_sent c.self.view_is c.is_all_sent.ensures c.if-is_all_sent.false))

pub returns-in-Done : goal.returns-in-Done
returns-in-Done c = elim c.in-Done.is [
  | inl done ↦ renamed c.self.view_is done (taken_done c.self.inside c.phases-phases.result c.phases-phases.ensures)
  | inr failed ↦ renamed c.self.view_is failed.1 (taken_fail c.self.inside c.phases-phases.result failed.0 c.phases-phases.ensures)
]

pub returns-in-Retry : goal.returns-in-Retry
returns-in-Retry c = renamed c.self.view_is c.in-Retry.is (taken_retry c.self.inside c.phases-phases.result c.self.invariant
    c.phases-phases.ensures (no_fault_of c.self.view_is c.in-Retry.is c.requires))
