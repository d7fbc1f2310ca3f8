-- The start line's fault stands; where that line is sound, the given fault does; or memory is wanting.
use Rattle.std.proofs.Common.{inl, inr}
use Rattle.icap_server.proofs.opening.first_fault.Goals as goal

pub returns-in-Ok : goal.returns-in-Ok
returns-in-Ok c = elim c.requires [
  | inl stands ↦ inr stands
  | inr (line, behind, first, may, inl memory) ↦ inl memory.0
  | inr (line, behind, first, may, inr bad) ↦ inr (inr (line, behind, first, inr (c.in-Ok.ensures.ok line behind first, bad)))
]

pub returns-in-Err : goal.returns-in-Err
returns-in-Err c = elim c.in-Err.ensures.err [
  | inl memory ↦ inl memory.0
  | inr (line, behind, first, bad) ↦ inr (inr (line, behind, first, inl bad))
]
