use Rattle.std.proofs.Common.{arith, inl, inr}
use Rattle.std.proofs.lemmas.Grind.{common_steps}
use Rattle.svsm_outside.proofs.memory_shelf.MemoryShelfShelf.load.Goals.{in_default-via-in-Some+else-not-contains, in_default-via-in_default}
use Rattle.svsm_outside.proofs.memory_shelf.MemoryShelfShelf.load.Goals as goal

pub returns-in_default-clause-fails : goal.returns-in_default-clause-fails
returns-in_default-clause-fails c = elim c.in_default.branch [
  | in_default-via-in-Some+else-not-contains w ↦ let found = w.if-not-contains.ensures.cases in inl (found.0, grind (arith, common_steps), grind (arith, common_steps))
  | in_default-via-in_default w ↦ inr (grind (arith, common_steps))
]
