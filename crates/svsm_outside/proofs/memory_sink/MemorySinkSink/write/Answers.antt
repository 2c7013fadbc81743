use Rattle.std.proofs.Common.{arith, refl, inl, inr}
use Rattle.std.proofs.lemmas.Grind.{common_steps}
use Rattle.svsm_outside.proofs.memory_sink.MemorySinkSink.write.Goals.{then-count-eq0-via-then-count-eq0, then-count-eq0-via-else-count-eq0+then-contains}
use Rattle.svsm_outside.proofs.memory_sink.MemorySinkSink.write.Goals as goal

pub returns-then-count-eq0-clause-fails : goal.returns-then-count-eq0-clause-fails
returns-then-count-eq0-clause-fails c = elim c.then-count-eq0.branch [
  | then-count-eq0-via-then-count-eq0 w ↦ (λ _. inr (grind (arith, common_steps)), λ _. refl)
  | then-count-eq0-via-else-count-eq0+then-contains w ↦ (λ _. inl (grind (arith, common_steps)), λ _. refl)
]
