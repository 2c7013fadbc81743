use Rattle.std.proofs.Common.{refl}
use Rattle.run_order.proofs.FindLemmas.{reads_step, not_step}
use Rattle.run_order.proofs.reader.CoreEntries.read.Goals as goal

pub returns-then-not-same_step : goal.returns-then-not-same_step
returns-then-not-same_step c = (
  refl,
  (
    c.in-Some.ensures.next.0,
    c.in-Some.ensures.next.1,
    not_step _ _ _ _ _ _ _ c.same_step.result c.in-Some.ensures.next.1 c.same_step.ensures c.if-not-same_step.true,
  ),
)

pub returns : goal.returns
returns c = reads_step _ _ _ _ _ _ _ c.same_step.result c.in-Some.ensures.next.1 c.requires c.same_step.ensures c.if-not-same_step.false
