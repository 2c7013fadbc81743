use Rattle.std.proofs.Common.{◌≡◌, length}
use Rattle.run_order.specs.Wave.{AreEntered}
use Rattle.run_order.proofs.wave.enter_all.Given as goal

abbrev pub invariant-loop-core : goal.invariant-loop-core
invariant-loop-core l = record {
  count : length l.callers.items ≡ l.core-index;
  entered : AreEntered l.image l.cores l.entries l.callers.items;
}
