use Rattle.std.proofs.Common.{◌≡◌, take}
use Rattle.run_order.specs.Registered.{rows_over}
use Rattle.run_order.proofs.order.keep_all.Given as goal

abbrev pub invariant-loop-entry : goal.invariant-loop-entry
invariant-loop-entry l = record {
  cores : l.registry.cores ≡ l.fn.registry.cores;
  rows : l.registry.rows ≡ rows_over l.fn.registry.cores l.fn.registry.rows (take l.entry-index l.entries);
}
