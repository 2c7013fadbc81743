use Rattle.std.proofs.Common.{◌≡◌, length}
use Rattle.run_order.specs.Behind.{put_all}
use Rattle.run_order.proofs.order.put_runs.Given as goal

abbrev pub invariant-runs : goal.invariant-runs
invariant-runs l = record {
  put : l.cores.items ≡ put_all l.initial.cores.items l.yielded;
  count : length l.cores.items ≡ length l.initial.cores.items;
}
