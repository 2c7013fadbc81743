use Rattle.std.proofs.Common.{◌≡◌}
use Rattle.std.specs.Prelude.{map}
use Rattle.std.specs.List.{range_with_len}
use Rattle.run_order.specs.Behind.{unstarted}
use Rattle.run_order.proofs.order.unstarted.Given as goal

abbrev pub invariant-loop-core : goal.invariant-loop-core
invariant-loop-core l = l.runs.items ≡ map unstarted (range_with_len 0 l.core)
