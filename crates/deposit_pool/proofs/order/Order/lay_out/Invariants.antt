use Rattle.std.proofs.Common.{take}
use Rattle.deposit_pool.specs.Runs.{sizes_in}
use Rattle.deposit_pool.proofs.LayLemmas.{IsLaid}
use Rattle.deposit_pool.proofs.order.Order.lay_out.Given as goal

abbrev pub invariant-runs : goal.invariant-runs
invariant-runs l = IsLaid l.small l.large (sizes_in (take l.run-index l.run-items)) l.done.small l.done.large l.blocks.items
