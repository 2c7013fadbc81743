use Rattle.std.proofs.Common.{sym, arith}
use Rattle.std.proofs.lemmas.List.FromFn.{map-range_with_len_more}
use Rattle.run_order.specs.Behind.{unstarted}
use Rattle.run_order.proofs.order.unstarted.Goals as goal

pub loop-core-preserved : goal.loop-core-preserved
loop-core-preserved c = rw (c.in_ok-push.ensures.items, c.loop-core.invariant, c.new-outcomes.ensures) (sym (map-range_with_len_more unstarted 0 c.loop-core.core c.loop-core.core (omega arith)))
