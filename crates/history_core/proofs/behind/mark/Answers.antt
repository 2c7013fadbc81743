use Rattle.history_core.proofs.BehindLemmas.{entry_marked}
use Rattle.history_core.proofs.behind.mark.Goals as goal

pub entries-preserved : goal.entries-preserved
entries-preserved c = entry_marked c.entries.entry-index c.args.log.now c.args.order.now c.entries.order _ c.entries.invariant c.entries-test.true
