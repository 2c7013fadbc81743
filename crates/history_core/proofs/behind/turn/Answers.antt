use Rattle.history_core.proofs.PourLemmas.{turned_more}
use Rattle.history_core.proofs.behind.turn.Goals as goal

pub logs-preserved : goal.logs-preserved
logs-preserved c =
    turned_more c.args.logs.now c.logs.logs c.logs.log-index c.log-item.result c.reverse.new.self c.logs-test.true c.logs.auto.logs
    c.reverse.ensures.items c.logs.invariant
