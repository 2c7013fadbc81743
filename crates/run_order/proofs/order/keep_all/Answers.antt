use Rattle.std.proofs.Common.{◌∙◌}
use Rattle.run_order.proofs.RowLemmas.{keep_more}
use Rattle.run_order.proofs.order.keep_all.Goals as goal

pub loop-entry-preserved : goal.loop-entry-preserved
loop-entry-preserved c = record {
  cores = c.in_ok-keep_rows.ensures.cores ∙ c.loop-entry.invariant.cores;
  rows = keep_more c.args.registry.now.cores c.loop-entry.registry.cores c.args.registry.now.rows c.loop-entry.registry.rows c.keep_rows.new.registry.rows c.args.entries.now
      c.loop-entry.entry-index _ c.loop-entry-test.true c.loop-entry.invariant.cores c.loop-entry.invariant.rows c.in_ok-keep_rows.ensures.rows;
}
