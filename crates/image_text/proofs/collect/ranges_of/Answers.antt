use Rattle.image_text.proofs.CollectLemmas.{one_more}
use Rattle.image_text.proofs.collect.ranges_of.Goals as goal

pub loop-page-preserved : goal.loop-page-preserved
loop-page-preserved c =
    one_more c.args.ghcb.0 c.loop-page.page c.args.rows.now _ c.loop-page.ranges.items c.put_page.new.ranges.items _ c.loop-page-test.true c.loop-page.invariant.0 c.loop-page.invariant.1
    c.row_saying.ensures.says c.in_ok-put_page.ensures
