use Rattle.owner_map.proofs.FillLemmas.{fill_one_more}
use Rattle.owner_map.proofs.fill.own_all.Goals as goal

pub all-preserved : goal.all-preserved
all-preserved c = fill_one_more c.args.owner c.args.all.now c.all.all c.all.one-index c.all.auto.all c.all-test.true c.all.invariant
