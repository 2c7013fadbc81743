use Rattle.pool_split.proofs.SmallLemmas.{rest_next}
use Rattle.pool_split.proofs.small.SmallBlocks.to_vec.Goals as goal

pub rest-preserved : goal.rest-preserved
rest-preserved c = rest_next c.self.inside.split c.rest.k c.rest.pages.items c.push.new.self.items c.rest.invariant c.in_ok-push.ensures.items
