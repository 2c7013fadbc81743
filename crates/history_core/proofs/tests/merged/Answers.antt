use Rattle.history_core.specs.Small.{small}
use Rattle.history_core.proofs.OnceLemmas.{whole_once}
use Rattle.history_core.proofs.tests.merged.Goals as goal

pub merge-requires : goal.merge-requires
merge-requires c = whole_once 0 small c.in_ok-logs.logs.items c.in_ok-logs.ensures
