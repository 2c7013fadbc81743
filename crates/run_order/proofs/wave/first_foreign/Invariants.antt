use Rattle.std.proofs.Common.{◌-◌}
use Rattle.run_order.specs.Wave.{EachIsOwn}
use Rattle.run_order.proofs.wave.first_foreign.Given as goal

abbrev pub invariant-seek : goal.invariant-seek
invariant-seek l = EachIsOwn l.members l.entries l.at

abbrev pub decreases-seek : goal.decreases-seek
decreases-seek l = l.end - l.at
