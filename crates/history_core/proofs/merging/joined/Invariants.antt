use Rattle.std.proofs.Common.{◌≡◌}
use Rattle.history_core.specs.Merged.{entries_in}
use Rattle.history_core.proofs.merging.joined.Given as goal

abbrev pub invariant-logs : goal.invariant-logs
invariant-logs l = l.all.items ≡ entries_in l.yielded
