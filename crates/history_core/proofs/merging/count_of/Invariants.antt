use Rattle.std.proofs.Common.{◌≡◌, ◌-◌, ◌^◌, length, take, min}
use Rattle.history_core.specs.Merged.{entries_in}
use Rattle.history_core.proofs.merging.count_of.Given as goal

abbrev pub invariant-logs : goal.invariant-logs
invariant-logs l = l.count ≡ min (length (entries_in (take l.log-index l.logs))) (2 ^ 64 - 1)
