use Rattle.std.proofs.Common.{◌≡◌, take}
use Rattle.history_core.specs.Merged.{entries_in}
use Rattle.history_core.specs.Marked.{marked}
use Rattle.history_core.proofs.behind.mark_all.Given as goal

abbrev pub invariant-logs : goal.invariant-logs
invariant-logs l = l.order ≡ marked (entries_in (take l.log-index l.logs)) l.fn.order
