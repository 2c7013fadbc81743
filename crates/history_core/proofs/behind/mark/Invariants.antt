use Rattle.std.proofs.Common.{◌≡◌, take}
use Rattle.history_core.specs.Marked.{marked}
use Rattle.history_core.proofs.behind.mark.Given as goal

abbrev pub invariant-entries : goal.invariant-entries
invariant-entries l = l.order ≡ marked (take l.entry-index l.log) l.fn.order
