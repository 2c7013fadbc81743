use Rattle.std.proofs.Common.{◌≡◌, ◌++◌, List, take, drop, reverse}
use Rattle.std.specs.Prelude.{map}
use Rattle.svsm_steps.specs.declared.entry.Entry.{Entry}
use Rattle.history_core.specs.Turned.{contents}
use Rattle.history_core.proofs.behind.turn.Given as goal

abbrev pub invariant-logs : goal.invariant-logs
invariant-logs l =
    contents l.logs ≡ map (λ (entries : List Entry). reverse entries) (take l.log-index (contents l.initial.logs)) ++ drop l.log-index (contents l.initial.logs)
