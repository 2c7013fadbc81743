use Rattle.std.proofs.Common.{drop}
use Rattle.run_order.proofs.CoreLemmas.{Stands}
use Rattle.run_order.proofs.core_read.read_core.Given as goal

abbrev pub invariant-loop-request : goal.invariant-loop-request
invariant-loop-request l = Stands l.source.core l.source.entries.now l.lines l.caller l.script (drop l.request-index l.script) l.request-index l.initial.at l.at l.now l.due l.number l.outcomes
