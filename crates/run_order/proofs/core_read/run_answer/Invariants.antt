use Rattle.std.proofs.Common.{◌≡◌, drop}
use Rattle.svsm_calls.specs.World.{run_answer}
use Rattle.run_order.proofs.core_read.run_answer.Given as goal

abbrev pub invariant-loop-line : goal.invariant-loop-line
invariant-loop-line l = run_answer l.lines l.of l.next ≡ run_answer (drop l.line-index l.lines) l.of l.next
