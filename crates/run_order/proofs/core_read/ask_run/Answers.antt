use Rattle.std.proofs.Common.{sym, ap, ◌∙◌}
use Rattle.svsm_calls.specs.CoreRun.{is_run_answer}
use Rattle.run_order.proofs.ReadLemmas.{run_right}
use Rattle.run_order.proofs.core_read.ask_run.Goals as goal

pub returns-then-is_run_answer : goal.returns-then-is_run_answer
returns-then-is_run_answer c = run_right c.args.lines.now c.args.due c.args.now.now c.args.number c.if-not-due.false
    (ap is_run_answer (sym c.run_answer-got.ensures) ∙ (sym c.is_run_answer.ensures ∙ c.if-is_run_answer.true))
