use Rattle.report_check.proofs.OneAnswer.{one_answer, told_yes}
use Rattle.report_check.proofs.check.check_report.Goals as goal

pub returns-clause-yes : goal.returns-clause-yes
returns-clause-yes c = told_yes c.args.image.now c.args.scripts.now c.args.report.now c.try_report.result c.try_report.ensures

pub returns-clause-only : goal.returns-clause-only
returns-clause-only c = λ other. one_answer c.args.image.now c.args.scripts.now c.args.report.now c.try_report.result other c.try_report.ensures
