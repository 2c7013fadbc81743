use Rattle.svsm_audit.proofs.AuditLemmas.{one_audit}
use Rattle.svsm_audit.proofs.reports.audit.Goals as goal

pub returns-clause-only : goal.returns-clause-only
returns-clause-only c = λ other. one_audit c.args.image.now c.args.scripts.now c.args.report.now c.try_audit.result other c.try_audit.ensures
