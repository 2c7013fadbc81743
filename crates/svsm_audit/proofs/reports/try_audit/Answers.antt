use Rattle.svsm_audit.proofs.AuditLemmas.{audited, failed_by}
use Rattle.svsm_audit.proofs.reports.try_audit.Goals as goal

pub returns-in-Ok : goal.returns-in-Ok
returns-in-Ok c =
    audited c.args.image.now c.args.scripts.now c.args.report.now c.requires.image c.in_ok-try_boot.ensures.boots c.in-Ok.ensures.checks

pub returns-in-Err : goal.returns-in-Err
returns-in-Err c =
    failed_by c.args.image.now c.args.scripts.now c.args.report.now c.in-Err.error c.audit_error.result c.audit_error.ensures
    c.in_ok-try_boot.ensures.boots c.in-Err.ensures.checks
