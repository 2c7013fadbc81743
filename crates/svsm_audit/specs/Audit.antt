-- The audit of a report: when it is that of a run, and else the first reason why it is not.
use Rattle.std.specs.Prelude.{⊤, ℕ, List, Result, Ok, Err}
use Rattle.svsm_types.specs.declared.image.Image.{Image}
use Rattle.svsm_types.specs.declared.request.Request.{Request}
use Rattle.svsm_steps.specs.Image.{constants_of, booted}
use Rattle.svsm_steps.specs.Safe.{AlwaysSafe}
use Rattle.boot_core.specs.declared.error.BootError.{BootError}
use Rattle.boot_core.specs.declared.error.BootError.TheVariants as refusals
use Rattle.boot_core.specs.Boots.{Boots}
use Rattle.report_check.specs.declared.error.CheckError.{CheckError}
use Rattle.report_check.specs.declared.error.CheckError.TheVariants as checks
use Rattle.report_check.specs.Check.{IsRunText, Checks}
use Rattle.svsm_audit.specs.declared.error.AuditError.{AuditError}
use Rattle.svsm_audit.specs.declared.error.AuditError.TheVariants as errors

-- The report of a run: the image boots, and the report is the text of a run of it.
pub record IsReportOf (image : Image) (scripts : List (List Request)) (report : List ℕ) : Type 0 where
  pub boots : Boots image
  pub text : IsRunText image scripts report

-- A report that is that of a run; and after every micro-operation of the run the guest reaches no page that the module owns.
pub record IsAudited (image : Image) (scripts : List (List Request)) (report : List ℕ) : Type 0 where
  pub is : IsReportOf image scripts report
  pub safe : AlwaysSafe (constants_of image) (booted image) is.text.entries

-- the image boots, and the check of the report fails so
pub record FailsCheck (image : Image) (scripts : List (List Request)) (report : List ℕ) (error : CheckError) : Type 0 where
  pub boots : Boots image
  pub fails : Checks image scripts report (Err error)

-- What an audit answers: whether the image boots is tried first, and then the report is checked. Want of memory is free.
abbrev pub Audits : Image → List (List Request) → List ℕ → Result (Unit {0}) AuditError → Type 0
Audits image scripts report (Ok _) = IsAudited image scripts report
Audits image scripts report (Err errors.Boot) = Boots image → ⊥
Audits image scripts report (Err (errors.Report line)) = FailsCheck image scripts report (checks.Report line)
Audits image scripts report (Err (errors.Play at)) = FailsCheck image scripts report (checks.Play at)
Audits image scripts report (Err (errors.Due at)) = FailsCheck image scripts report (checks.Due at)
Audits image scripts report (Err (errors.Order at)) = FailsCheck image scripts report (checks.Order at)
Audits image scripts report (Err (errors.Text at)) = FailsCheck image scripts report (checks.Text at)
Audits image scripts report (Err errors.NoMemory) = ⊤

-- the answer of an audit, by that of the check
abbrev pub audit_error : CheckError → AuditError
audit_error (checks.Report line) = errors.Report line
audit_error (checks.Play at) = errors.Play at
audit_error (checks.Due at) = errors.Due at
audit_error (checks.Order at) = errors.Order at
audit_error (checks.Text at) = errors.Text at
audit_error checks.NoMemory = errors.NoMemory

-- the same by the error of the boot: it refuses the image unless it wanted memory
abbrev pub boot_error : BootError → AuditError
boot_error refusals.NoMemory = errors.NoMemory
boot_error _ = errors.Boot
