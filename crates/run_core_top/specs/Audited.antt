-- What an audit answers, and how it is told.
use Rattle.std.specs.Prelude.{◌≡◌, ◌≢◌, ◌⊎◌, ◌<◌, ◌≤◌, ℕ, false, List, [], ◌∷◌, length, Option, Result, Ok, Err, IfSome, codes}
use Rattle.svsm_types.specs.declared.image.Image.{Image}
use Rattle.svsm_types.specs.declared.request.Request.{Request}
use Rattle.svsm_steps.specs.declared.entry.Entry.{Entry}
use Rattle.svsm_text.specs.Numbers.{number}
use Rattle.report.specs.Text.{line}
use Rattle.svsm_outside.specs.Views.{ShelfView}
use Rattle.svsm_outside.specs.Outside.{FailedAt}
use Rattle.command_words.specs.Words.{Audit, Run}
use Rattle.svsm_audit.specs.declared.error.AuditError.{AuditError}
use Rattle.svsm_audit.specs.declared.error.AuditError.TheVariants as errors
use Rattle.svsm_audit.specs.Audit.{Audits}
use Rattle.run_core_top.specs.declared.stop.Stop.{Stop}
use Rattle.run_core_top.specs.declared.stop.Stop.TheVariants as stops
use Rattle.run_core_top.specs.Files.{Agrees, AreFiles}
use Rattle.run_core_top.specs.Task.{audited_files}

-- longer reports are refused
abbrev pub report_limit : ℕ
report_limit = 1073741824

-- the file has this report
pub record IsReportFile (told : Option (List ℕ)) (report : List ℕ) : Type 0 where
  pub agrees : Agrees told report
  pub fits : length report ≤ report_limit

-- the word of a reason, and the number that it keeps; want of memory is none
abbrev pub reason_fields : AuditError → List (List ℕ)
reason_fields errors.Boot = codes "boot" ∷ number 0 ∷ []
reason_fields (errors.Report at) = codes "report" ∷ number at ∷ []
reason_fields (errors.Play at) = codes "play" ∷ number at ∷ []
reason_fields (errors.Due at) = codes "due" ∷ number at ∷ []
reason_fields (errors.Order at) = codes "order" ∷ number at ∷ []
reason_fields (errors.Text at) = codes "text" ∷ number at ∷ []
reason_fields errors.NoMemory = codes "memory" ∷ number 0 ∷ []

-- the fields of the line that tells an answer
abbrev pub answer_fields : Result (Unit {0}) AuditError → List (List ℕ)
answer_fields (Ok _) = codes "yes" ∷ []
answer_fields (Err reason) = codes "no" ∷ reason_fields reason

-- the line that tells an answer
abbrev pub answer_line : Result (Unit {0}) AuditError → List ℕ
answer_line answer = line (codes "svsm_audit:" ∷ answer_fields answer)

-- 0 is yes, 1 is no
abbrev pub answer_status : Result (Unit {0}) AuditError → ℕ
answer_status (Ok _) = 0
answer_status (Err reason) = 1

-- the files of a run and the report in its file, what its audit answers, which no other answer could be, and how that is told. No run
-- is made
pub record IsAuditTold (told : List ℕ → Option (List ℕ)) (command : Audit) (trace : List Entry) (text : List ℕ) (status : ℕ) : Type 0 where
  pub image : Image
  pub scripts : List (List Request)
  pub report : List ℕ
  pub files : AreFiles told (audited_files command) image scripts
  pub report_file : IsReportFile (told command.report) report
  pub answer : Result (Unit {0}) AuditError
  pub audits : Audits image scripts report answer
  pub only : (other : Result (Unit {0}) AuditError) → Audits image scripts report other
      → (answer ≡ other) ⊎ ((answer ≡ Err errors.NoMemory) ⊎ (other ≡ Err errors.NoMemory))
  pub is_told : answer ≢ Err errors.NoMemory
  pub text_is : text ≡ answer_line answer
  pub status_is : status ≡ answer_status answer
  pub no_trace : trace ≡ []

-- why a report was not read, which is the file with this number
abbrev pub ReportCause : ℕ → ShelfView → ShelfView → List ℕ → Stop → Type 0
ReportCause number before now name stops.Memory = Unit {0}
ReportCause number before now name stops.Report = (now.faults ≡ before.faults) × IfSome (before.told name) (λ bytes. report_limit < length bytes)
ReportCause number before now name (stops.Read file) = (file ≡ number) × FailedAt name before now
ReportCause number before now name _ = ⊥
