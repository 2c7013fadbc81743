-- What an audit answers, by the boot and the check.
use Rattle.std.proofs.Common.{◌≡◌, ℕ, List, refl, sym, ◌∙◌, ap, inl, inr, ◌⊎◌, ⊎_elim, subst}
use Rattle.std.specs.Prelude.{Result, Ok, Err}
use Rattle.svsm_types.specs.declared.image.Image.{Image}
use Rattle.svsm_types.specs.declared.request.Request.{Request}
use Rattle.svsm_steps.specs.Sound.{IsSound}
use Rattle.svsm_text.specs.Lines.{lines}
use Rattle.svsm_laws.proofs.BootedSafe.{booted_is_always_safe}
use Rattle.svsm_laws.proofs.SoundImage.{sound_ranges, sound_accepts}
use Rattle.history_reader.proofs.FormedLemmas.{part_formed}
use Rattle.boot_core.specs.Boots.{Boots}
use Rattle.report_check.specs.declared.error.CheckError.{CheckError}
use Rattle.report_check.specs.declared.error.CheckError.TheVariants as checks
use Rattle.report_check.specs.Check.{IsRunText, Checks}
use Rattle.report_check.proofs.OneAnswer.{one_answer}
use Rattle.svsm_audit.specs.declared.error.AuditError.{AuditError}
use Rattle.svsm_audit.specs.declared.error.AuditError.TheVariants as errors
use Rattle.svsm_audit.specs.Audit.{IsAudited, Audits, audit_error}

-- the run of a report is safe
pub audited : (image : Image) (scripts : List (List Request)) (report : List ℕ) → IsSound image → Boots image → IsRunText image scripts report → IsAudited image scripts report
audited image scripts report sound boots text = record {
  is = record { boots = boots; text = text };
  safe = booted_is_always_safe image text.entries (sound_ranges image sound) (sound_accepts image sound)
      (part_formed image.regions (lines report) text.entries text.part);
}

-- a check that fails
pub failed : (image : Image) (scripts : List (List Request)) (report : List ℕ) (error : CheckError) → Boots image → Checks image scripts report (Err error)
    → Audits image scripts report (Err (audit_error error))
failed image scripts report (checks.Report line) boots fails = record { boots = boots; fails = fails }
failed image scripts report (checks.Play at) boots fails = record { boots = boots; fails = fails }
failed image scripts report (checks.Due at) boots fails = record { boots = boots; fails = fails }
failed image scripts report (checks.Order at) boots fails = record { boots = boots; fails = fails }
failed image scripts report (checks.Text at) boots fails = record { boots = boots; fails = fails }
failed image scripts report checks.NoMemory boots fails = tt

pub failed_by : (image : Image) (scripts : List (List Request)) (report : List ℕ) (error : CheckError) (given : AuditError) → given ≡ audit_error error → Boots image
    → Checks image scripts report (Err error) → Audits image scripts report (Err given)
failed_by image scripts report error given is boots fails =
    subst (λ (e : AuditError). Audits image scripts report (Err e)) (sym is) (failed image scripts report error boots fails)

-- the answer of an audit of an image that boots, by that of the check
abbrev audit_of : Result (Unit {0}) CheckError → Result (Unit {0}) AuditError
audit_of (Ok done) = Ok done
audit_of (Err error) = Err (audit_error error)

-- it comes of a check
record Checked (image : Image) (scripts : List (List Request)) (report : List ℕ) (result : Result (Unit {0}) AuditError) : Type 0 where
  pub check : Result (Unit {0}) CheckError
  pub is : result ≡ audit_of check
  pub boots : Boots image
  pub checks : Checks image scripts report check

-- memory was wanted, or the image does not boot, or a check was made
abbrev Comes : Image → List (List Request) → List ℕ → Result (Unit {0}) AuditError → Type 0
Comes image scripts report result =
    (result ≡ Err errors.NoMemory) ⊎ (((result ≡ Err errors.Boot) × (Boots image → ⊥)) ⊎ Checked image scripts report result)

comes : (image : Image) (scripts : List (List Request)) (report : List ℕ) (result : Result (Unit {0}) AuditError) → Audits image scripts report result → Comes image scripts report result
comes image scripts report (Ok done) audits = inr (inr (record { check = Ok done; is = refl; boots = audits.is.boots; checks = audits.is.text }))
comes image scripts report (Err errors.Boot) audits = inr (inl (refl, audits))
comes image scripts report (Err (errors.Report line)) audits = inr (inr (record { check = Err (checks.Report line); is = refl; boots = audits.boots; checks = audits.fails }))
comes image scripts report (Err (errors.Play at)) audits = inr (inr (record { check = Err (checks.Play at); is = refl; boots = audits.boots; checks = audits.fails }))
comes image scripts report (Err (errors.Due at)) audits = inr (inr (record { check = Err (checks.Due at); is = refl; boots = audits.boots; checks = audits.fails }))
comes image scripts report (Err (errors.Order at)) audits = inr (inr (record { check = Err (checks.Order at); is = refl; boots = audits.boots; checks = audits.fails }))
comes image scripts report (Err (errors.Text at)) audits = inr (inr (record { check = Err (checks.Text at); is = refl; boots = audits.boots; checks = audits.fails }))
comes image scripts report (Err errors.NoMemory) audits = inl refl

-- the answers are one, or memory was wanted
abbrev pub OneOf : Result (Unit {0}) AuditError → Result (Unit {0}) AuditError → Type 0
OneOf result other = (result ≡ other) ⊎ ((result ≡ Err errors.NoMemory) ⊎ (other ≡ Err errors.NoMemory))

both_checked : (image : Image) (scripts : List (List Request)) (report : List ℕ) (result other : Result (Unit {0}) AuditError) → Checked image scripts report result
    → Checked image scripts report other → OneOf result other
both_checked image scripts report result other one too =
    ⊎_elim
    (λ (same : one.check ≡ too.check). inl (one.is ∙ ap audit_of same ∙ sym too.is))
    (λ rest. ⊎_elim
    (λ (memory : one.check ≡ Err checks.NoMemory). inr (inl (one.is ∙ ap audit_of memory)))
    (λ (memory : too.check ≡ Err checks.NoMemory). inr (inr (too.is ∙ ap audit_of memory))) rest)
    (one_answer image scripts report one.check too.check one.checks too.checks)

pub one_audit : (image : Image) (scripts : List (List Request)) (report : List ℕ) (result other : Result (Unit {0}) AuditError) → Audits image scripts report result
    → Audits image scripts report other → OneOf result other
one_audit image scripts report result other audits also =
    ⊎_elim
    (λ (memory : result ≡ Err errors.NoMemory). inr (inl memory))
    (λ came. ⊎_elim
    (λ (memory : other ≡ Err errors.NoMemory). inr (inr memory))
    (λ too. ⊎_elim
    (λ off. ⊎_elim (λ out. inl (off.0 ∙ sym out.0)) (λ (check : Checked image scripts report other). absurd (off.1 check.boots)) too)
    (λ (check : Checked image scripts report result). ⊎_elim (λ out. absurd (out.1 check.boots))
    (λ (checked : Checked image scripts report other). both_checked image scripts report result other check checked) too)
    came)
    (comes image scripts report other also))
    (comes image scripts report result audits)
