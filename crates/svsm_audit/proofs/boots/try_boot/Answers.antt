use Rattle.std.proofs.Common.{subst, sym, ◌≡◌, ◌⊎◌}
use Rattle.svsm_audit.proofs.BootLemmas.{refused_by}
use Rattle.svsm_audit.specs.declared.error.AuditError.{AuditError}
use Rattle.svsm_audit.specs.declared.error.AuditError.TheVariants as errors
use Rattle.boot_core.specs.Boots.{Boots}
use Rattle.svsm_audit.proofs.boots.try_boot.Goals as goal

pub returns-in-Err : goal.returns-in-Err
returns-in-Err c = record {
  boots = tt;
  refused = subst (λ (e : AuditError). (e ≡ errors.NoMemory) ⊎ ((e ≡ errors.Boot) × (Boots c.args.image.now → ⊥))) (sym c.boot_error.ensures)
      (refused_by c.args.image.now c.in-Err.error c.in-Err.ensures.refused);
}
