-- How a boot ends.
use Rattle.std.proofs.Common.{◌≡◌, refl, ap, inl, inr, ◌⊎◌, ⊎_elim}
use Rattle.std.specs.Prelude.{Result, Ok, Err, OnOk}
use Rattle.svsm_types.specs.declared.image.Image.{Image}
use Rattle.boot_core.specs.declared.error.BootError.{BootError}
use Rattle.boot_core.specs.declared.error.BootError.TheVariants.{Msr, Psc, Fault, NoMemory}
use Rattle.boot_core.specs.Boots.{BootEnds, Boots}
use Rattle.boot_core.proofs.WayLemmas.{one_way}
use Rattle.svsm_audit.specs.declared.error.AuditError.TheVariants as errors
use Rattle.svsm_audit.specs.Audit.{boot_error}

abbrev well : Result (Unit {0}) BootError
well = Ok tt

not_memory : well ≡ Err NoMemory → ⊥
not_memory same = cc

pub boots_of : (image : Image) (result : Result (Unit {0}) BootError) → (result ≡ Err NoMemory) ⊎ BootEnds image result → OnOk result (Boots image)
boots_of image (Ok done) ends = ⊎_elim (λ (same : Ok done ≡ Err NoMemory). absurd (not_memory same)) (λ (is : BootEnds image (Ok done)). is) ends
boots_of image (Err error) ends = tt

-- an image that ends its boot by an error does not boot
error_is : (error : BootError) → well ≡ Err error → ⊥
error_is error same = cc

pub no_boot : (image : Image) (error : BootError) → BootEnds image (Err error) → Boots image → ⊥
no_boot image error ends boots = error_is error (one_way image well (Err error) boots ends)

one_or_other : (error : BootError) → (boot_error error ≡ errors.NoMemory) ⊎ (boot_error error ≡ errors.Boot)
one_or_other (Msr sent got) = inr refl
one_or_other (Psc error) = inr refl
one_or_other (Fault page) = inr refl
one_or_other NoMemory = inl refl

pub refused_by : (image : Image) (error : BootError) → (error ≡ NoMemory) ⊎ BootEnds image (Err error)
    → (boot_error error ≡ errors.NoMemory) ⊎ ((boot_error error ≡ errors.Boot) × (Boots image → ⊥))
refused_by image error ends =
    ⊎_elim (λ (memory : error ≡ NoMemory). inl (ap boot_error memory))
    (λ (is : BootEnds image (Err error)). ⊎_elim (λ (memory : boot_error error ≡ errors.NoMemory). inl memory)
    (λ (refused : boot_error error ≡ errors.Boot). inr (refused, no_boot image error is)) (one_or_other error))
    ends
