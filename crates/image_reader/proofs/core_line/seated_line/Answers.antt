use Rattle.std.proofs.Common.{◌≡◌, ℕ, ◌<◌, List, [], ◌∷◌, length, map, refl, arith}
use Rattle.std.specs.Prelude.{Err}
use Rattle.svsm_types.specs.declared.image.Image.{Image}
use Rattle.image_grammar.specs.declared.kind.ImageKind.TheVariants.{Line}
use Rattle.image_grammar.specs.Forms.{seated_line}
use Rattle.image_reader.proofs.core_line.seated_line.Goals as goal

too_few : {A : Type 0} (image : Image) (apic vmsa : List ℕ) (now : A → List ℕ) (fields : List A) → length fields < 3 → Err Line ≡ seated_line image apic vmsa (map now fields)
too_few image apic vmsa now [] few = refl
too_few image apic vmsa now (page ∷ []) few = refl
too_few image apic vmsa now (page ∷ caa ∷ []) few = refl
too_few image apic vmsa now (page ∷ caa ∷ area ∷ level) few = absurd (omega arith)

pub returns-in_default-clause-told : goal.returns-in_default-clause-told
returns-in_default-clause-told c = too_few c.args.image.now c.args.apic.now c.args.vmsa.now (λ field. field.now) c.args.fields.now c.in_default.len_below
