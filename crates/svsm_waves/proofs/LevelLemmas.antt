-- The VMPL of a core's line is one of a sound image.
use Rattle.std.proofs.Common.{◌≡◌, ◌≤◌, ℕ, zero, suc, Bool, true, false, List, [], ◌∷◌, refl, sym, subst}
use Rattle.std.proofs.lemmas.Bool.{eqb-true}
use Rattle.std.specs.Prelude.{Option, None, Some, IsTrue, slice_get, ◌==◌, ◌||◌, ◌&&◌}
use Rattle.std.specs.List.{list_all}
use Rattle.std.specs.Option.{option_map_or}
use Rattle.svsm_types.specs.declared.image.Image.{Image}
use Rattle.svsm_types.specs.declared.image.CoreLine.{CoreLine}
use Rattle.svsm_types.specs.declared.platform.Vmpl.{Vmpl}
use Rattle.svsm_steps.specs.Formed.{IsVmpl}
use Rattle.svsm_steps.specs.Sound.{IsSound, IsSecond, is_level}
use Rattle.svsm_calls.specs.Waves.{vmpl_of}

pub both : (a b : Bool) → (a && b) ≡ true → (a ≡ true) × (b ≡ true)
both true b all = (refl, all)
both false b all = cc

same_level : (vmpl other : Vmpl) → (vmpl.0 == other.0) ≡ true → IsVmpl other → IsVmpl vmpl
same_level vmpl other is lawful = subst (λ (n : ℕ). IsVmpl (record { 0 = n })) (sym (eqb-true vmpl.0 other.0 is)) lawful

pub one_level : (vmpl first : Vmpl) (second : Option Vmpl) (b : Bool) → (vmpl.0 == first.0) ≡ b → IsVmpl first → IsSecond first second
    → (b || option_map_or (λ (second : Vmpl). vmpl.0 == second.0) second false) ≡ true → IsVmpl vmpl
one_level vmpl first second true is lawful also level = same_level vmpl first is lawful
one_level vmpl first (Some second) false is lawful also level = same_level vmpl second level also.0
one_level vmpl first None false is lawful also level = cc

line_level : (image : Image) → IsVmpl image.vmpl → IsSecond image.vmpl image.second → (lines : List CoreLine)
    → IsTrue (list_all (λ (core : CoreLine). is_level image core.vmpl) lines)
    → (core : ℕ) → IsVmpl (option_map_or (λ (line : CoreLine). line.vmpl) (slice_get lines core) image.vmpl)
line_level image lawful also [] all core = lawful
line_level image lawful also (line ∷ lines) all zero =
    one_level line.vmpl image.vmpl image.second (line.vmpl.0 == image.vmpl.0) refl lawful also
    (both (is_level image line.vmpl) (list_all (λ (core : CoreLine). is_level image core.vmpl) lines) all).0
line_level image lawful also (line ∷ lines) all (suc core) =
    line_level image lawful also lines (both (is_level image line.vmpl) (list_all (λ (core : CoreLine). is_level image core.vmpl) lines) all).1 core

pub lawful_level : (image : Image) → IsSound image → (core : ℕ) → IsVmpl (vmpl_of image core)
lawful_level image sound core = line_level image sound.vmpl sound.second image.cores sound.levels core
