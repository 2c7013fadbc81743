-- What holds of an image behind each of its lines.
use Rattle.std.specs.Prelude.{ℕ, ◌≤◌, ◌==◌, nat_lt, Bool, true, ◌&&◌, IsTrue, length, count_by}
use Rattle.std.specs.List.{list_all}
use Rattle.svsm_types.specs.Pages.{is_in_map}
use Rattle.svsm_types.specs.declared.image.Image.{Image}
use Rattle.svsm_types.specs.declared.image.CoreLine.{CoreLine}
use Rattle.svsm_types.specs.declared.image.FaultAt.{FaultAt}
use Rattle.svsm_steps.specs.Formed.{IsVmpl}
use Rattle.svsm_steps.specs.Image.{is_in_range}
use Rattle.svsm_steps.specs.Sound.{is_range_in_map, is_sound_range, is_sound_span, is_sound_core, is_sound_fill, is_in_limits, is_in_span, is_level, has_vmsa, IsSecond}
use Rattle.image_grammar.specs.declared.head.Levels.{Levels}
use Rattle.image_grammar.specs.declared.item.Item.{Item}
use Rattle.image_grammar.specs.declared.item.Item.TheVariants as items

-- a VMPL of 1 to 3, and another one where there is a second
abbrev pub AreLevels : Levels → Type 0
AreLevels levels = IsVmpl levels.first × IsSecond levels.first levels.second

-- the numbers of an item are in their limits
abbrev pub is_in_place : Image → Item → Bool
is_in_place image (items.Range range) = is_range_in_map image.regions range
is_in_place image (items.Large region) = nat_lt region image.regions
is_in_place image (items.Accept span) = is_sound_span image.regions span
is_in_place image (items.Core core) = is_sound_core image.regions core && is_level image core.vmpl
is_in_place image (items.Bytes fill) = is_sound_fill image.regions fill
is_in_place image (items.Fault fault) = nat_lt fault.region image.regions
is_in_place image (items.Host line) = is_in_limits line
is_in_place image _ = true

-- a sound image, but for what is tried at the end
pub record IsSoFar (image : Image) : Type 0 where
  pub regions_least : 1 ≤ image.regions
  pub regions_most : image.regions ≤ 512
  pub vmpl : IsVmpl image.vmpl
  pub second : IsSecond image.vmpl image.second
  pub ghcb : IsTrue (is_in_map image.regions image.ghcb.0)
  pub ranges : IsTrue (list_all (is_sound_range image.regions) image.ranges)
  pub apart : (page : ℕ) → count_by (is_in_range page) image.ranges ≤ 1
  pub large : IsTrue (list_all (λ region. nat_lt region image.regions) image.large)
  pub spans : IsTrue (list_all (is_sound_span image.regions) image.accepts)
  pub spans_apart : (page : ℕ) → count_by (is_in_span page) image.accepts ≤ 1
  pub cores_most : length image.cores ≤ 64
  pub cores : IsTrue (list_all (is_sound_core image.regions) image.cores)
  pub levels : IsTrue (list_all (λ (core : CoreLine). is_level image core.vmpl) image.cores)
  pub apics : (apic : ℕ) → count_by (λ (core : CoreLine). core.apic == apic) image.cores ≤ 1
  pub vmsas_apart : (page : ℕ) → count_by (has_vmsa page) image.cores ≤ 1
  pub fills : IsTrue (list_all (is_sound_fill image.regions) image.fills)
  pub faults : IsTrue (list_all (λ (fault : FaultAt). nat_lt fault.region image.regions) image.faults)
  pub host : IsTrue (list_all is_in_limits image.host)
