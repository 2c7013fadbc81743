-- The text of a sound image is read as that image.
use Rattle.std.proofs.Common.{◌≡◌, ◌≢◌, ℕ, ◌+◌, ◌*◌, ◌-◌, ◌^◌, ◌<◌, ◌≤◌, Bool, true, false, List, [], ◌∷◌, ◌++◌, length, refl, sym, ap, ◌∙◌, subst, arith, IsTrue}
use Rattle.std.specs.Prelude.{⊤, if◌then◌else◌, ◌&&◌, ◌||◌, ◌==◌, not, nat_le, nat_lt, Option, Some, None, map, codes}
use Rattle.std.specs.List.{list_all}
use Rattle.std.proofs.lemmas.Bool.Decides.{nat_tests}
use Rattle.std.proofs.lemmas.Bool.{ne_eqb}
use Rattle.svsm_types.specs.Pages.{is_in_map}
use Rattle.svsm_types.specs.declared.address.Page.{Page}
use Rattle.svsm_types.specs.declared.image.Image.{Image}
use Rattle.svsm_types.specs.declared.image.CoreLine.{CoreLine}
use Rattle.svsm_types.specs.declared.platform.Size.{Size}
use Rattle.svsm_types.specs.declared.platform.Vmpl.{Vmpl}
use Rattle.svsm_text.specs.Numbers.{number}
use Rattle.svsm_steps.specs.Formed.{IsVmpl}
use Rattle.svsm_steps.specs.Sound.{IsSound, IsSecond, is_sound_block}
use Rattle.image_grammar.specs.Image.{image_of, is_vmpl}
use Rattle.image_text.specs.Written.{Fields, image_text, title_fields, vmpl_fields, head_lines, only_if, item_lines, range_fields, large_fields, core_fields, block_fields, fill_fields}
use Rattle.image_text.specs.ReadsAgain.{IsWritable, ReadsAgain}
use Rattle.image_text.proofs.TextLemmas.{IsField, AreFields, AreLines, lines_append}
use Rattle.image_text.proofs.FieldLemmas.{number_field}
use Rattle.image_text.proofs.LineLemmas.{base_of, after_ranges, after_large, after_cores, after_announce, AreSmall, HeadSmall, HeadFits, are_levels, LinesFit, reads_by}
use Rattle.image_text.proofs.SoundLemmas.{both, in_the_map, in_map_is, ranges_fit, range_lines_are, large_fit, large_lines_are, cores_fit, core_lines_are, blocks_fit, block_lines_are, fills_fit, fill_lines_are}
use Rattle.image_text.proofs.EndLemmas.{end_holds}

-- THE FIRST FIVE LINES

vmpl_small : (vmpl : Vmpl) → IsVmpl vmpl → vmpl.0 < 2 ^ 64
vmpl_small vmpl h = omega (arith, h.1)

vmpl_by : (n : ℕ) → 1 ≤ n → n ≤ 3 → is_vmpl n ≡ true
vmpl_by n low high = grind (arith, nat_tests)

vmpl_is : (vmpl : Vmpl) → IsVmpl vmpl → is_vmpl vmpl.0 ≡ true
vmpl_is vmpl h = vmpl_by vmpl.0 h.0 h.1

levels_small : (first : Vmpl) (second : Option Vmpl) → IsVmpl first → IsSecond first second → AreSmall first second
levels_small first None h k = vmpl_small first h
levels_small first (Some second) h k = (vmpl_small first h, vmpl_small second k.0)

levels_are : (first : Vmpl) (second : Option Vmpl) → IsVmpl first → IsSecond first second → are_levels first second ≡ true
levels_are first None h k = vmpl_is first h
levels_are first (Some second) h k =
    let a = vmpl_is first h in
    let b = vmpl_is second k.0 in
    let c = ne_eqb second.0 first.0 k.1 in
    rw (a, b, c) refl

features_fit : (n : ℕ) → n < 2 ^ 64 → (nat_le 0 n && nat_le n 0xffffffffffffffff) ≡ true
features_fit n small = grind (arith, nat_tests)

regions_fit : (n : ℕ) → 1 ≤ n → n ≤ 512 → (nat_le 1 n && nat_le n 512) ≡ true
regions_fit n low high = grind (arith, nat_tests)

ghcb_fit : (page most : ℕ) → page ≤ most → (nat_le 0 page && nat_le page most) ≡ true
ghcb_fit page most h = grind (arith, nat_tests)

title_are : (second : Option Vmpl) → AreFields (title_fields second)
title_are None = ((refl, (refl, (refl, (refl, (refl, (refl, (refl, (refl, (refl, (refl, tt)))))))))), ((refl, tt), tt))
title_are (Some second) = ((refl, (refl, (refl, (refl, (refl, (refl, (refl, (refl, (refl, (refl, tt)))))))))), ((refl, tt), tt))

vmpl_are : (first : Vmpl) (second : Option Vmpl) → AreSmall first second → AreFields (vmpl_fields first second)
vmpl_are first None small = ((refl, (refl, (refl, (refl, tt)))), (number_field first.0 small, tt))
vmpl_are first (Some second) small = ((refl, (refl, (refl, (refl, tt)))), (number_field first.0 small.0, (number_field second.0 small.1, tt)))

head_lines_are : (image : Image) → HeadSmall image → AreLines (head_lines image)
head_lines_are image small = (
  title_are image.second,
  (
    ((refl, (refl, (refl, (refl, (refl, (refl, (refl, tt))))))), (number_field image.regions small.regions, tt)),
    (
      vmpl_are image.vmpl image.second small.levels,
      (
        ((refl, (refl, (refl, (refl, (refl, (refl, (refl, (refl, tt)))))))), (number_field image.features small.features, tt)),
        (((refl, (refl, (refl, (refl, tt)))), (number_field image.ghcb.0 small.ghcb, tt)), tt),
      ),
    ),
  ),
)

-- THE OTHERS

only_are : (t : Bool) (line : Fields) → AreFields line → AreLines (only_if t line)
only_are true line h = (h, tt)
only_are false line h = tt

blocks_in_map : (image : Image) (blocks : List (Page × Size)) → list_all (is_sound_block image) blocks ≡ true → list_all (in_the_map image.regions) blocks ≡ true
blocks_in_map image [] h = refl
blocks_in_map image (block ∷ blocks) h =
    let s = both (is_sound_block image block) (list_all (is_sound_block image) blocks) h in
    let m = both (is_in_map image.regions block.0.0) _ s.0 in
    let rest = blocks_in_map image blocks s.1 in
    let here = m.0 in
    rw (here, rest) refl

item_lines_are : (image : Image) → IsWritable image → AreLines (item_lines image)
item_lines_are image w =
    let s = w.sound in
    let small = levels_small image.vmpl image.second s.vmpl s.second in
    lines_append (map range_fields image.ranges) _ (range_lines_are image.regions image.ranges s.regions_most s.ranges)
    (lines_append (map large_fields image.large) _ (large_lines_are image.regions image.large s.regions_most s.large)
    (lines_append (map (core_fields image.second) image.cores) _ (core_lines_are image.regions image.vmpl image.second image.cores s.regions_most small s.cores s.levels)
    (lines_append (map block_fields image.blocks) _ (block_lines_are image.regions image.blocks s.regions_most (blocks_in_map image image.blocks s.blocks))
    (lines_append (only_if image.split (codes "pool" ∷ codes "split" ∷ [])) _
    (only_are image.split (codes "pool" ∷ codes "split" ∷ []) ((refl, (refl, (refl, (refl, tt)))), ((refl, (refl, (refl, (refl, (refl, tt))))), tt)))
    (lines_append (only_if image.announce (codes "announce" ∷ [])) _
    (only_are image.announce (codes "announce" ∷ []) ((refl, (refl, (refl, (refl, (refl, (refl, (refl, (refl, tt)))))))), tt))
    (fill_lines_are image.regions image.fills s.regions_most s.fills))))))

lines_fit : (image : Image) → IsWritable image → LinesFit image
lines_fit image w =
    let s = w.sound in
    let small = levels_small image.vmpl image.second s.vmpl s.second in
    record {
      ranges = ranges_fit (base_of image) image.ranges [] s.regions_most s.ranges s.apart;
      large = large_fit (after_ranges image) image.large [] s.regions_most s.large;
      cores = cores_fit (after_large image) image.second image.cores [] refl s.regions_most small s.cores s.levels s.apics s.vmsas_apart s.cores_most;
      blocks = blocks_fit (after_cores image) image.blocks [] s.regions_most (blocks_in_map image image.blocks s.blocks);
      fills = fills_fit (after_announce image) image.fills [] s.regions_most s.fills w.words;
    }

pub reads_again : ReadsAgain
reads_again image w =
    let s = w.sound in
    let low = in_map_is image.regions image.ghcb.0 s.ghcb in
    let small : HeadSmall image = record {
      regions = omega (arith, s.regions_most);
      features = w.features;
      ghcb = omega (arith, low, s.regions_most);
      levels = levels_small image.vmpl image.second s.vmpl s.second;
    } in
    reads_by image (lines_append (head_lines image) (item_lines image) (head_lines_are image small) (item_lines_are image w)) small
    (regions_fit image.regions s.regions_least s.regions_most, features_fit image.features w.features, ghcb_fit image.ghcb.0 (512 * image.regions - 1) (omega (arith, low)))
    (levels_are image.vmpl image.second s.vmpl s.second)
    (lines_fit image w) w.no_accepts w.no_faults w.no_host (end_holds image s w.no_accepts)
