-- The image of a last state can be written.
use Rattle.std.proofs.Common.{◌≡◌, ◌≢◌, ℕ, zero, suc, ◌+◌, ◌*◌, ◌/◌, ◌%◌, ◌-◌, ◌^◌, ◌<◌, ◌≤◌, Bool, true, false, List, [], ◌∷◌, ◌++◌, length, get_or, refl, sym, ap, ◌∙◌, subst, arith, IsTrue, ◌⊎◌, inl, inr}
use Rattle.std.specs.Prelude.{⊤, if◌then◌else◌, ◌&&◌, ◌||◌, ◌==◌, not, nat_le, nat_lt, Option, Some, None, map, filter, find, count_by, cond, replicate}
use Rattle.std.specs.List.{list_all, list_any, range_with_len}
use Rattle.std.proofs.lemmas.Bool.Decides.{nat_tests}
use Rattle.std.proofs.lemmas.Bool.{eqb-true, eqb-false, eq-eqb, ne_eqb, cases_lt}
use Rattle.std.proofs.lemmas.List.{length-map}
use Rattle.std.proofs.lemmas.List.FromFn.{length-map-range_with_len}
use Rattle.svsm_types.specs.Pages.{page_of, region_of, index_of, is_in_map}
use Rattle.svsm_types.specs.declared.address.Page.{Page}
use Rattle.svsm_types.specs.declared.image.Image.{Image}
use Rattle.svsm_types.specs.declared.image.Range.{Range}
use Rattle.svsm_types.specs.declared.image.CoreLine.{CoreLine}
use Rattle.svsm_types.specs.declared.owner.Owner.{Owner}
use Rattle.svsm_types.specs.declared.owner.Owner.TheVariants.{Guest, Module, Pool, Vmsa}
use Rattle.svsm_types.specs.declared.platform.Size.{Size}
use Rattle.svsm_types.specs.declared.vcpu.Row.{Row}
use Rattle.svsm_steps.specs.Checks.{same_owner}
use Rattle.svsm_steps.specs.State.{State, RegionState, Block, page_at, owner_at, word_at}
use Rattle.svsm_steps.specs.Partition.{has_page}
use Rattle.svsm_steps.specs.Words.{as_bit}
use Rattle.svsm_steps.specs.Image.{is_in_range, range_of, owner_in, page_in, is_held_large, is_pools, blocks_by_lines, no_region}
use Rattle.svsm_steps.specs.Sound.{IsSound, is_sound_core, is_level, has_vmsa, HasBlocks, is_sound_block}
use Rattle.image_text.specs.ReadsAgain.{IsWritable, AreOf64Bits}
use Rattle.image_text.specs.Saved.{saved_core, saved_block, saved, saved_fills, fills_from}
use Rattle.image_text.specs.SavedSound.{IsSayable, SavesReadable}
use Rattle.image_text.proofs.SavedLemmas.{once, ranges_sound, fills_within, FillsWithin, fills_sound, fills_words}
use Rattle.image_text.proofs.SavedSoundLemmas.{sayings, all_lawful, size_of, past_map, large_below, held_is, page_low, uniform_owner, uniform_state, ghcb_said, cores_sound, levels_same, count_map}
use Rattle.image_text.proofs.SeatLemmas.{seats_apart, seats_are_rows}
use Rattle.image_text.proofs.BootLemmas.{found, back_again, lt_true}

-- OWNERS, ALSO PAST THE MAP

-- outside the map each page is the guest's
nobody : (count index : ℕ) → get_or (replicate count Guest) index Guest ≡ Guest
nobody zero index = refl
nobody (suc count) zero = refl
nobody (suc count) (suc index) = nobody count index

past_owner : (image : Image) (state : State) → IsSayable image state → (page : ℕ) → 512 * image.regions ≤ page → owner_at page state ≡ Guest
past_owner image state s page low =
    ap (λ (r : RegionState). get_or r.owner (index_of page) Guest) (s.savable.outside (region_of page) (omega (arith, low))) ∙ nobody 512 (index_of page)

owner_by : (image : Image) (state : State) → IsSayable image state → (page : ℕ) → (page < 512 * image.regions) ⊎ (512 * image.regions ≤ page) → owner_in (range_of (saved image state) page) ≡ owner_at page state
owner_by image state s page (inl low) = (found image state page low).owner
owner_by image state s page (inr high) = ap owner_in (past_map image state s page high) ∙ sym (past_owner image state s page high)

owner_is : (image : Image) (state : State) → IsSayable image state → (page : ℕ) → owner_in (range_of (saved image state) page) ≡ owner_at page state
owner_is image state s page = owner_by image state s page (cases_lt page (512 * image.regions))

-- BLOCKS
has_blocks : (image : Image) (state : State) → IsSayable image state → (pool : List Block) → state.pool ≡ pool → HasBlocks (saved image state) (map saved_block pool)
has_blocks image state s [] e = tt
has_blocks image state s (block ∷ blocks) e = λ page.
    ap (count_by (has_page page)) (back_again (block ∷ blocks) ∙ sym e)
    ∙ s.blocks_of_pool page
    ∙ ap (λ (o : Owner). as_bit (same_owner o Pool)) (sym (owner_is image state s page))

-- WORDS
words_map : (state : State) → ((number : ℕ) → word_at (8 * number) state < 2 ^ 64) → (first count : ℕ) → AreOf64Bits (map (λ number. word_at (8 * number) state) (range_with_len first count))
words_map state h first zero = tt
words_map state h first (suc count) = (h first, words_map state h (first + 1) count)

fills_are : (image : Image) (state : State) → IsSayable image state → FillsWithin (512 * (512 * image.regions)) (saved_fills image state)
fills_are image state s =
    let words = map (λ number. word_at (8 * number) state) (range_with_len 0 (512 * (512 * image.regions))) in
    fills_within (512 * (512 * image.regions)) 0 words
    (omega (arith, length-map-range_with_len (λ number. word_at (8 * number) state) 0 (512 * (512 * image.regions))))
    (words_map state s.words 0 (512 * (512 * image.regions)))

saved_sound : (image : Image) (state : State) → IsSayable image state → IsSound (saved image state)
saved_sound image state s =
    let was = s.sound in
    let rows = state.rows in
    let many = length-map image.cores (saved_core rows) in
    record {
      regions_least = was.regions_least;
      regions_most = was.regions_most;
      vmpl = was.vmpl;
      second = was.second;
      ranges = ranges_sound image.regions (sayings image state) (size_of image state) (all_lawful image state s);
      apart = λ page. once page (sayings image state);
      large = large_below image state;
      uniform_owner = uniform_owner image state s;
      uniform_state = uniform_state image state s;
      no_large_vmsa = λ page h e. s.no_large_vmsa page (held_is image state (region_of page) h).large (sym (owner_is image state s page) ∙ e);
      ghcb = lt_true image.ghcb.0 (512 * image.regions) s.savable.ghcb;
      ghcb_owner = owner_is image state s image.ghcb.0 ∙ s.ghcb_owner;
      ghcb_assigned = ap (λ p. p.assigned) (ghcb_said image state s);
      ghcb_not_valid = ap (λ p. p.validated) (ghcb_said image state s);
      spans = refl;
      spans_apart = λ page. omega arith;
      accepts_guests = λ page h. cc;
      accepts_shared = λ page h. cc;
      cores_least = omega (arith, was.cores_least, many);
      cores_most = omega (arith, was.cores_most, many);
      cores = cores_sound image.regions image.cores rows was.cores s.seats;
      levels = levels_same (saved image state) image.cores rows was.levels;
      apics = λ apic. omega (arith, count_map (λ (core : CoreLine). core.apic == apic) (saved_core rows) image.cores, was.apics apic);
      vmsas_apart = λ page. seats_apart page image.cores rows (s.row_pages page) was.apics;
      vmsas = λ page. seats_are_rows page image.cores rows (s.row_pages page) s.savable.idle s.savable.apics s.of_cores ∙ s.vmsas page ∙ ap (λ (o : Owner). same_owner o Vmsa) (sym (owner_is image state s page));
      fills = fills_sound image.regions (saved_fills image state) (fills_are image state s);
      faults = refl;
      host = refl;
      blocks = s.blocks;
      blocks_of_pool = has_blocks image state s state.pool refl;
    }

pub saves_readable : SavesReadable
saves_readable image state s = record {
  sound = saved_sound image state s;
  features = s.features;
  words = fills_words (512 * (512 * image.regions)) (saved_fills image state) (fills_are image state s);
  no_accepts = refl;
  no_faults = refl;
  no_host = refl;
}
