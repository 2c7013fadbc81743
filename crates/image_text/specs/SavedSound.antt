-- What a last state has to be for its text to be read again.
use Rattle.std.specs.Prelude.{◌≡◌, ◌≢◌, ◌==◌, ℕ, ◌+◌, ◌*◌, ◌%◌, ◌^◌, ◌<◌, ◌≤◌, Bool, true, false, Option, Some, None, List, [], ◌∷◌, map, count_by, length, IsTrue, ◌&&◌, not}
use Rattle.std.specs.List.{list_all, list_any}
use Rattle.svsm_types.specs.Pages.{page_of, region_of}
use Rattle.svsm_types.specs.declared.image.Image.{Image}
use Rattle.svsm_types.specs.declared.image.CoreLine.{CoreLine}
use Rattle.svsm_types.specs.declared.owner.Owner.TheVariants.{Guest, Module, Pool, Vmsa}
use Rattle.svsm_types.specs.declared.vcpu.Row.{Row}
use Rattle.svsm_steps.specs.Checks.{same_owner}
use Rattle.svsm_steps.specs.State.{State, page_at, owner_at, word_at}
use Rattle.svsm_steps.specs.Partition.{has_page}
use Rattle.svsm_steps.specs.Registry.{of_page}
use Rattle.svsm_steps.specs.Sound.{IsSound, has_lawful_rights, is_valid_where_held, is_sound_seat, is_sound_block}
use Rattle.svsm_steps.specs.Words.{as_bit}
use Rattle.image_text.specs.Saved.{saying, range_at, saved, saved_block}
use Rattle.image_text.specs.Savable.{IsSavable}
use Rattle.image_text.specs.ReadsAgain.{IsWritable}

pub record IsSayable (image : Image) (state : State) : Type 0 where
  pub sound : IsSound image
  pub features : image.features < 2 ^ 64
  pub savable : IsSavable image state
  -- rights have four bits each, and stand only on valid pages of the guest; pages of the pool and of vCPUs are valid
  pub lawful :
      (page : ℕ) → page < 512 * image.regions
      → (has_lawful_rights (range_at 0 0 (saying image state page)) && is_valid_where_held (range_at 0 0 (saying image state page))) ≡ true
  -- the pages of a region that is held as 2M have one owner and one state, and none is a VMSA
  pub owners :
      (page other : ℕ) → (state.regions (region_of page)).hw.large ≡ true → region_of page ≡ region_of other → owner_at page state ≡ owner_at other state
  pub states :
      (page other : ℕ) → (state.regions (region_of page)).hw.large ≡ true → region_of page ≡ region_of other → page_at page state ≡ page_at other state
  pub no_large_vmsa : (page : ℕ) → (state.regions (region_of page)).hw.large ≡ true → owner_at page state ≢ Vmsa
  pub ghcb_owner : owner_at image.ghcb.0 state ≡ Module
  pub words : (number : ℕ) → word_at (8 * number) state < 2 ^ 64
  -- rows lie in the map, no two have one page, and each is of a core line; the VMSA pages are just theirs
  pub seats : IsTrue (list_all (λ (row : Row). is_sound_seat image.regions (Some (row.page, row.caa))) state.rows)
  pub row_pages : (page : ℕ) → count_by (of_page page) state.rows ≤ 1
  pub of_cores : IsTrue (list_all (λ (row : Row). list_any (λ (core : CoreLine). core.apic == row.apic) image.cores) state.rows)
  pub vmsas : (page : ℕ) → list_any (of_page page) state.rows ≡ same_owner (owner_at page state) Vmsa
  -- blocks are sound, and have just the pages of the pool, each once
  pub blocks : IsTrue (list_all (is_sound_block (saved image state)) (map saved_block state.pool))
  pub blocks_of_pool : (page : ℕ) → count_by (has_page page) state.pool ≡ as_bit (same_owner (owner_at page state) Pool)

abbrev pub SavesReadable : Type 0
SavesReadable = (image : Image) (state : State) → IsSayable image state → IsWritable (saved image state)
