-- What a last state has to be for its image to boot into it.
use Rattle.std.specs.Prelude.{◌≡◌, ◌≢◌, ◌==◌, ℕ, ◌+◌, ◌*◌, ◌%◌, ◌^◌, ◌<◌, ◌≤◌, Bool, true, false, Option, Some, None, List, [], ◌∷◌, map, filter, flat_map, count_by, length, IsTrue, slice_index_or}
use Rattle.std.specs.List.{list_all}
use Rattle.svsm_types.specs.Pages.{page_of, region_of}
use Rattle.svsm_types.specs.Hardware.{blank}
use Rattle.svsm_types.specs.declared.image.Image.{Image}
use Rattle.svsm_types.specs.declared.image.CoreLine.{CoreLine}
use Rattle.svsm_types.specs.declared.owner.Owner.TheVariants.{Pool}
use Rattle.svsm_types.specs.declared.vcpu.Row.{Row}
use Rattle.svsm_types.specs.declared.vcpu.RowState.TheVariants.{Ready}
use Rattle.svsm_steps.specs.State.{State, AreSized, page_at, owner_at, recorded_at}
use Rattle.svsm_steps.specs.Image.{no_region, page_in, is_valid}
use Rattle.image_text.specs.Saved.{saying, range_at, hw_state, is_idle}

-- the rows in the order of the core lines, each of them ready
abbrev pub ready : Row → Row
ready row = record row { state = Ready }

-- the rows of each core line, which boots make ready, in the order of the lines
abbrev pub in_core_order : List CoreLine → List Row → List Row
in_core_order cores rows = flat_map (λ (core : CoreLine). map ready (filter (λ (row : Row). row.apic == core.apic) rows)) cores

-- the last state with each row ready, in the order of the core lines
abbrev pub rebooted : Image → State → State
rebooted image state = record state { rows = in_core_order image.cores state.rows }

pub record IsSavable (image : Image) (state : State) : Type 0 where
  pub ghcb : image.ghcb.0 < 512 * image.regions
  -- regions have 512 pages, and outside the map there is nothing
  pub sized : AreSized state
  pub outside : (number : ℕ) → image.regions ≤ number → state.regions number ≡ no_region
  -- each page of the map but the GHCB page is as a range line says it, and recorded where it is valid
  pub pages :
      (page : ℕ) → page < 512 * image.regions → page ≢ image.ghcb.0 → page_at page state ≡ page_in (Some (range_at 0 0 (saying image state page)))
  pub recorded : (page : ℕ) → page < 512 * image.regions → page ≢ image.ghcb.0 → recorded_at page state ≡ is_valid (hw_state (page_at page state))
  -- the GHCB page is shared and not recorded, and its region is held in 4K
  pub ghcb_page : page_at image.ghcb.0 state ≡ blank
  pub ghcb_recorded : recorded_at image.ghcb.0 state ≡ false
  pub ghcb_small : (state.regions (region_of image.ghcb.0)).hw.large ≡ false
  -- words stand at multiples of 8, each in the region of its page
  pub words_apart : (number address : ℕ) → region_of (page_of address) ≢ number → (state.regions number).hw.words address ≡ 0
  pub words_aligned : (number address : ℕ) → (address % 8 ≡ 0 → ⊥) → (state.regions number).hw.words address ≡ 0
  -- where the pool has no block, no page is the pool's
  pub no_blocks : state.pool ≡ [] → (page : ℕ) → page < 512 * image.regions → owner_at page state ≢ Pool
  -- no core is in the middle of a vCPU, and no two rows have one APIC id
  pub idle : IsTrue (list_all (λ (row : Row). is_idle row.state) state.rows)
  pub apics : (apic : ℕ) → count_by (λ (row : Row). row.apic == apic) state.rows ≤ 1
