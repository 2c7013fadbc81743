-- A 2M block of the pool begins a region that is held as 2M, unless the host took a page of it away.
use Rattle.std.specs.Prelude.{◌≡◌, ◌⊎◌, ◌==◌, ◌&&◌, ℕ, ◌<◌, Bool, true, false, List, slice_index_or, Contains}
use Rattle.std.specs.List.{list_any}
use Rattle.svsm_types.specs.Pages.{region_of}
use Rattle.svsm_types.specs.Hardware.{blank}
use Rattle.svsm_types.specs.declared.image.Image.{Image}
use Rattle.svsm_types.specs.declared.platform.Size.TheVariants.{Large}
use Rattle.svsm_types.specs.declared.request.Request.{Request}
use Rattle.svsm_steps.specs.declared.entry.Entry.{Entry}
use Rattle.svsm_steps.specs.declared.outcome.CoreRun.{CoreRun}
use Rattle.svsm_steps.specs.Image.{constants_of, booted}
use Rattle.svsm_steps.specs.Machine.{state_after}
use Rattle.svsm_steps.specs.Pool.{same_size}
use Rattle.svsm_steps.specs.Requests.{AreScripts}
use Rattle.svsm_steps.specs.Sound.{IsSound}
use Rattle.svsm_steps.specs.State.{State, RegionState, Block}
use Rattle.svsm_calls.specs.Run.{IsRun}
use Rattle.svsm_run_laws.specs.Alike.{is_faulted}

-- the 2M block of this region
abbrev pub is_large_of : ℕ → Block → Bool
is_large_of number block = same_size block.size Large && (region_of block.page.0 == number)

-- a page of the region is recorded and not validated: the host took it away
pub record HasLost (r : RegionState) : Type 0 where
  pub index : ℕ
  pub low : index < 512
  pub recorded : slice_index_or r.recorded index false ≡ true
  pub lost : (slice_index_or r.hw.pages index blank).validated ≡ false

-- each 2M block of the pool
abbrev pub LargeBlocksStand : State → Type 0
LargeBlocksStand state =
    (number : ℕ) → list_any (is_large_of number) state.pool ≡ true
    → ((state.regions number).hw.large ≡ true) ⊎ HasLost (state.regions number)

-- So it is at the end of each run of a sound image in which no core ended by a fault.
abbrev pub EndsWithLargeBlocks : Type 0
EndsWithLargeBlocks =
    (image : Image) (scripts : List (List Request)) (entries : List Entry) (cores : List CoreRun)
    → IsSound image → AreScripts scripts → IsRun image scripts entries cores
    → ((run : CoreRun) → Contains cores run → is_faulted run.end ≡ false)
    → LargeBlocksStand (state_after (constants_of image) (booted image) entries)
