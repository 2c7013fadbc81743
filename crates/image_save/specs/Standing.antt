-- The state in which places stand.
use Rattle.std.specs.Prelude.{◌≡◌, ℕ, Bool, ◌+◌, ◌<◌, ◌≤◌, None, List, [], map, length, slice_index_or}
use Rattle.svsm_types.specs.declared.image.CoreLine.{CoreLine}
use Rattle.svsm_types.specs.declared.vcpu.Row.{Row}
use Rattle.svsm_steps.specs.Image.{no_region}
use Rattle.svsm_steps.specs.Places.{PlaceValue, in_region, in_pool, in_registry}
use Rattle.svsm_steps.specs.State.{State, RegionState, Block}
use Rattle.place_core.specs.Kinds.{value_of}
use Rattle.place_core.specs.PlaceView.{PlaceView}

-- what a place was made as, by its number
abbrev pub opened_at : List PlaceView → ℕ → PlaceValue
opened_at places number = slice_index_or (map (λ (place : PlaceView). value_of place.opening) places) number (in_registry [] [])

-- the region, the blocks and the rows of a place; of another place none
abbrev pub region_held : PlaceValue → RegionState
region_held (in_region r) = r
region_held (in_pool split blocks) = no_region
region_held (in_registry cores rows) = no_region

abbrev pub pool_held : PlaceValue → List Block
pool_held (in_region r) = []
pool_held (in_pool split blocks) = blocks
pool_held (in_registry cores rows) = []

abbrev pub rows_held : PlaceValue → List Row
rows_held (in_region r) = []
rows_held (in_pool split blocks) = []
rows_held (in_registry cores rows) = rows

-- the state: the regions by their numbers, then the pool, then the registry
abbrev pub standing : ℕ → List PlaceView → State
standing regions places = record {
  regions = λ number. region_held (opened_at places number);
  pool = pool_held (opened_at places regions);
  rows = rows_held (opened_at places (regions + 1));
}

-- a place in its place, at rest, without a log
pub record IsRested (number : ℕ) (place : PlaceView) : Type 0 where
  pub number_is : place.number ≡ number
  pub log_is : place.log ≡ []
  pub at_rest : place.pending ≡ None

-- the place with a number is such a one
pub record IsRestedAt (places : List PlaceView) (number : ℕ) : Type 0 where
  pub within : number < length places
  pub rested : (none : PlaceView) → IsRested number (slice_index_or places number none)

-- it is a region, or the registry
pub record IsRegionAt (places : List PlaceView) (number : ℕ) : Type 0 where
  pub here : IsRestedAt places number
  pub region : opened_at places number ≡ in_region (region_held (opened_at places number))

-- it is the pool, among so many regions
pub record IsPoolAt (places : List PlaceView) (regions : ℕ) : Type 0 where
  pub here : IsRestedAt places regions
  pub among : (none : PlaceView) → (slice_index_or places regions none).regions ≡ regions
  pub split : Bool
  pub pool : opened_at places regions ≡ in_pool split (pool_held (opened_at places regions))

pub record IsRegistryAt (places : List PlaceView) (number : ℕ) : Type 0 where
  pub here : IsRestedAt places number
  pub cores : List CoreLine
  pub registry : opened_at places number ≡ in_registry cores (rows_held (opened_at places number))

-- all regions of a map, the pool and the registry
pub record AreStanding (regions : ℕ) (places : List PlaceView) : Type 0 where
  pub most : regions ≤ 512
  pub each : (number : ℕ) → number < regions → IsRegionAt places number
  pub pool : IsPoolAt places regions
  pub registry : IsRegistryAt places (regions + 1)
