-- What each kind of place is, as the machine has it.
use Rattle.std.specs.Prelude.{◌≡◌, ℕ, ◌+◌, ◌<◌, Bool, true, false, unwrap_or, List, [], ⊤}
use Rattle.svsm_types.specs.Numbers.{Numbers}
use Rattle.svsm_steps.specs.declared.step.Step.{Step}
use Rattle.svsm_steps.specs.State.{Block}
use Rattle.svsm_steps.specs.Mapped.{AreBlocks, AreRows}
use Rattle.svsm_steps.specs.Places.{PlaceValue, in_region, in_pool, in_registry}
use Rattle.region_core.specs.Whole.{whole}
use Rattle.region_core.specs.Steps.{HasRoomFor as HasWordsFor}
use Rattle.rmp_table.specs.PackedKnown.{packed_known}
use Rattle.place_core.specs.declared.kind.Kind.{Kind}
use Rattle.place_core.specs.declared.kind.Kind.TheVariants.{Region, Pool, Split, Registry}

-- the state of a place
abbrev pub value_of : Kind → PlaceValue
value_of (Region region) = in_region (whole (packed_known region.scene) region.owners)
value_of (Pool pool) = in_pool false pool.blocks
value_of (Split pool) = in_pool true pool.blocks
value_of (Registry registry) = in_registry registry.cores registry.rows

-- the blocks of a pool, from the first that was pushed
abbrev pub blocks_held : Kind → List Block
blocks_held (Pool pool) = pool.blocks
blocks_held (Split pool) = pool.blocks
blocks_held _ = []

-- no operation was made, and none is listed: the pool and the registry have no operations
abbrev pub no_numbers : Numbers
no_numbers = record { made = 0; faulting = [] }

-- the operation numbers of a place, as its platform tells them
abbrev pub numbers_of : Kind → Numbers
numbers_of (Region region) = unwrap_or (packed_known region.scene).told no_numbers
numbers_of (Pool pool) = no_numbers
numbers_of (Split pool) = no_numbers
numbers_of (Registry registry) = no_numbers

-- the number of a place among so many regions: that of its region, then the pool, then the registry
abbrev pub IsPlaced : ℕ → ℕ → Kind → Type 0
IsPlaced regions number (Region region) = ((packed_known region.scene).region ≡ number) × (number < regions)
IsPlaced regions number (Pool pool) = number ≡ regions
IsPlaced regions number (Split pool) = number ≡ regions
IsPlaced regions number (Registry registry) = number ≡ regions + 1

-- the blocks and the rows of a place lie in the map
abbrev pub IsMappedAt : ℕ → PlaceValue → Type 0
IsMappedAt regions (in_region r) = ⊤
IsMappedAt regions (in_pool split blocks) = AreBlocks regions blocks
IsMappedAt regions (in_registry cores rows) = AreRows regions rows

-- room was made for what a step writes: words, a block or a row
abbrev pub HasRoomFor : Step → Kind → Type 0
HasRoomFor step (Region region) = HasWordsFor step (packed_known region.scene).room
HasRoomFor step (Pool pool) = pool.spare ≡ true
HasRoomFor step (Split pool) = pool.spare ≡ true
HasRoomFor step (Registry registry) = registry.spare ≡ true

-- whether a place is a region, the pool that does not split, or the registry
abbrev pub is_region : Kind → Bool
is_region (Region region) = true
is_region _ = false

abbrev pub is_pool : Kind → Bool
is_pool (Pool pool) = true
is_pool _ = false

abbrev pub is_registry : Kind → Bool
is_registry (Registry registry) = true
is_registry _ = false
