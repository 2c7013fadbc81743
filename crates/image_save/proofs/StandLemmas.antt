-- What stands at a place.
use Rattle.std.proofs.Common.{◌≡◌, ℕ, false, List, [], sym, ap, ◌∙◌, refl, map}
use Rattle.std.specs.Prelude.{slice_index_or}
use Rattle.std.proofs.lemmas.List.{get_or-map}
use Rattle.svsm_types.specs.declared.image.CoreLine.{CoreLine}
use Rattle.svsm_types.specs.declared.vcpu.Row.{Row}
use Rattle.svsm_types.specs.declared.address.Page.{Page}
use Rattle.svsm_types.specs.declared.platform.Size.{Size}
use Rattle.deposit_pool.specs.Pairs.{pair_of}
use Rattle.image_text.specs.Saved.{saved_block}
use Rattle.svsm_steps.specs.declared.entry.Entry.{Entry}
use Rattle.svsm_steps.specs.Lawful.{IsReplayOf}
use Rattle.svsm_steps.specs.Places.{in_region, in_registry, replay}
use Rattle.svsm_steps.specs.State.{RegionState}
use Rattle.rmp_table.specs.declared.table.PackedRmp.{PackedRmp}
use Rattle.rmp_table.specs.PackedKnown.{packed_known}
use Rattle.region_core.specs.declared.region.Region.{Region}
use Rattle.region_core.specs.Whole.{whole}
use Rattle.vcpu_registry.specs.declared.registry.Registry.{Registry}
use Rattle.place_core.specs.declared.kind.Kind.{Kind}
use Rattle.place_core.specs.declared.kind.Kind.TheVariants as Kinds
use Rattle.place_core.specs.Kinds.{value_of, blocks_held, is_region, is_registry}
use Rattle.place_core.specs.PlaceView.{PlaceView}
use Rattle.image_save.specs.Standing.{opened_at, region_held, pool_held, rows_held, IsRestedAt, IsPoolAt, IsRegionAt, IsRegistryAt}

-- a place that was looked up, and is replayed, is what it was made as
pub value_is : (places : List PlaceView) (number : ℕ) (place : PlaceView) → IsRestedAt places number → place ≡ slice_index_or places number place
    → IsReplayOf (value_of place.opening) place.log (value_of place.kind) → value_of place.kind ≡ opened_at places number
value_is places number place here is replayed =
    let rested = here.rested place in
    let log : place.log ≡ [] = ap (λ (p : PlaceView). p.log) is ∙ rested.log_is in
    replayed.ends
    ∙ ap (λ (l : List Entry). replay (value_of place.opening) l) log
    ∙ ap (λ (p : PlaceView). value_of p.opening) is
    ∙ sym (get_or-map (λ (p : PlaceView). value_of p.opening) places number place (in_registry [] []) here.within)

not_region : (kind : Kind) (r : RegionState) → value_of kind ≡ in_region r → is_region kind ≡ false → ⊥
not_region (Kinds.Region one) r is none = cc
not_region (Kinds.Pool one) r is none = cc
not_region (Kinds.Split one) r is none = cc
not_region (Kinds.Registry one) r is none = cc

not_registry : (kind : Kind) (cores : List CoreLine) (rows : List Row) → value_of kind ≡ in_registry cores rows → is_registry kind ≡ false → ⊥
not_registry (Kinds.Region one) cores rows is none = cc
not_registry (Kinds.Pool one) cores rows is none = cc
not_registry (Kinds.Split one) cores rows is none = cc
not_registry (Kinds.Registry one) cores rows is none = cc

pub no_region : (places : List PlaceView) (number : ℕ) (place : PlaceView) → IsRegionAt places number → place ≡ slice_index_or places number place
    → IsReplayOf (value_of place.opening) place.log (value_of place.kind) → is_region place.kind ≡ false → ⊥
no_region places number place at is replayed none =
    not_region place.kind (region_held (opened_at places number)) (value_is places number place at.here is replayed ∙ at.region) none

pub no_registry : (places : List PlaceView) (number : ℕ) (place : PlaceView) → IsRegistryAt places number → place ≡ slice_index_or places number place
    → IsReplayOf (value_of place.opening) place.log (value_of place.kind) → is_registry place.kind ≡ false → ⊥
no_registry places number place at is replayed none =
    not_registry place.kind at.cores (rows_held (opened_at places number)) (value_is places number place at.here is replayed ∙ at.registry) none

pub region_is : (places : List PlaceView) (number : ℕ) (place : PlaceView) (one : Region PackedRmp) → IsRegionAt places number
    → place ≡ slice_index_or places number place → IsReplayOf (value_of place.opening) place.log (value_of place.kind) → place.kind ≡ Kinds.Region one
    → whole (packed_known one.scene) one.owners ≡ region_held (opened_at places number)
region_is places number place one at is replayed kind =
    ap (λ (k : Kind). region_held (value_of k)) (sym kind) ∙ ap region_held (value_is places number place at.here is replayed)

pub rows_are : (places : List PlaceView) (number : ℕ) (place : PlaceView) (one : Registry) → IsRegistryAt places number
    → place ≡ slice_index_or places number place → IsReplayOf (value_of place.opening) place.log (value_of place.kind) → place.kind ≡ Kinds.Registry one
    → one.rows ≡ rows_held (opened_at places number)
rows_are places number place one at is replayed kind =
    ap (λ (k : Kind). rows_held (value_of k)) (sym kind) ∙ ap rows_held (value_is places number place at.here is replayed)

-- the blocks of a place are those of what it holds
held : (kind : Kind) → blocks_held kind ≡ pool_held (value_of kind)
held (Kinds.Region one) = refl
held (Kinds.Pool one) = refl
held (Kinds.Split one) = refl
held (Kinds.Registry one) = refl

pub blocks_are : (places : List PlaceView) (number : ℕ) (place : PlaceView) (blocks : List (Page × Size)) → IsPoolAt places number
    → place ≡ slice_index_or places number place → IsReplayOf (value_of place.opening) place.log (value_of place.kind)
    → blocks ≡ map pair_of (blocks_held place.kind) → blocks ≡ map saved_block (pool_held (opened_at places number))
blocks_are places number place blocks at is replayed are =
    are ∙ ap (map saved_block) (held place.kind ∙ ap pool_held (value_is places number place at.here is replayed))

-- it knows its number among the regions
pub in_its_place : (places : List PlaceView) (number : ℕ) (place : PlaceView) → IsPoolAt places number → place ≡ slice_index_or places number place
    → place.number ≡ place.regions
in_its_place places number place at is =
    ap (λ (p : PlaceView). p.number) is ∙ (at.here.rested place).number_is ∙ sym (at.among place) ∙ ap (λ (p : PlaceView). p.regions) (sym is)
