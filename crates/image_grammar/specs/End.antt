-- What is tried where all lines have been read.
use Rattle.std.specs.Prelude.{ℕ, ◌*◌, ◌==◌, nat_lt, Bool, true, false, not, ◌&&◌, ◌||◌, Option, Some, None, length, count_by, Result, Ok}
use Rattle.std.specs.List.{range_with_len, list_any, list_all}
use Rattle.svsm_types.specs.declared.image.Image.{Image}
use Rattle.svsm_types.specs.declared.image.Range.{Range}
use Rattle.svsm_types.specs.declared.owner.Owner.TheVariants.{Guest, Module, Vmsa}
use Rattle.svsm_types.specs.declared.platform.HwState.{HwState}
use Rattle.svsm_types.specs.declared.platform.HwState.TheVariants.{Shared, Assigned, Valid}
use Rattle.svsm_steps.specs.Checks.{same_owner}
use Rattle.svsm_steps.specs.Words.{as_bit}
use Rattle.svsm_steps.specs.Image.{range_of, owner_in, is_held_large, is_pools, pages_of, blocks_by_lines}
use Rattle.svsm_steps.specs.Partition.{has_page}
use Rattle.svsm_steps.specs.Sound.{is_accepted, has_vmsa, is_sound_block}
use Rattle.image_grammar.specs.declared.kind.ImageKind.{ImageKind}
use Rattle.image_grammar.specs.declared.kind.ImageKind.TheVariants as kinds
use Rattle.image_grammar.specs.Told.{◌>>=◌, holds}

-- whether two states are the same
abbrev pub same_state : HwState → HwState → Bool
same_state Shared Shared = true
same_state Assigned Assigned = true
same_state Valid Valid = true
same_state _ _ = false

-- a page that no range names is shared
abbrev pub state_in : Option Range → HwState
state_in None = Shared
state_in (Some range) = range.state

-- and without rights
abbrev pub rights_in : Option Range → ℕ
rights_in None = 0
rights_in (Some range) = range.rights

-- two pages have the same owner, state and rights
abbrev pub are_alike : Option Range → Option Range → Bool
are_alike a b =
    same_owner (owner_in a) (owner_in b) && (same_state (state_in a) (state_in b) && rights_in a == rights_in b)

-- a page of a vCPU
abbrev pub is_vmsa_page : Option Range → Bool
is_vmsa_page page = same_owner (owner_in page) Vmsa

-- the pages of a region are alike
unfoldable pub are_same : Image → ℕ → Bool
are_same image region = list_all (λ page. are_alike (range_of image (512 * region)) (range_of image page)) (pages_of region)

-- and none is of a vCPU
abbrev pub is_even : Image → ℕ → Bool
is_even image region = are_same image region && not (is_vmsa_page (range_of image (512 * region)))

-- the regions of the map that are held as 2M are even
abbrev pub are_even : Image → Bool
are_even image = list_all (λ region. not (is_held_large image region) || is_even image region) (range_with_len 0 image.regions)

-- a page of the module that is assigned and not validated, as the GHCB page stands before boot
abbrev pub is_module_assigned : Option Range → Bool
is_module_assigned page = same_owner (owner_in page) Module && same_state (state_in page) Assigned

-- a page of the guest that is shared with the host
abbrev pub is_guest_shared : Option Range → Bool
is_guest_shared page = same_owner (owner_in page) Guest && same_state (state_in page) Shared

-- the accepted pages of the map are the guest's and shared
abbrev pub are_free : Image → Bool
are_free image =
    list_all (λ page. not (is_accepted image page) || is_guest_shared (range_of image page)) (range_with_len 0 (512 * image.regions))

-- two truth values are equal
abbrev pub same : Bool → Bool → Bool
same true b = b
same false b = not b

-- the pages of owner vmsa are just those of the core lines
abbrev pub are_seats : Image → Bool
are_seats image =
    list_all (λ page. same (list_any (has_vmsa page) image.cores) (is_vmsa_page (range_of image page))) (range_with_len 0 (512 * image.regions))

-- each page of the map stands in one listed block where it is the pool's, else in none
abbrev pub are_listed : Image → Bool
are_listed image =
    list_all (λ page. count_by (has_page page) (blocks_by_lines image.blocks) == as_bit (is_pools image page)) (range_with_len 0 (512 * image.regions))

-- where blocks are listed, they are sound, and have just the pages of the pool, each once
abbrev pub has_blocks : Image → Bool
has_blocks image = length image.blocks == 0 || (list_all (is_sound_block image) image.blocks && are_listed image)

-- the whole image
abbrev pub end_told : Image → Result Image ImageKind
end_told image = do
  _ ← holds kinds.Large (are_even image)
  _ ← holds kinds.Ghcb (is_module_assigned (range_of image image.ghcb.0))
  _ ← holds kinds.Accept (are_free image)
  _ ← holds kinds.Core (nat_lt 0 (length image.cores) && are_seats image)
  _ ← holds kinds.Block (has_blocks image)
  Ok image
