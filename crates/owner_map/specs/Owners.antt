-- The module's own table of one region.
use Rattle.std.specs.Prelude.{Bool, true, false, not, List}
use Rattle.svsm_types.specs.declared.owner.Owner.{Owner}

-- what the module keeps of a region beside the platform: two lists of 512, by the index of a page
pub record Owners : Type 0 where
  pub owner : List Owner
  -- the pages that the module has recorded as validated
  pub recorded : List Bool

-- whether a mark is as asked
abbrev pub is_marked : Bool → Bool → Bool
is_marked true recorded = recorded
is_marked false recorded = not recorded
