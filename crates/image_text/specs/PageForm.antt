-- When a page of a state is as a range line says it.
use Rattle.std.specs.Prelude.{◌≡◌, ◌≢◌, ℕ, ◌≤◌, Bool, true, false, ◌&&◌, List, length, Some}
use Rattle.svsm_types.specs.Hardware.{right_of}
use Rattle.svsm_types.specs.declared.image.Image.{Image}
use Rattle.svsm_types.specs.declared.owner.Owner.{Owner}
use Rattle.svsm_types.specs.declared.owner.Owner.TheVariants.{Guest, Pool, Vmsa}
use Rattle.svsm_types.specs.declared.platform.PageState.{PageState}
use Rattle.svsm_steps.specs.Checks.{same_owner}
use Rattle.svsm_steps.specs.State.{State, page_at, owner_at}
use Rattle.svsm_steps.specs.Image.{page_in}
use Rattle.svsm_steps.specs.Sound.{has_lawful_rights, is_valid_where_held}
use Rattle.image_text.specs.Saved.{saying, range_at}

-- what each page of a last state keeps to
pub record IsTidyPage (owner : Owner) (page : PageState) : Type 0 where
  -- a right for each of three VMPLs, of four bits each
  pub three : length page.rights ≡ 3
  pub bits : (vmpl : ℕ) → right_of vmpl page ≤ 15
  -- a validated page is assigned, and one that is not has no rights
  pub assigned : page.validated ≡ true → page.assigned ≡ true
  pub empty : page.validated ≡ false → (vmpl : ℕ) → 1 ≤ vmpl → vmpl ≤ 3 → right_of vmpl page ≡ 0
  -- only the guest's pages have rights
  pub shut : owner ≢ Guest → (vmpl : ℕ) → 1 ≤ vmpl → vmpl ≤ 3 → right_of vmpl page ≡ 0
  -- pages of the pool and of vCPUs are valid
  pub pool : owner ≡ Pool → page.validated ≡ true
  pub vmsas : owner ≡ Vmsa → page.validated ≡ true
  -- the VMSA bit stands just on valid pages of vCPUs
  pub bit : page.vmsa ≡ (page.validated && same_owner owner Vmsa)

pub record IsSaid (image : Image) (state : State) (page : ℕ) : Type 0 where
  pub state_is : page_at page state ≡ page_in (Some (range_at 0 0 (saying image state page)))
  pub lawful : (has_lawful_rights (range_at 0 0 (saying image state page)) && is_valid_where_held (range_at 0 0 (saying image state page))) ≡ true

-- Each page but the GHCB page is as its range line says it, and that line is lawful.
abbrev pub TidyPagesAreSaid : Type 0
TidyPagesAreSaid =
    (image : Image) (state : State) (page : ℕ) → page ≢ image.ghcb.0 → IsTidyPage (owner_at page state) (page_at page state) → IsSaid image state page
