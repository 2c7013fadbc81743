-- Places that were made as a state stand as it.
use Rattle.std.specs.Prelude.{◌≡◌, ℕ, ◌+◌, ◌≤◌, Option, List, length, slice_index_or}
use Rattle.svsm_types.specs.declared.image.Image.{Image}
use Rattle.svsm_steps.specs.declared.outcome.CoreRun.{CoreRun}
use Rattle.svsm_steps.specs.Image.{constants_of}
use Rattle.svsm_steps.specs.Places.{place_in}
use Rattle.svsm_steps.specs.State.{State, rmp_rows}
use Rattle.place_core.specs.declared.kind.Kind.{Kind}
use Rattle.place_core.specs.Kinds.{value_of}
use Rattle.place_core.specs.PlaceView.{PlaceView}
use Rattle.place_core.specs.Turned.{EachPlace, IsFresh, openings_of}
use Rattle.image_text.specs.Fits.{FitsIn64Bits}
use Rattle.image_text.specs.Refused.{save_told}
use Rattle.image_save.specs.Standing.{standing, AreStanding}

-- fresh places, each made as its part of a state
pub record AreMadeAs (image : Image) (state : State) (places : List PlaceView) : Type 0 where
  pub most : image.regions ≤ 512
  pub count : length places ≡ image.regions + 2
  pub fresh : EachPlace places (IsFresh image.regions)
  pub values : (number : ℕ) (none : Kind) → number ≤ image.regions + 1
      → value_of (slice_index_or (openings_of places) number none) ≡ place_in (constants_of image) state number

-- they stand, and what is told of them is told of the state
pub record StandAs (image : Image) (state : State) (places : List PlaceView) : Type 0 where
  pub are : AreStanding image.regions places
  pub pages : rmp_rows image.regions (standing image.regions places) ≡ rmp_rows image.regions state
  pub pool : (standing image.regions places).pool ≡ state.pool
  pub rows : (standing image.regions places).rows ≡ state.rows
  pub told : (cores : List CoreRun) (refused : Option (ℕ × ℕ))
      → save_told image cores refused (standing image.regions places) ≡ save_told image cores refused state
  pub fits : FitsIn64Bits image (standing image.regions places) → FitsIn64Bits image state

abbrev pub MadePlacesStand : Type 0
MadePlacesStand = (image : Image) (state : State) (places : List PlaceView) → AreMadeAs image state places → StandAs image state places
