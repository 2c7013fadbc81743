-- What a run leaves is saved as the image of that state.
use Rattle.std.specs.Prelude.{◌≡◌, ℕ, Option, List, Result, Ok}
use Rattle.svsm_types.specs.declared.image.Image.{Image}
use Rattle.svsm_types.specs.declared.request.Request.{Request}
use Rattle.svsm_steps.specs.declared.entry.Entry.{Entry}
use Rattle.svsm_steps.specs.declared.outcome.CoreRun.{CoreRun}
use Rattle.svsm_steps.specs.Image.{constants_of, booted}
use Rattle.svsm_steps.specs.Machine.{state_after}
use Rattle.svsm_steps.specs.Requests.{AreScripts}
use Rattle.svsm_steps.specs.Sound.{IsSound}
use Rattle.svsm_steps.specs.State.{State}
use Rattle.svsm_calls.specs.Run.{IsRun}
use Rattle.image_grammar.specs.Image.{image_of}
use Rattle.image_text.specs.Fits.{FitsIn64Bits}
use Rattle.image_text.specs.Refused.{save_told}
use Rattle.image_text.specs.Savable.{rebooted}
use Rattle.image_text.specs.Saved.{saved}

-- the state that a run leaves
abbrev pub last_state : Image → List Entry → State
last_state image entries = state_after (constants_of image) (booted image) entries

-- The text is read as the saved image. That image is sound, and its booted state is the last one with each row Ready and the rows in
-- the order of the core lines.
pub record ComesBack (image : Image) (state : State) (text : List ℕ) : Type 0 where
  pub read : image_of text ≡ Ok (saved image state)
  pub sound : IsSound (saved image state)
  pub booted_is : booted (saved image state) ≡ rebooted image state

-- So it is for each run of a sound image whose last state is saved.
abbrev pub SavedRunsComeBack : Type 0
SavedRunsComeBack =
    (image : Image) (scripts : List (List Request)) (entries : List Entry) (cores : List CoreRun) (refused : Option (ℕ × ℕ)) (text : List ℕ)
    → IsSound image → AreScripts scripts → IsRun image scripts entries cores → FitsIn64Bits image (last_state image entries)
    → save_told image cores refused (last_state image entries) ≡ Ok text
    → ComesBack image (last_state image entries) text
