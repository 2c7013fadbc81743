-- The image of a run that was saved boots.
use Rattle.std.specs.Prelude.{◌≡◌, ℕ, Option, List, [], Result, Ok}
use Rattle.svsm_types.specs.declared.image.Image.{Image}
use Rattle.svsm_types.specs.declared.request.Request.{Request}
use Rattle.svsm_steps.specs.declared.entry.Entry.{Entry}
use Rattle.svsm_steps.specs.declared.outcome.CoreRun.{CoreRun}
use Rattle.svsm_steps.specs.Requests.{AreScripts}
use Rattle.svsm_steps.specs.Sound.{IsSound}
use Rattle.svsm_calls.specs.Run.{IsRun}
use Rattle.image_grammar.specs.Image.{image_of}
use Rattle.image_text.specs.Fits.{FitsIn64Bits}
use Rattle.image_text.specs.Refused.{save_told}
use Rattle.save_laws.specs.Saved.{last_state}
use Rattle.boot_core.specs.Boots.{Boots}

-- A sound image that accepts nothing and has no host lines boots, by what the host answers without them.
abbrev pub QuietImagesBoot : Type 0
QuietImagesBoot = (image : Image) → IsSound image → image.accepts ≡ [] → image.host ≡ [] → Boots image

-- a text is read as an image that boots
pub record BootsAgain (text : List ℕ) : Type 0 where
  pub image : Image
  pub read : image_of text ≡ Ok image
  pub boots : Boots image

-- So it is with the text of each run of a sound image whose last state is saved.
abbrev pub SavedRunsBoot : Type 0
SavedRunsBoot =
    (image : Image) (scripts : List (List Request)) (entries : List Entry) (cores : List CoreRun) (refused : Option (ℕ × ℕ)) (text : List ℕ)
    → IsSound image → AreScripts scripts → IsRun image scripts entries cores → FitsIn64Bits image (last_state image entries)
    → save_told image cores refused (last_state image entries) ≡ Ok text → BootsAgain text
