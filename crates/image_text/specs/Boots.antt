-- The image of a last state boots into it.
use Rattle.std.specs.Prelude.{◌≡◌}
use Rattle.svsm_types.specs.declared.image.Image.{Image}
use Rattle.svsm_steps.specs.State.{State}
use Rattle.svsm_steps.specs.Image.{booted}
use Rattle.image_text.specs.Saved.{saved}
use Rattle.image_text.specs.Savable.{IsSavable, rebooted}

abbrev pub BootsInto : Type 0
BootsInto = (image : Image) (state : State) → IsSavable image state → booted (saved image state) ≡ rebooted image state
