-- Numbers of 64 bits.
use Rattle.std.specs.Prelude.{ℕ, ◌*◌, ◌^◌, ◌<◌}
use Rattle.svsm_types.specs.declared.image.Image.{Image}
use Rattle.svsm_steps.specs.State.{State, word_at}

-- the words of the pages before this one
abbrev pub FitBeforePage : ℕ → State → Type 0
FitBeforePage page state = (number : ℕ) → number < 512 * page → word_at (8 * number) state < 2 ^ 64

-- the image's features and the words of a state
pub record FitsIn64Bits (image : Image) (state : State) : Type 0 where
  pub features : image.features < 2 ^ 64
  pub words : FitBeforePage (512 * image.regions) state
