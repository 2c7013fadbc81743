-- The text of an image is read as that image.
use Rattle.std.specs.Prelude.{◌≡◌, ◌<◌, ◌^◌, ℕ, ⊤, List, [], ◌∷◌, Result, Ok}
use Rattle.svsm_types.specs.declared.image.Image.{Image}
use Rattle.svsm_types.specs.declared.image.Fill.{Fill}
use Rattle.svsm_steps.specs.Sound.{IsSound}
use Rattle.image_grammar.specs.Image.{image_of}
use Rattle.image_text.specs.Written.{image_text}

-- each word is below 2 ^ 64
abbrev pub AreOf64Bits : List ℕ → Type 0
AreOf64Bits [] = ⊤
AreOf64Bits (word ∷ words) = (word < 2 ^ 64) × AreOf64Bits words

abbrev pub AreFillsOf64Bits : List Fill → Type 0
AreFillsOf64Bits [] = ⊤
AreFillsOf64Bits (fill ∷ fills) = AreOf64Bits fill.words × AreFillsOf64Bits fills

-- a sound image that a text can say, without accepts, faults and host lines
pub record IsWritable (image : Image) : Type 0 where
  pub sound : IsSound image
  pub features : image.features < 2 ^ 64
  pub words : AreFillsOf64Bits image.fills
  pub no_accepts : image.accepts ≡ []
  pub no_faults : image.faults ≡ []
  pub no_host : image.host ≡ []

abbrev pub ReadsAgain : Type 0
ReadsAgain = (image : Image) → IsWritable image → image_of (image_text image) ≡ Ok image
