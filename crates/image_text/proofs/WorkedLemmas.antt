-- The worked image.
use Rattle.std.proofs.Common.{refl}
use Rattle.std.specs.Fmt.{digits}
use Rattle.hex.specs.Hex.{encode_with}
use Rattle.image_text.specs.Worked.{WorkedSave}

pub worked_save : WorkedSave
unfolding digits encode_with
worked_save = record { runs = refl; lines = refl }
