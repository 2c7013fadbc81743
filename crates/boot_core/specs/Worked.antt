-- Worked boots: of the smallest image that accepts a page, and of that image with one host line. This module's own.
use Rattle.std.specs.Prelude.{Err, List, [], ◌∷◌}
use Rattle.svsm_types.specs.declared.image.Image.{Image}
use Rattle.svsm_types.specs.declared.image.HostLine.{HostLine}
use Rattle.svsm_types.specs.declared.image.HostLine.TheVariants as Line
use Rattle.psc_batch.specs.declared.error.PscError.TheVariants.{Said, Changed}
use Rattle.boot_core.specs.declared.error.BootError.TheVariants.{Msr, Psc}
use Rattle.boot_core.specs.Boots.{BootEnds, Boots}
use Rattle.boot_core.specs.Small.{small}

-- the image with these host lines
abbrev pub with_lines : List HostLine → Image
with_lines lines = record small { host = lines }

-- boots that end well, and that are refused by the host's answer, by its error, or by an entry that it changed
pub record WorkedBoots : Type 0 where
  -- an image that accepts a page boots
  pub accepts : Boots small
  -- also where the host stores into an entry past the last one
  pub past_the_end : Boots (with_lines (Line.Change 0 1 0 ∷ []))
  -- the entry that was sent comes back as another
  pub changed : BootEnds (with_lines (Line.Change 0 0 0 ∷ [])) (Err (Psc (Changed 0 0x10000000010000 0)))
  -- the first exit says an error
  pub said : BootEnds (with_lines (Line.Exit 0 0 5 ∷ [])) (Err (Psc (Said 0 5)))
  -- the host has no version 2 of the protocol
  pub version : BootEnds (with_lines (Line.Info 0x0003000333000001 ∷ [])) (Err (Msr 0x2 0x0003000333000001))
  -- so this image does not boot
  pub never : Boots (with_lines (Line.Info 0x0003000333000001 ∷ [])) → ⊥
