use Rattle.std.proofs.Common.{◌∙◌, ap}
use Rattle.svsm_types.specs.Hardware.{is_usable}
use Rattle.rmp_table.proofs.table.PackedRmp.is_usable_at.Goals as goal

pub returns : goal.returns
returns c = c.is_usable.ensures ∙ ap is_usable c.word_at.ensures
