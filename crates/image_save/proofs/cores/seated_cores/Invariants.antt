use Rattle.std.proofs.Common.{◌≡◌, take, map}
use Rattle.image_text.specs.Saved.{saved_core}
use Rattle.image_save.proofs.cores.seated_cores.Given as goal

abbrev pub invariant-cores : goal.invariant-cores
invariant-cores l = l.seated.items ≡ map (saved_core l.rows) (take l.core-index l.cores)
