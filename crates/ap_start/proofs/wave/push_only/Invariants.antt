use Rattle.std.proofs.Common.{◌≡◌, ◌++◌, map, take}
use Rattle.ap_start.specs.Exits.{exit_of}
use Rattle.ap_start.specs.Wave.{only_live}
use Rattle.ap_start.proofs.wave.push_only.Given as goal

abbrev pub invariant-rows : goal.invariant-rows
invariant-rows l = l.exits.items ≡ l.fn.exits.items ++ map (exit_of l.cores) (only_live l.create (take l.row-index l.rows) l.others)
