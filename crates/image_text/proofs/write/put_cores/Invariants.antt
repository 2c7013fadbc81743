use Rattle.std.proofs.Common.{◌≡◌, ◌++◌, take}
use Rattle.std.specs.Prelude.{flat_map, map}
use Rattle.image_text.specs.Written.{line_text, core_fields}
use Rattle.image_text.proofs.write.put_cores.Given as goal

abbrev pub invariant-loop-core : goal.invariant-loop-core
invariant-loop-core l = l.out.items ≡ l.initial.out.items ++ flat_map line_text (map (core_fields l.second) (take l.core-index l.cores))
