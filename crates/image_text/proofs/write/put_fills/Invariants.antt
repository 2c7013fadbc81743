use Rattle.std.proofs.Common.{◌≡◌, ◌++◌, take}
use Rattle.std.specs.Prelude.{flat_map, map}
use Rattle.image_text.specs.Written.{line_text, fill_fields}
use Rattle.image_text.proofs.write.put_fills.Given as goal

abbrev pub invariant-loop-fill : goal.invariant-loop-fill
invariant-loop-fill l = l.out.items ≡ l.initial.out.items ++ flat_map line_text (map fill_fields (take l.fill-index l.fills))
