use Rattle.std.proofs.Common.{◌≡◌, ◌++◌, take}
use Rattle.std.specs.Prelude.{flat_map, map}
use Rattle.image_text.specs.Written.{line_text, large_fields}
use Rattle.image_text.proofs.write.put_larges.Given as goal

abbrev pub invariant-loop-region : goal.invariant-loop-region
invariant-loop-region l = l.out.items ≡ l.initial.out.items ++ flat_map line_text (map large_fields (take l.region-index l.regions))
