use Rattle.std.proofs.Common.{◌≡◌}
use Rattle.std.specs.Prelude.{filter}
use Rattle.std.specs.List.{range_with_len}
use Rattle.image_save.specs.Standing.{standing}
use Rattle.image_save.proofs.pages.large_regions.Given as goal

abbrev pub invariant-regions : goal.invariant-regions
invariant-regions l = l.large.items ≡ filter (λ region. ((standing l.image.regions l.places).regions region).hw.large) (range_with_len 0 l.number)
