use Rattle.std.proofs.Common.{◌≡◌}
use Rattle.pool_split.specs.Rest.{rest_of}
use Rattle.pool_split.proofs.small.SmallBlocks.to_vec.Given as goal

abbrev pub invariant-rest : goal.invariant-rest
invariant-rest l = l.pages.items ≡ rest_of l.self-inside.split l.k
