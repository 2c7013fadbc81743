use Rattle.std.proofs.Common.{◌≡◌, ◌++◌, take}
use Rattle.deposit_pool.specs.Pairs.{pairs_with}
use Rattle.deposit_pool.proofs.order.push_all.Given as goal

abbrev pub invariant-pages : goal.invariant-pages
invariant-pages l = l.blocks.items ≡ l.fn.blocks.items ++ pairs_with l.size (take l.page-index l.pages)
