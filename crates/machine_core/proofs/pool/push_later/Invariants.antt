use Rattle.std.proofs.Common.{◌≡◌, ◌+◌, ◌-◌, ◌≤◌, ◌++◌}
use Rattle.std.specs.Prelude.{map, vec_len, vec_capacity}
use Rattle.std.specs.List.{range_with_len}
use Rattle.svsm_types.specs.declared.platform.Size.TheVariants.{Small}
use Rattle.svsm_steps.specs.Image.{block_of}
use Rattle.machine_core.specs.PoolView.{blocks_view}
use Rattle.machine_core.proofs.pool.push_later.Given as goal

abbrev pub invariant-parts : goal.invariant-parts
invariant-parts l = record {
  room : vec_len l.blocks + (511 - l.k) ≤ vec_capacity l.blocks;
  pushed : blocks_view l.blocks.items ≡ blocks_view l.fn.blocks.items ++ map (λ k. block_of Small (l.page.0 + 511 - k)) (range_with_len 0 l.k);
}
