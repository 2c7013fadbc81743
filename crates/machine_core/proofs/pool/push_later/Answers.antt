use Rattle.std.proofs.Common.{◌≡◌, ◌+◌, ◌-◌, ◌++◌, ℕ, ap, ◌∙◌, arith}
use Rattle.std.specs.Prelude.{map}
use Rattle.std.specs.List.{range_with_len}
use Rattle.svsm_types.specs.declared.platform.Size.TheVariants.{Small}
use Rattle.svsm_steps.specs.Image.{block_of}
use Rattle.machine_core.specs.PoolView.{blocks_view}
use Rattle.machine_core.proofs.SplitLemmas.{parts_more}
use Rattle.machine_core.proofs.pool.push_later.Goals as goal

pub parts-preserved : goal.parts-preserved
parts-preserved c = record {
  room = omega (arith, c.parts.invariant.room, c.push_reserved.ensures.len, c.push_reserved.ensures.capacity, c.parts-test.true);
  pushed = parts_more (blocks_view c.args.blocks.now.items) c.parts.blocks.items c.push_reserved.new.self.items c.args.page.0 c.parts.k c.parts.invariant.pushed c.push_reserved.ensures.items;
}

pub returns : goal.returns
returns c =
    let end : c.parts.k ≡ 511 = omega (arith, c.parts-test.false, c.parts.auto.k-end) in
    c.parts.invariant.pushed ∙ ap (λ (n : ℕ). blocks_view c.args.blocks.now.items ++ map (λ k. block_of Small (c.args.page.0 + 511 - k)) (range_with_len 0 n)) end
