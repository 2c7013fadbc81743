use Rattle.std.proofs.Common.{◌+◌, ap, subst, arith, take, List}
use Rattle.std.specs.Prelude.{slice_index_or}
use Rattle.svsm_types.specs.declared.platform.Size.{Size}
use Rattle.deposit_pool.specs.OrderValue.{OrderValue}
use Rattle.deposit_pool.specs.Runs.{sizes_in}
use Rattle.deposit_pool.proofs.LayLemmas.{IsLaid, nothing_laid, laid_more, rest_laid, run_fits, last_fits, sizes_next}
use Rattle.deposit_pool.proofs.order.Order.lay_out.Goals as goal

pub runs-init : goal.runs-init
runs-init c = nothing_laid c.args.small.now c.args.large.now c.deref-run-items.result.now c.new-blocks.result.items c.new-blocks.ensures.items

pub push_run-requires-clause-small : goal.push_run-requires-clause-small
push_run-requires-clause-small c =
    (run_fits c.args.small.now c.args.large.now c.deref-run-items.result.now c.self.inside.below.items c.self.inside.last c.runs.run-index c.runs.done.small c.runs.done.large (record { small = 0; large = 0 })
    c.args.self.now.sizes c.runs.blocks.items (omega (arith, c.runs-test.true)) c.runs.invariant c.deref-run-items.ensures.value (ap (λ (o : OrderValue). o.sizes) c.self.view_is) c.requires.small c.requires.large).0

pub push_run-requires-clause-large : goal.push_run-requires-clause-large
push_run-requires-clause-large c =
    (run_fits c.args.small.now c.args.large.now c.deref-run-items.result.now c.self.inside.below.items c.self.inside.last c.runs.run-index c.runs.done.small c.runs.done.large (record { small = 0; large = 0 })
    c.args.self.now.sizes c.runs.blocks.items (omega (arith, c.runs-test.true)) c.runs.invariant c.deref-run-items.ensures.value (ap (λ (o : OrderValue). o.sizes) c.self.view_is) c.requires.small c.requires.large).1

pub overflow_add-done : goal.overflow_add-done
overflow_add-done c = omega (
  arith,
  (run_fits c.args.small.now c.args.large.now c.deref-run-items.result.now c.self.inside.below.items c.self.inside.last c.runs.run-index c.runs.done.small c.runs.done.large (record { small = 0; large = 0 })
      c.args.self.now.sizes c.runs.blocks.items (omega (arith, c.runs-test.true)) c.runs.invariant c.deref-run-items.ensures.value (ap (λ (o : OrderValue). o.sizes) c.self.view_is) c.requires.small c.requires.large).0,
)

pub overflow_add-done-in-runs : goal.overflow_add-done-in-runs
overflow_add-done-in-runs c = omega (
  arith,
  (run_fits c.args.small.now c.args.large.now c.deref-run-items.result.now c.self.inside.below.items c.self.inside.last c.runs.run-index c.runs.done.small c.runs.done.large (record { small = 0; large = 0 })
      c.args.self.now.sizes c.runs.blocks.items (omega (arith, c.runs-test.true)) c.runs.invariant c.deref-run-items.ensures.value (ap (λ (o : OrderValue). o.sizes) c.self.view_is) c.requires.small c.requires.large).1,
)

pub runs-preserved : goal.runs-preserved
runs-preserved c =
    let run = slice_index_or c.deref-run-items.result.now c.runs.run-index (record { small = 0; large = 0 }) in
    let fit = (run_fits c.args.small.now c.args.large.now c.deref-run-items.result.now c.self.inside.below.items c.self.inside.last c.runs.run-index c.runs.done.small c.runs.done.large (record { small = 0; large = 0 })
    c.args.self.now.sizes c.runs.blocks.items (omega (arith, c.runs-test.true)) c.runs.invariant c.deref-run-items.ensures.value (ap (λ (o : OrderValue). o.sizes) c.self.view_is) c.requires.small c.requires.large) in
    subst (λ (sizes : List Size). IsLaid c.args.small.now c.args.large.now sizes (c.runs.done.small + run.small) (c.runs.done.large + run.large) c.push_run.new.blocks.items)
    (sizes_next c.deref-run-items.result.now c.runs.run-index (record { small = 0; large = 0 }) (omega (arith, c.runs-test.true)))
    (laid_more c.args.small.now c.args.large.now (sizes_in (take c.runs.run-index c.deref-run-items.result.now)) c.runs.done.small c.runs.done.large c.runs.blocks.items c.push_run.new.blocks.items
    run c.runs.invariant fit.0 fit.1 c.in_ok-push_run.ensures)

pub push_run-requires-2-clause-small : goal.push_run-requires-2-clause-small
push_run-requires-2-clause-small c =
    omega (
      arith,
      (last_fits c.args.small.now c.args.large.now c.deref-run-items.result.now c.self.inside.below.items c.self.inside.last c.runs.run-index c.runs.done.small c.runs.done.large
          c.args.self.now.sizes c.runs.blocks.items (omega (arith, c.runs-test.false, c.runs.auto.run-index-end)) c.runs.invariant c.deref-run-items.ensures.value (ap (λ (o : OrderValue). o.sizes) c.self.view_is) c.requires.small c.requires.large).0,
    )

pub push_run-requires-2-clause-large : goal.push_run-requires-2-clause-large
push_run-requires-2-clause-large c =
    omega (
      arith,
      (last_fits c.args.small.now c.args.large.now c.deref-run-items.result.now c.self.inside.below.items c.self.inside.last c.runs.run-index c.runs.done.small c.runs.done.large
          c.args.self.now.sizes c.runs.blocks.items (omega (arith, c.runs-test.false, c.runs.auto.run-index-end)) c.runs.invariant c.deref-run-items.ensures.value (ap (λ (o : OrderValue). o.sizes) c.self.view_is) c.requires.small c.requires.large).1,
    )

pub returns : goal.returns
returns c =
    rest_laid c.args.small.now c.args.large.now c.deref-run-items.result.now c.self.inside.below.items c.self.inside.last c.runs.run-index c.runs.done.small c.runs.done.large c.args.self.now.sizes c.runs.blocks.items
    c.push_run-2.new.blocks.items (omega (arith, c.runs-test.false, c.runs.auto.run-index-end)) c.runs.invariant c.deref-run-items.ensures.value (ap (λ (o : OrderValue). o.sizes) c.self.view_is)
    c.requires.small c.requires.large c.in_ok-push_run-2.ensures
