use Rattle.std.proofs.Common.{subst}
use Rattle.svsm_steps.specs.declared.step.Step.TheVariants.{PoolPush, PoolPop}
use Rattle.svsm_steps.specs.Formed.{IsWellFormed}
use Rattle.machine_core.proofs.SplitLemmas.{stays_mapped}
use Rattle.machine_core.proofs.pool.step.Goals as goal

pub returns-in-PoolPush-clause-mapped : goal.returns-in-PoolPush-clause-mapped
returns-in-PoolPush-clause-mapped c =
    stays_mapped c.args.split c.args.blocks.now.items c.push.new.blocks.items (PoolPush c.in-PoolPush.page c.in-PoolPush.size) c.push.result
    (subst (IsWellFormed 512) c.in-PoolPush.is c.requires.formed) c.requires.mapped c.push.ensures.ok c.push.ensures.err

pub returns-in-PoolPop-clause-mapped : goal.returns-in-PoolPop-clause-mapped
returns-in-PoolPop-clause-mapped c =
    stays_mapped c.args.split c.args.blocks.now.items c.pop.new.blocks.items (PoolPop c.in-PoolPop.size) c.pop.result
    (subst (IsWellFormed 512) c.in-PoolPop.is c.requires.formed) c.requires.mapped c.pop.ensures.ok c.pop.ensures.err
