use Rattle.machine_core.proofs.SplitLemmas.{splits_told}
use Rattle.machine_core.proofs.pool.split_answer.Goals as goal

pub returns-in-Some : goal.returns-in-Some
returns-in-Some c = splits_told c.args.blocks.now c.in-Some.field-0-1.now c.in-Some.block.now c.in-Some.ensures.cases.0 c.requires
