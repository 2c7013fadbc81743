use Rattle.machine_core.specs.Standing.{standing_of}
use Rattle.machine_core.proofs.RegionLemmas.{by_listed}
use Rattle.machine_core.proofs.machine.Machine.step.Goals as goal

pub returns-clause-ok : goal.returns-clause-ok
returns-clause-ok c =
    by_listed c.listed-struck.result c.args.core c.args.step.now c.in_ok-carried.carried.answer (standing_of c.args.self.now)
    (standing_of c.step_as.new.self) c.listed-struck.ensures c.in_ok-carried.ensures.ok
