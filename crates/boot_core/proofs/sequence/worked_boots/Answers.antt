use Rattle.boot_core.proofs.WorkedLemmas as lemmas
use Rattle.boot_core.proofs.sequence.worked_boots.Goals as goal

pub returns : goal.returns
returns c = lemmas.worked_boots
