use Rattle.save_boots.proofs.BootLemmas.{saved_runs_boot}
use Rattle.save_boots.proofs.saved_runs_boot.Goals as goal

pub returns : goal.returns
returns c = saved_runs_boot
