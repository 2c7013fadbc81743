use Rattle.save_laws.proofs.SavedRuns as lemmas
use Rattle.save_laws.proofs.saved_runs_come_back.Goals as goal

pub returns : goal.returns
returns c = lemmas.saved_runs_come_back
