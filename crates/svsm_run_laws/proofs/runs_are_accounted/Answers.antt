use Rattle.svsm_run_laws.proofs.Accounted as lemmas
use Rattle.svsm_run_laws.proofs.runs_are_accounted.Goals as goal

pub returns : goal.returns
returns c = lemmas.runs_are_accounted
