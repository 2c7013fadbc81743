use Rattle.svsm_run_laws.proofs.CutOff as lemmas
use Rattle.svsm_run_laws.proofs.cut_calls_go_on.Goals as goal

pub returns : goal.returns
returns c = record { go_on = lemmas.cut_in_runs; ends = lemmas.faults_end_in_calls }
