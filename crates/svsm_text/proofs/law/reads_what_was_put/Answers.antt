use Rattle.svsm_text.proofs.NumberLemmas.{read_again}
use Rattle.svsm_text.proofs.law.reads_what_was_put.Goals as goal

pub returns : goal.returns
returns c = λ value small. read_again value small
