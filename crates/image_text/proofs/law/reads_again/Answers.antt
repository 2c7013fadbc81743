use Rattle.image_text.proofs.AgainLemmas.{reads_again}
use Rattle.image_text.proofs.law.reads_again.Goals as goal

pub returns : goal.returns
returns c = reads_again
