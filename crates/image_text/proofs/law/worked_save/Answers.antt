use Rattle.image_text.proofs.WorkedLemmas.{worked_save}
use Rattle.image_text.proofs.law.worked_save.Goals as goal

pub returns : goal.returns
returns c = worked_save
