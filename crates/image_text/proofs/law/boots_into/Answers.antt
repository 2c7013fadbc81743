use Rattle.image_text.proofs.BootLemmas.{boots_into}
use Rattle.image_text.proofs.law.boots_into.Goals as goal

pub returns : goal.returns
returns c = boots_into
