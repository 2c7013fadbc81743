use Rattle.image_text.proofs.ReadableLemmas.{saves_readable}
use Rattle.image_text.proofs.law.saves_readable.Goals as goal

pub returns : goal.returns
returns c = saves_readable
