use Rattle.save_laws.proofs.EndsLarge as lemmas
use Rattle.save_laws.proofs.ends_with_large_blocks.Goals as goal

pub returns : goal.returns
returns c = lemmas.ends_with_large_blocks
