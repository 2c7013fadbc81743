use Rattle.image_text.proofs.PageLemmas.{tidy_pages_are_said}
use Rattle.image_text.proofs.law.tidy_pages_are_said.Goals as goal

pub returns : goal.returns
returns c = tidy_pages_are_said
