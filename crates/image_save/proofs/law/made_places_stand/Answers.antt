use Rattle.image_save.proofs.StoodLemmas.{made_places_stand}
use Rattle.image_save.proofs.law.made_places_stand.Goals as goal

pub returns : goal.returns
returns c = made_places_stand
