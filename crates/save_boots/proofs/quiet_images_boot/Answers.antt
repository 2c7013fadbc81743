use Rattle.save_boots.proofs.BootLemmas.{quiet_images_boot}
use Rattle.save_boots.proofs.quiet_images_boot.Goals as goal

pub returns : goal.returns
returns c = quiet_images_boot
