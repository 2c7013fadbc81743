use Rattle.svsm_audit.proofs.BootLemmas.{boots_of}
use Rattle.svsm_audit.proofs.boots.boot.Goals as goal

pub returns-clause-boots : goal.returns-clause-boots
returns-clause-boots c = boots_of c.args.image.now c.boot_image.result c.boot_image.ensures.ends
