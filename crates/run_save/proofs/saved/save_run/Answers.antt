use Rattle.std.proofs.Common.{◌∙◌, ap, List}
use Rattle.svsm_steps.specs.declared.outcome.CoreRun.{CoreRun}
use Rattle.image_text.specs.Refused.{save_told}
use Rattle.save_laws.specs.Saved.{last_state}
use Rattle.image_save.proofs.CallerLemmas.{bits_stand, rows_stand}
use Rattle.run_save.proofs.SavedLemmas.{stands_here, told_on, fits_on}
use Rattle.run_save.proofs.saved.save_run.Goals as goal

pub save-requires-clause-stand : goal.save-requires-clause-stand
save-requires-clause-stand c =
    (stands_here c.args.image.now c.args.run.now.trace c.args.run.now.places.items c.deref.result.now c.deref.ensures.value c.requires.most c.requires.begun c.requires.stand).are

pub save-requires-clause-bits : goal.save-requires-clause-bits
save-requires-clause-bits c =
    bits_stand c.args.image.now (last_state c.args.image.now c.args.run.now.trace) c.deref.result.now
    (stands_here c.args.image.now c.args.run.now.trace c.args.run.now.places.items c.deref.result.now c.deref.ensures.value c.requires.most c.requires.begun c.requires.stand)
    c.requires.consistent

pub save-requires-clause-rows : goal.save-requires-clause-rows
save-requires-clause-rows c =
    rows_stand c.args.image.now (last_state c.args.image.now c.args.run.now.trace) c.deref.result.now
    (stands_here c.args.image.now c.args.run.now.trace c.args.run.now.places.items c.deref.result.now c.deref.ensures.value c.requires.most c.requires.begun c.requires.stand)
    c.requires.consistent

pub returns-clause-told : goal.returns-clause-told
returns-clause-told c =
    let image = c.args.image.now in
    let run = c.args.run.now in
    told_on (λ text. text.items) c.save.result _ _
    ((stands_here image run.trace run.places.items c.deref.result.now c.deref.ensures.value c.requires.most c.requires.begun c.requires.stand).told
    c.as_slice.result.now run.refused
    ∙ ap (λ (cores : List CoreRun). save_told image cores run.refused (last_state image run.trace)) c.as_slice.ensures)
    c.save.ensures.told

pub returns-clause-fits : goal.returns-clause-fits
returns-clause-fits c =
    let image = c.args.image.now in
    let run = c.args.run.now in
    fits_on c.save.result _ _
    (stands_here image run.trace run.places.items c.deref.result.now c.deref.ensures.value c.requires.most c.requires.begun c.requires.stand).fits
    c.save.ensures.fits
