use Rattle.std.proofs.Common.{subst, refl}
use Rattle.std.proofs.lemmas.Result.{err_from_is_err_and}
use Rattle.command_words.specs.Words.{Run}
use Rattle.command_words.specs.Seen.{run_seen, save_seen}
use Rattle.run_core_top.specs.Files.{AreFiles}
use Rattle.run_core_top.specs.Task.{of_saved, saved_files}
use Rattle.run_core_top.proofs.TopLemmas.{saved_so, unsaved_so, ends_consistent, keeps_laws}
use Rattle.run_core_top.proofs.AskedLemmas.{all_asked, run_all}
use Rattle.run_core_top.proofs.carried.carry_out_saved.Goals as goal

pub returns-in-Ok-clause-report : goal.returns-in-Ok-clause-report
returns-in-Ok-clause-report g c =
    saved_so (g.S.Shelf.seen c.args.shelf.now).told (save_seen c.args.words.now) (run_seen c.in_ok-run.run') c.in_ok-files.files.image c.in_ok-files.files.scripts
    c.as_slice-scripts.result.now c.in_ok-whole.whole.trace c.in_ok-whole.whole.cores c.in_ok-whole.whole.exits c.in_ok-whole.whole.refused c.in-Ok.text.items
    c.in_ok-run.ensures c.in_ok-files.ensures.files c.in_ok-whole.ensures.boots c.as_slice-scripts.ensures c.in_ok-whole.ensures.run c.in_ok-whole.ensures.safe
    c.in-Ok.ensures.told c.in_ok-files.ensures.sound c.in_ok-files.ensures.formed c.in-Ok.ensures.fits

pub returns-in-Ok-clause-laws : goal.returns-in-Ok-clause-laws
returns-in-Ok-clause-laws g c =
    keeps_laws (g.S.Shelf.seen c.args.shelf.now).told (of_saved (save_seen c.args.words.now)) c.in_ok-files.files.image c.in_ok-files.files.scripts
    c.as_slice-scripts.result.now c.in_ok-whole.whole.trace c.in_ok-whole.whole.trace c.in_ok-whole.whole.cores c.in_ok-whole.whole.exits c.in_ok-whole.whole.refused
    (subst (λ (one : Run). AreFiles (g.S.Shelf.seen c.args.shelf.now).told one c.in_ok-files.files.image c.in_ok-files.files.scripts) c.in_ok-run.ensures c.in_ok-files.ensures.files)
    c.in_ok-files.ensures.sound c.in_ok-files.ensures.formed c.as_slice-scripts.ensures c.in_ok-whole.ensures.run refl

pub save_run-requires-clause-consistent : goal.save_run-requires-clause-consistent
save_run-requires-clause-consistent g c =
    ends_consistent c.in_ok-files.files.image c.in_ok-files.files.scripts c.as_slice-scripts.result.now c.in_ok-whole.whole.trace c.in_ok-whole.whole.cores
    c.in_ok-whole.whole.exits c.in_ok-whole.whole.refused c.in_ok-files.ensures.sound c.in_ok-files.ensures.formed c.as_slice-scripts.ensures c.in_ok-whole.ensures.run

pub returns-clause-unsaved : goal.returns-clause-unsaved
returns-clause-unsaved g c =
    unsaved_so (g.S.Shelf.seen c.args.shelf.now).told (save_seen c.args.words.now) (run_seen c.in_ok-run.run') c.in_ok-files.files.image c.in_ok-files.files.scripts
    c.as_slice-scripts.result.now c.in_ok-whole.whole.trace c.in_ok-whole.whole.cores c.in_ok-whole.whole.exits c.in_ok-whole.whole.refused c.in-Err.error
    c.in_ok-run.ensures c.in_ok-files.ensures.files c.in_ok-whole.ensures.boots c.as_slice-scripts.ensures c.in_ok-whole.ensures.run c.in_ok-whole.ensures.safe
    c.in_default.not-NoMemory c.in-Err.ensures.told

pub returns-clause-laws : goal.returns-clause-laws
returns-clause-laws g c =
    keeps_laws (g.S.Shelf.seen c.args.shelf.now).told (of_saved (save_seen c.args.words.now)) c.in_ok-files.files.image c.in_ok-files.files.scripts
    c.as_slice-scripts.result.now c.in_ok-whole.whole.trace c.in_ok-whole.whole.trace c.in_ok-whole.whole.cores c.in_ok-whole.whole.exits c.in_ok-whole.whole.refused
    (subst (λ (one : Run). AreFiles (g.S.Shelf.seen c.args.shelf.now).told one c.in_ok-files.files.image c.in_ok-files.files.scripts) c.in_ok-run.ensures c.in_ok-files.ensures.files)
    c.in_ok-files.ensures.sound c.in_ok-files.ensures.formed c.as_slice-scripts.ensures c.in_ok-whole.ensures.run refl

pub returns-in_err-whole-clause-asked : goal.returns-in_err-whole-clause-asked
returns-in_err-whole-clause-asked g c =
    let p = err_from_is_err_and c.from_residual-in_err-whole.result c.from_residual-in_err-whole.ensures.1 in
    rw p.1
    (all_asked _ (g.S.Shelf.seen c.args.shelf.now) (g.S.Shelf.seen c.load_files.new.shelf)
    (run_all (run_seen c.in_ok-run.run') (saved_files (save_seen c.args.words.now)) (g.S.Shelf.seen c.args.shelf.now) (g.S.Shelf.seen c.load_files.new.shelf)
    c.in_ok-run.ensures c.in_ok-files.ensures.asked))

pub returns-in-NoMemory-clause-asked : goal.returns-in-NoMemory-clause-asked
returns-in-NoMemory-clause-asked g c =
    all_asked _ (g.S.Shelf.seen c.args.shelf.now) (g.S.Shelf.seen c.load_files.new.shelf)
    (run_all (run_seen c.in_ok-run.run') (saved_files (save_seen c.args.words.now)) (g.S.Shelf.seen c.args.shelf.now) (g.S.Shelf.seen c.load_files.new.shelf)
    c.in_ok-run.ensures c.in_ok-files.ensures.asked)
