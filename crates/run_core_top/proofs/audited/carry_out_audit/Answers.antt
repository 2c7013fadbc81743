use Rattle.std.proofs.Common.{[], ◌∷◌}
use Rattle.std.proofs.lemmas.Result.{err_from_is_err_and}
use Rattle.command_words.specs.Seen.{run_seen, audit_seen}
use Rattle.run_core_top.specs.Task.{audited_files}
use Rattle.run_core_top.specs.Asked.{run_names}
use Rattle.run_core_top.proofs.AskedLemmas.{all_asked, front_first, front_more, both_asked, run_front, run_all}
use Rattle.run_core_top.proofs.audited.carry_out_audit.Goals as goal

pub returns-in_err-files-clause-asked : goal.returns-in_err-files-clause-asked
returns-in_err-files-clause-asked g c =
    let p = err_from_is_err_and c.from_residual-in_err-files.result c.from_residual-in_err-files.ensures.1 in
    rw p.1
    (front_first (run_names (audited_files (audit_seen c.args.words.now))) (c.args.words.now.report.now ∷ []) (g.S.Shelf.seen c.args.shelf.now)
    (g.S.Shelf.seen c.load_files.new.shelf)
    (run_front (run_seen c.in_ok-run.run') (audited_files (audit_seen c.args.words.now)) (g.S.Shelf.seen c.args.shelf.now) (g.S.Shelf.seen c.load_files.new.shelf)
    c.in_ok-run.ensures c.in_err-files.ensures.asked))

pub returns-in_err-report-clause-asked : goal.returns-in_err-report-clause-asked
returns-in_err-report-clause-asked g c =
    let p = err_from_is_err_and c.from_residual-in_err-report.result c.from_residual-in_err-report.ensures.1 in
    rw p.1
    (front_more (run_names (audited_files (audit_seen c.args.words.now))) (c.args.words.now.report.now ∷ []) (g.S.Shelf.seen c.args.shelf.now)
    (g.S.Shelf.seen c.load_files.new.shelf) (g.S.Shelf.seen c.load_report.new.shelf)
    (run_all (run_seen c.in_ok-run.run') (audited_files (audit_seen c.args.words.now)) (g.S.Shelf.seen c.args.shelf.now) (g.S.Shelf.seen c.load_files.new.shelf)
    c.in_ok-run.ensures c.in_ok-files.ensures.asked)
    c.in_err-report.ensures.asked)

pub returns-in-Err-NoMemory-clause-asked : goal.returns-in-Err-NoMemory-clause-asked
returns-in-Err-NoMemory-clause-asked g c =
    all_asked _ (g.S.Shelf.seen c.args.shelf.now) (g.S.Shelf.seen c.load_report.new.shelf)
    (both_asked (run_names (audited_files (audit_seen c.args.words.now))) (c.args.words.now.report.now ∷ []) (g.S.Shelf.seen c.args.shelf.now)
    (g.S.Shelf.seen c.load_files.new.shelf) (g.S.Shelf.seen c.load_report.new.shelf)
    (run_all (run_seen c.in_ok-run.run') (audited_files (audit_seen c.args.words.now)) (g.S.Shelf.seen c.args.shelf.now) (g.S.Shelf.seen c.load_files.new.shelf)
    c.in_ok-run.ensures c.in_ok-files.ensures.asked)
    c.in_ok-report.ensures.asked)

pub returns-in_err-text-clause-asked : goal.returns-in_err-text-clause-asked
returns-in_err-text-clause-asked g c =
    let p = err_from_is_err_and c.from_residual-in_err-text.result c.from_residual-in_err-text.ensures.1 in
    rw p.1
    (all_asked _ (g.S.Shelf.seen c.args.shelf.now) (g.S.Shelf.seen c.load_report.new.shelf)
    (both_asked (run_names (audited_files (audit_seen c.args.words.now))) (c.args.words.now.report.now ∷ []) (g.S.Shelf.seen c.args.shelf.now)
    (g.S.Shelf.seen c.load_files.new.shelf) (g.S.Shelf.seen c.load_report.new.shelf)
    (run_all (run_seen c.in_ok-run.run') (audited_files (audit_seen c.args.words.now)) (g.S.Shelf.seen c.args.shelf.now) (g.S.Shelf.seen c.load_files.new.shelf)
    c.in_ok-run.ensures c.in_ok-files.ensures.asked)
    c.in_ok-report.ensures.asked))
