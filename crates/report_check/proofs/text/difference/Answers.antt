use Rattle.std.specs.Prelude.{◌++◌, flat_map}
use Rattle.report.specs.History.{entry_line}
use Rattle.report_check.proofs.AgreeLemmas.{whole_differs}
use Rattle.report_check.proofs.text.difference.Goals as goal

pub returns-in-Err : goal.returns-in-Err
returns-in-Err c = whole_differs c.args.report.now (c.args.head.now ++ (flat_map entry_line c.args.entries.now ++ c.args.tail.now)) c.in-Err.place c.in-Err.ensures
