use Rattle.std.proofs.Common.{◌≡◌, ◌-◌, ◌∙◌, get_or, drop, take, length-drop, take_all, arith}
use Rattle.report.specs.History.{entry_line}
use Rattle.report_check.proofs.AgreeLemmas.{lines_break, of_piece}
use Rattle.report_check.proofs.text.agree_entries.Goals as goal

pub returns-in-Err : goal.returns-in-Err
returns-in-Err c = lines_break entry_line c.args.entries.now _ c.loop-entry.entry-index c.args.report.now c.args.at c.loop-entry.end c.in-Err.place
    (omega (arith, c.loop-entry-test.true)) c.loop-entry.invariant
    (of_piece c.args.report.now _ _ c.loop-entry.end c.in-Err.place
    (take_all (256 - c.entry_before-from.result) (drop c.entry_before-from.result c.entry_before-from.new.line)
    (omega (arith, length-drop c.entry_before-from.result c.entry_before-from.new.line, c.entry_before-from.array_long2))
    ∙ c.entry_before-from.ensures.line) c.in-Err.ensures)
