use Rattle.std.proofs.Common.{take}
use Rattle.std.specs.Prelude.{flat_map}
use Rattle.report.specs.History.{entry_line}
use Rattle.report_check.specs.Agrees.{AgreesTo}
use Rattle.report_check.proofs.text.agree_entries.Given as goal

abbrev pub invariant-loop-entry : goal.invariant-loop-entry
invariant-loop-entry l = AgreesTo l.report l.at (flat_map entry_line (take l.entry-index l.entries)) l.end
