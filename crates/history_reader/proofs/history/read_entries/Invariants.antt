use Rattle.std.proofs.Common.{◌≤◌, ◌+◌, length, drop}
use Rattle.svsm_text.specs.Lines.{lines}
use Rattle.history_reader.proofs.ReadLemmas.{Leaves}
use Rattle.history_reader.proofs.history.read_entries.Given as goal

abbrev pub invariant-entries : goal.invariant-entries
invariant-entries l = record {
  within : l.at ≤ length l.report;
  few : l.number ≤ l.at + 1;
  leaves : Leaves l.regions l.fn.first l.fn.count (lines (drop l.fn.from l.report)) l.number l.left (lines (drop l.at l.report)) l.entries.items;
}

abbrev pub decreases-entries : goal.decreases-entries
decreases-entries l = l.left
