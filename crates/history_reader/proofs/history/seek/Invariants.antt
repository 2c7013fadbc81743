use Rattle.std.proofs.Common.{◌≤◌, ◌+◌, ◌-◌, length, drop}
use Rattle.svsm_text.specs.Lines.{lines}
use Rattle.history_reader.proofs.ReadLemmas.{Seeks}
use Rattle.history_reader.proofs.history.seek.Given as goal

abbrev pub invariant-lines : goal.invariant-lines
invariant-lines l = record {
  within : l.at ≤ length l.report;
  few : l.number ≤ l.at + 1;
  seeks : Seeks l.regions (lines l.report) l.number (lines (drop l.at l.report));
}

abbrev pub decreases-lines : goal.decreases-lines
decreases-lines l = length l.report - l.at
