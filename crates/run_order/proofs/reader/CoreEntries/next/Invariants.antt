use Rattle.std.proofs.Common.{◌≡◌, ◌≤◌, ◌-◌, length}
use Rattle.run_order.specs.Finds.{made_before}
use Rattle.run_order.proofs.reader.CoreEntries.next.Given as goal

abbrev pub invariant-seek : goal.invariant-seek
invariant-seek l = record {
  rises : l.from ≤ l.at;
  first : made_before l.self.core l.self.entries.now l.at ≡ made_before l.self.core l.self.entries.now l.from;
}

abbrev pub decreases-seek : goal.decreases-seek
decreases-seek l = length l.self.entries.now - l.at
