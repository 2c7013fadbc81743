use Rattle.std.proofs.Common.{◌≡◌, ◌+◌, ◌*◌, ◌≤◌, ◌++◌, length, drop}
use Rattle.std.specs.Prelude.{map, flat_map}
use Rattle.svsm_text.specs.Numbers.{number}
use Rattle.report.specs.Text.{spaced}
use Rattle.report.proofs.line.numbers_before.Given as goal

abbrev pub invariant-numbers : goal.invariant-numbers
invariant-numbers l = record {
  left : l.left ≤ length l.numbers;
  low : l.end + 19 * l.left ≤ l.at + 19 * length l.numbers;
  high : l.at ≤ l.end;
  len : length l.line ≡ 256;
  line : drop l.at l.line ≡ flat_map spaced (map number (drop l.left l.numbers)) ++ drop l.end l.initial.line;
}

abbrev pub decreases-numbers : goal.decreases-numbers
decreases-numbers l = l.left
