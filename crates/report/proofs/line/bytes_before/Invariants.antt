use Rattle.std.proofs.Common.{◌≡◌, ◌+◌, ◌≤◌, ◌++◌, length, drop}
use Rattle.report.proofs.line.bytes_before.Given as goal

abbrev pub invariant-bytes : goal.invariant-bytes
invariant-bytes l = record {
  left : l.left ≤ length l.bytes;
  at : l.at + length l.bytes ≡ l.end + l.left;
  len : length l.line ≡ 256;
  line : drop l.at l.line ≡ drop l.left l.bytes ++ drop l.end l.initial.line;
}

abbrev pub decreases-bytes : goal.decreases-bytes
decreases-bytes l = l.left
