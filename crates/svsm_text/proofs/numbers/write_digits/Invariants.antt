use Rattle.std.proofs.Common.{◌≡◌, ◌+◌, ◌-◌, ◌^◌, ◌≤◌, ◌<◌, ◌++◌, false, length, drop}
use Rattle.std.specs.Fmt.{digits, digits_onto}
use Rattle.svsm_text.proofs.numbers.write_digits.Given as goal

abbrev pub invariant-digits : goal.invariant-digits
invariant-digits l = record {
  low : l.end ≤ l.at + 16;
  high : l.at + 1 ≤ l.end;
  len : length l.text ≡ length l.initial.text;
  small : l.rest < 16 ^ (l.at + 17 - l.end);
  same : digits_onto (l.at + 65 - l.end) 16 false l.rest (drop (l.at + 1) l.text) ≡ digits 16 false l.value ++ drop l.end l.initial.text;
}

abbrev pub decreases-digits : goal.decreases-digits
decreases-digits l = l.at
