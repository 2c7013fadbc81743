use Rattle.std.proofs.Common.{◌≡◌, ◌++◌, ◌+◌, ◌≤◌, length, take}
use Rattle.svsm_text.specs.Lines.{fields}
use Rattle.svsm_text.proofs.FieldLemmas.{texts}
use Rattle.svsm_text.proofs.fields.few_fields_of.Given as goal

abbrev pub invariant-fields : goal.invariant-fields
invariant-fields l = record {
  room : length l.found ≡ 8;
  few : l.count + 1 ≤ 8;
  read : texts (take l.count l.found) ++ fields l.rest ≡ fields l.line;
}

abbrev pub decreases-fields : goal.decreases-fields
decreases-fields l = length l.rest
