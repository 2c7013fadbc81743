use Rattle.std.proofs.Common.{◌≡◌, ◌++◌, map, length}
use Rattle.svsm_text.specs.Lines.{fields}
use Rattle.svsm_text.proofs.fields.fields_of.Given as goal

abbrev pub invariant-fields : goal.invariant-fields
invariant-fields l = map (λ field. field.now) l.found.items ++ fields l.rest ≡ fields l.line

abbrev pub decreases-fields : goal.decreases-fields
decreases-fields l = length l.rest
