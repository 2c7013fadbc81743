-- The rows of the vCPUs over a history. This module's own.
use Rattle.std.specs.Prelude.{List, [], ◌∷◌}
use Rattle.svsm_types.specs.declared.image.CoreLine.{CoreLine}
use Rattle.svsm_types.specs.declared.vcpu.Row.{Row}
use Rattle.svsm_steps.specs.declared.entry.Entry.{Entry}
use Rattle.svsm_steps.specs.Machine.{Kind, kind, region, pool, registry}
use Rattle.svsm_steps.specs.Registry.{rows_after}

-- the rows after an entry, by the kind of its step: only steps of the registry change them
abbrev pub rows_by : Kind → List CoreLine → List Row → Entry → List Row
rows_by registry cores rows entry = rows_after cores rows entry.core entry.step
rows_by region cores rows entry = rows
rows_by pool cores rows entry = rows

-- the rows after these entries
abbrev pub rows_over : List CoreLine → List Row → List Entry → List Row
rows_over cores rows [] = rows
rows_over cores rows (entry ∷ entries) = rows_over cores (rows_by (kind entry.step) cores rows entry) entries
