use Rattle.std.proofs.Common.{◌-◌, ◌≤◌, length}
use Rattle.std.specs.Io.KnownBytes.{Consumes}
use Rattle.svsm_outside.proofs.file_shelf.read_all.Given as goal

abbrev pub invariant-reads : goal.invariant-reads
invariant-reads g l = (length l.bytes.items ≤ l.limit) × Consumes (g.F.Read.remaining l.fn.file) (g.F.Read.remaining l.file) l.bytes.items

abbrev pub decreases-reads : goal.decreases-reads
decreases-reads g l = l.limit - length l.bytes.items
