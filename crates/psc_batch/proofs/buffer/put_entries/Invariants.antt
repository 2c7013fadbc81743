use Rattle.std.proofs.Common.{◌≡◌, ◌+◌, ◌*◌, drop}
use Rattle.psc_batch.specs.Exchange.{with_entries}
use Rattle.psc_batch.proofs.buffer.put_entries.Given as goal

abbrev pub invariant-all : goal.invariant-all
invariant-all l = record {
  place : l.at ≡ 0x808 + 8 * l.entry-index;
  rest : with_entries l.at (drop l.entry-index l.entries) l.bytes ≡ with_entries 0x808 l.entries l.fn.bytes;
}
