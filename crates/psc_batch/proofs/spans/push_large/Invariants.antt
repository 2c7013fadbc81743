use Rattle.std.proofs.Common.{◌≡◌, ◌-◌, ◌++◌, map}
use Rattle.svsm_steps.specs.Image.{large_entries}
use Rattle.psc_batch.specs.Entries.{entry_word}
use Rattle.psc_batch.proofs.spans.push_large.Given as goal

abbrev pub invariant-regions : goal.invariant-regions
invariant-regions l = l.words.items ≡ l.fn.words.items ++ map entry_word (large_entries l.from (l.region - l.from))
