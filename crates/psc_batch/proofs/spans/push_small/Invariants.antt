use Rattle.std.proofs.Common.{◌≡◌, ◌-◌, ◌++◌, map}
use Rattle.svsm_steps.specs.Image.{small_entries}
use Rattle.psc_batch.specs.Entries.{entry_word}
use Rattle.psc_batch.proofs.spans.push_small.Given as goal

abbrev pub invariant-pages : goal.invariant-pages
invariant-pages l = l.words.items ≡ l.fn.words.items ++ map entry_word (small_entries l.first (l.page - l.first))
