use Rattle.std.proofs.Common.{◌≡◌, take}
use Rattle.psc_batch.specs.Entries.{entry_words}
use Rattle.psc_batch.proofs.spans.all_words.Given as goal

abbrev pub invariant-spans : goal.invariant-spans
invariant-spans l = l.words.items ≡ entry_words (take l.span-index l.spans)
