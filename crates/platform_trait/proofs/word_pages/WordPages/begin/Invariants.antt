use Rattle.std.proofs.Common.{◌≡◌, ℕ, length, ◌-◌}
use Rattle.platform_trait.specs.WordsOf.{words_of, has_room}
use Rattle.platform_trait.proofs.word_pages.WordPages.begin.Given as goal

abbrev pub invariant-pages : goal.invariant-pages
invariant-pages l = record {
  room : has_room l.self ≡ has_room l.fn.self;
  words : (region : ℕ) → words_of region l.self ≡ words_of region l.fn.self;
}

abbrev pub decreases-pages : goal.decreases-pages
decreases-pages l = 512 - length l.self.pages.items
