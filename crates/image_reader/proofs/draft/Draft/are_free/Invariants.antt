use Rattle.std.proofs.Common.{◌≡◌, ℕ}
use Rattle.std.specs.Prelude.{true, not, ◌||◌}
use Rattle.std.specs.List.{list_all, range_with_len}
use Rattle.svsm_steps.specs.Image.{range_of}
use Rattle.svsm_steps.specs.Sound.{is_accepted}
use Rattle.image_grammar.specs.End.{is_guest_shared}
use Rattle.image_reader.proofs.draft.Draft.are_free.Given as goal

abbrev pub invariant-pages : goal.invariant-pages
invariant-pages l = record {
  free : list_all (λ (page : ℕ). not (is_accepted l.self.image page) || is_guest_shared (range_of l.self.image page)) (range_with_len 0 l.page) ≡ true;
}
