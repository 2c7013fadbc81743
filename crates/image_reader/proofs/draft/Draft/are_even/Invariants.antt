use Rattle.std.proofs.Common.{◌≡◌, ℕ}
use Rattle.std.specs.Prelude.{true, not, ◌||◌}
use Rattle.std.specs.List.{list_all, range_with_len}
use Rattle.svsm_steps.specs.Image.{is_held_large}
use Rattle.image_grammar.specs.End.{is_even}
use Rattle.image_reader.proofs.draft.Draft.are_even.Given as goal

abbrev pub invariant-regions : goal.invariant-regions
invariant-regions l = record {
  even : list_all (λ (region : ℕ). not (is_held_large l.self.image region) || is_even l.self.image region) (range_with_len 0 l.region) ≡ true;
}
