use Rattle.std.proofs.Common.{ℕ, refl, sym, ◌∙◌}
use Rattle.std.specs.Prelude.{not, ◌||◌}
use Rattle.svsm_steps.specs.Image.{is_held_large}
use Rattle.image_grammar.specs.End.{is_even}
use Rattle.image_reader.proofs.TableLemmas.{all_next, not_all}
use Rattle.image_reader.proofs.draft.Draft.are_even.Goals as goal

pub regions-preserved : goal.regions-preserved
regions-preserved c =
    let image = c.args.self.now.image in
    record { even = all_next (λ (region : ℕ). not (is_held_large image region) || is_even image region) c.regions.region c.regions.invariant.even (sym c.is_right_region.ensures ∙ c.if-not-is_right_region.false) }

pub returns-then-not-is_right_region : goal.returns-then-not-is_right_region
returns-then-not-is_right_region c =
    let image = c.args.self.now.image in
    sym (not_all (λ (region : ℕ). not (is_held_large image region) || is_even image region) _ c.regions.region _ refl c.regions-test.true (sym c.is_right_region.ensures ∙ c.if-not-is_right_region.true))
