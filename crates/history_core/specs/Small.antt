-- A history of the tests: four steps of two cores at the two places of no region.
use Rattle.std.specs.Prelude.{ℕ, List, [], ◌∷◌}
use Rattle.svsm_types.specs.declared.platform.Size.TheVariants.{Small}
use Rattle.svsm_steps.specs.declared.step.Step.TheVariants.{PoolPop}
use Rattle.svsm_steps.specs.declared.answer.Answer.TheVariants.{Empty}
use Rattle.svsm_steps.specs.declared.entry.Entry.{Entry}

abbrev pub popped : ℕ → ℕ → ℕ → Entry
popped ticket core place = record { ticket = ticket; core = core; place = place; step = PoolPop Small; answer = Empty 0 }

abbrev pub small : List Entry
small = popped 0 0 0 ∷ popped 1 1 1 ∷ popped 2 0 1 ∷ popped 3 1 0 ∷ []
