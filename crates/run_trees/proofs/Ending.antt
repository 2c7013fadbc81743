-- From each place of a tree an end can be reached.
use Rattle.std.proofs.Common.{◌≡◌, [], ◌∷◌, refl, None}
use Rattle.svsm_steps.specs.declared.step.Step.{Step}
use Rattle.svsm_steps.specs.declared.step.Step.TheVariants as steps
use Rattle.svsm_steps.specs.declared.answer.Answer.{Answer}
use Rattle.svsm_steps.specs.declared.answer.Answer.TheVariants as answers
use Rattle.svsm_steps.specs.Region.{fault_at}
use Rattle.run_trees.specs.Tree.{wants, ended}
use Rattle.run_trees.specs.Laws.{CanAnswer, TreesEnd}

-- an answer that the step table lists, none of them a fault
abbrev Given : Step → Type 0
Given step = (answer : Answer) × (fault_at answer ≡ None) × CanAnswer (fault_at answer) step answer

some_answer : (step : Step) → Given step
some_answer (steps.GuestRead vmpl gpa) = (answers.Denied, refl, refl)
some_answer (steps.TakePending vmpl gpa) = (answers.Refused, refl, refl)
some_answer (steps.LoadWord vmpl gpa) = (answers.Refused, refl, refl)
some_answer (steps.PoolPush page size) = (answers.Held 0, refl, refl)
some_answer (steps.PoolPop size) = (answers.Empty 0, refl, refl)
some_answer (steps.Enter apic) = (answers.Unknown, refl, refl)
some_answer step = (answers.Done, refl, refl)

pub can_end : TreesEnd
can_end (ended outs end) = ([], outs, end, tt, refl)
can_end (wants step more) =
    let given = some_answer step in
    let rest = can_end (more 0 given.0) in
    (record { ticket = 0; step = step; answer = given.0 } ∷ rest.0, rest.1, rest.2, (given.2, rest.3), (refl, rest.4))
