-- A core's run and the tree of its script say the same. This module's own.
use Rattle.std.specs.Prelude.{⊤, ℕ, true, IsTrue, Option, None, Some, List, [], ◌∷◌}
use Rattle.svsm_types.specs.declared.image.HostLine.{HostLine}
use Rattle.svsm_types.specs.declared.request.Request.{Request}
use Rattle.svsm_steps.specs.declared.step.Step.{Step}
use Rattle.svsm_steps.specs.declared.answer.Answer.{Answer}
use Rattle.svsm_steps.specs.declared.call.Caller.{Caller}
use Rattle.svsm_steps.specs.declared.outcome.Outcome.{Outcome}
use Rattle.svsm_steps.specs.declared.outcome.CoreEnd.{CoreEnd}
use Rattle.svsm_steps.specs.Formed.{is_listed, may_fault}
use Rattle.svsm_steps.specs.Region.{fault_at}
use Rattle.svsm_steps.specs.Made.{Made}
use Rattle.svsm_calls.specs.Events.{Event}
use Rattle.svsm_calls.specs.CoreRun.{IsCoreRun}
use Rattle.svsm_calls.specs.World.{fresh_world, AreGiven}
use Rattle.run_trees.specs.Tree.{Tree, ended, requests_tree, Follows}

-- an answer is one that the step table lists, or a fault where the step may fault
abbrev pub CanAnswer : Option ℕ → Step → Answer → Type 0
CanAnswer None step answer = IsTrue (is_listed step answer)
CanAnswer (Some done) step answer = IsTrue (may_fault step)

abbrev pub AreAnswers : List Made → Type 0
AreAnswers [] = ⊤
AreAnswers (m ∷ made) = CanAnswer (fault_at m.answer) m.step m.answer × AreAnswers made

-- a core's run of its script, with what its world gave
pub record ReadsRun (lines : List HostLine) (caller : Caller) (script : List Request) (made : List Made) (outs : List Outcome) (end : CoreEnd) : Type 0 where
  pub events : List Event
  pub run : IsCoreRun caller script made events outs end
  pub given : AreGiven lines caller.core fresh_world events

-- the tree of a script after a core's Enter
abbrev pub script_tree : List HostLine → Caller → List Request → Tree
script_tree lines caller script = requests_tree lines script caller true fresh_world []

-- what leads along the tree to an end is a core's run
abbrev pub TreesAreRuns : Type 0
TreesAreRuns =
    (lines : List HostLine) (caller : Caller) (script : List Request) (made : List Made) (outs : List Outcome) (end : CoreEnd) → AreAnswers made
    → Follows (script_tree lines caller script) made (ended outs end) → ReadsRun lines caller script made outs end

-- and a core's run leads along it
abbrev pub RunsAreTrees : Type 0
RunsAreTrees =
    (lines : List HostLine) (caller : Caller) (script : List Request) (made : List Made) (outs : List Outcome) (end : CoreEnd)
    → ReadsRun lines caller script made outs end → Follows (script_tree lines caller script) made (ended outs end)

-- from each place of a tree an end can be reached, by answers that the steps may have
abbrev pub TreesEnd : Type 0
TreesEnd = (tree : Tree) → (made : List Made) × (outs : List Outcome) × (end : CoreEnd) × AreAnswers made × Follows tree made (ended outs end)
