-- What a core may still ask, by what it is answered, with its world's polls and run answers filled in: a core's run after its Enter, as
-- a tree. This module's own.
use Rattle.std.specs.Prelude.{◌≡◌, ℕ, ◌+◌, Bool, true, false, ◌==◌, if◌then◌else◌, Option, None, Some, List, [], ◌∷◌, ◌++◌}
use Rattle.svsm_types.specs.Pages.{page_of, is_in_map}
use Rattle.svsm_types.specs.declared.address.Gpa.{Gpa}
use Rattle.svsm_types.specs.declared.image.HostLine.{HostLine}
use Rattle.svsm_types.specs.declared.request.Request.{Request}
use Rattle.svsm_types.specs.declared.request.Request.TheVariants as requests
use Rattle.svsm_steps.specs.declared.step.Step.{Step}
use Rattle.svsm_steps.specs.declared.step.Step.TheVariants.{GuestWrite, GuestRead, GuestAdjust, HostShare, HostAssign, Leave}
use Rattle.svsm_steps.specs.declared.answer.Answer.{Answer}
use Rattle.svsm_steps.specs.declared.call.Caller.{Caller}
use Rattle.svsm_steps.specs.declared.outcome.Outcome.{Outcome}
use Rattle.svsm_steps.specs.declared.outcome.Outcome.TheVariants as outcomes
use Rattle.svsm_steps.specs.declared.outcome.CoreEnd.{CoreEnd}
use Rattle.svsm_steps.specs.declared.outcome.CoreEnd.TheVariants as ends
use Rattle.svsm_steps.specs.Region.{fault_at}
use Rattle.svsm_steps.specs.Made.{Made}
use Rattle.svsm_calls.specs.Dialogue.{Dialogue, ask, poll, reply, spurious}
use Rattle.svsm_calls.specs.Calls.{whole_call}
use Rattle.svsm_calls.specs.CoreRun.{area_by, step_outcome, run_value, is_run_answer}
use Rattle.svsm_calls.specs.World.{Scripted, run_answer}

-- a core asks for a step, and goes on by its ticket and its answer; or it is at its end, with these outcomes
pub data Tree : Type 0 where
  wants : Step → (ℕ → Answer → Tree) → Tree
  ended : List Outcome → CoreEnd → Tree

-- a fault ends the core
abbrev pub unless_fault : Option ℕ → ℕ → List Outcome → Tree → Tree
unless_fault None ticket given rest = rest
unless_fault (Some done) ticket given rest = ended given (ends.Faulted ticket)

-- a call: its world answers the polls, and then the core goes on from its outcome, its calling area and its world
abbrev pub call_tree : List Outcome → Dialogue → Gpa → Scripted → (Outcome → Gpa → Scripted → Tree) → Tree
call_tree given (ask step rest) area world more =
    wants step (λ ticket answer. unless_fault (fault_at answer) ticket given (call_tree given (rest answer) (area_by step area) world more))
call_tree given (poll rest) area world more =
    call_tree given (rest (world.polls + 1 == world.wanted)) area (record { wanted = world.wanted; polls = world.polls + 1; runs = world.runs }) more
call_tree given (reply regs) area world more = more (outcomes.Reply regs) area world
call_tree given spurious area world more = more outcomes.Spurious area world

-- the outcome of a step that is no call's; other answers are not listed for it
abbrev pub plain_outcome : Option Outcome → Outcome
plain_outcome None = outcomes.Denied
plain_outcome (Some outcome) = outcome

-- a request that is one step: where its page is not in the map it is denied
abbrev pub step_tree : Bool → Step → (Outcome → Tree) → Tree
step_tree true step more = wants step (λ ticket answer. more (plain_outcome (step_outcome answer)))
step_tree false step more = more outcomes.Denied

-- a request, after its run request
abbrev pub request_tree : Caller → Scripted → List Outcome → Request → (Caller → Bool → Scripted → Outcome → Tree) → Tree
request_tree now world given (requests.Call regs number) more =
    call_tree given (whole_call true now regs) now.caa (record { wanted = number; polls = 0; runs = world.runs })
    (λ outcome area after. more (record now { caa = area }) true after outcome)
request_tree now world given (requests.Exit regs number) more =
    call_tree given (whole_call false now regs) now.caa (record { wanted = number; polls = 0; runs = world.runs })
    (λ outcome area after. more (record now { caa = area }) true after outcome)
request_tree now world given (requests.Write vmpl gpa word) more =
    step_tree (is_in_map now.regions (page_of gpa.0)) (GuestWrite vmpl gpa word) (λ outcome. more now false world outcome)
request_tree now world given (requests.Read vmpl gpa) more =
    step_tree (is_in_map now.regions (page_of gpa.0)) (GuestRead vmpl gpa) (λ outcome. more now false world outcome)
request_tree now world given (requests.Adjust vmpl page target mask) more =
    step_tree (is_in_map now.regions page.0) (GuestAdjust vmpl page target mask) (λ outcome. more now false world outcome)
request_tree now world given (requests.Share page) more =
    step_tree (is_in_map now.regions page.0) (HostShare page) (λ outcome. more now false world outcome)
request_tree now world given (requests.Assign page) more =
    step_tree (is_in_map now.regions page.0) (HostAssign page) (λ outcome. more now false world outcome)

-- a run request where one is due: a wrong answer ends the core
abbrev pub run_tree : Bool → Caller → List HostLine → Scripted → List Outcome → (Scripted → Tree) → Tree
run_tree false now lines world given more = more world
run_tree true now lines world given more =
    let got = run_answer lines now.core world.runs in
    if is_run_answer got
    then more (record { wanted = world.wanted; polls = world.polls; runs = world.runs + 1 })
    else ended given (ends.Host (run_value now) got)

-- the requests that are left, and then Leave
abbrev pub requests_tree : List HostLine → List Request → Caller → Bool → Scripted → List Outcome → Tree
requests_tree lines [] now due world given = wants (Leave now.apic) (λ ticket answer. ended given ends.Done)
requests_tree lines (request ∷ script) now due world given =
    run_tree due now lines world given
    (λ world. request_tree now world given request
    (λ after due world outcome. requests_tree lines script after due world (given ++ outcome ∷ [])))

-- what is asked first
abbrev pub asked_of : Tree → Option Step
asked_of (wants step more) = Some step
asked_of (ended given end) = None

-- what may still follow once a step was made; at an end nothing changes
abbrev pub tree_after : Tree → ℕ → Answer → Tree
tree_after (wants step more) ticket answer = more ticket answer
tree_after (ended given end) ticket answer = ended given end

-- these steps lead from one tree to another
abbrev pub Follows : Tree → List Made → Tree → Type 0
Follows tree [] end = end ≡ tree
Follows tree (made ∷ more) end = (asked_of tree ≡ Some made.step) × Follows (tree_after tree made.ticket made.answer) more end
