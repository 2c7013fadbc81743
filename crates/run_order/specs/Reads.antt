-- How far the entries of a core lead along the tree of its script. This module's own.
use Rattle.std.specs.Prelude.{◌≡◌, ℕ, ◌≤◌, ◌+◌, Bool, List, Some}
use Rattle.svsm_types.specs.declared.address.Gpa.{Gpa}
use Rattle.svsm_types.specs.declared.call.Regs.{Regs}
use Rattle.svsm_types.specs.declared.image.HostLine.{HostLine}
use Rattle.svsm_types.specs.declared.request.Request.{Request}
use Rattle.svsm_types.specs.Pages.{is_in_map}
use Rattle.svsm_steps.specs.declared.step.Step.{Step}
use Rattle.svsm_steps.specs.declared.entry.Entry.{Entry}
use Rattle.svsm_steps.specs.declared.call.Caller.{Caller}
use Rattle.svsm_steps.specs.declared.outcome.Outcome.{Outcome}
use Rattle.svsm_steps.specs.declared.outcome.CoreEnd.TheVariants as ends
use Rattle.svsm_calls.specs.Calls.{whole_call}
use Rattle.svsm_calls.specs.CoreRun.{is_call}
use Rattle.svsm_calls.specs.World.{Scripted}
use Rattle.run_trees.specs.Tree.{Tree, ended, call_tree, step_tree, request_tree, run_tree, asked_of, Follows}
use Rattle.run_trees.specs.Laws.{script_tree}
use Rattle.run_order.specs.declared.reader.Stop.{Stop}
use Rattle.run_order.specs.declared.call.CallEnd.{CallEnd}
use Rattle.run_order.specs.declared.call.CallEnd.TheVariants as calls
use Rattle.run_order.specs.declared.request.PieceEnd.{PieceEnd}
use Rattle.run_order.specs.declared.request.PieceEnd.TheVariants as pieces
use Rattle.run_order.specs.declared.core_read.Asked.{Asked}
use Rattle.run_order.specs.declared.core_read.Asked.TheVariants as asks
use Rattle.run_order.specs.declared.core_read.CoreRead.{CoreRead}
use Rattle.run_order.specs.declared.core_read.CoreRead.TheVariants as reads
use Rattle.run_order.specs.Finds.{made_before, StopsAt, GoesOn}

-- what the core made before one index leads to one tree; then what it made before another leads to another tree
abbrev pub Leads : ℕ → List Entry → ℕ → ℕ → Tree → Tree → Type 0
Leads core entries old new from to =
    (root : Tree) → Follows root (made_before core entries old) from → Follows root (made_before core entries new) to

-- the entries lead to a place where a step is asked that the core's next entry is not
pub record Stops (core : ℕ) (entries : List Entry) (old new : ℕ) (from : Tree) (stop : Stop) : Type 0 where
  pub to : Tree
  pub step : Step
  pub leads : Leads core entries old new from to
  pub asks : asked_of to ≡ Some step
  pub stops : StopsAt core entries new step stop

-- a call was read so far, whatever its core's outcomes and run requests before it, and whatever follows it
abbrev pub CallReads : ℕ → List Entry → Bool → Caller → Regs → ℕ → ℕ → CallEnd → ℕ → Type 0
CallReads core entries pend caller regs number old (calls.Over area outcome) new =
    GoesOn core entries old new
    × ((given : List Outcome) (runs : ℕ) (more : Outcome → Gpa → Scripted → Tree) → (polls : ℕ)
    × Leads core entries old new
    (call_tree given (whole_call pend caller regs) caller.caa (record { wanted = number; polls = 0; runs = runs }) more)
    (more outcome area (record { wanted = number; polls = polls; runs = runs })))
CallReads core entries pend caller regs number old (calls.Faulted ticket) new =
    GoesOn core entries old new
    × ((given : List Outcome) (runs : ℕ) (more : Outcome → Gpa → Scripted → Tree)
    → Leads core entries old new
    (call_tree given (whole_call pend caller regs) caller.caa (record { wanted = number; polls = 0; runs = runs }) more)
    (ended given (ends.Faulted ticket)))
CallReads core entries pend caller regs number old (calls.Stopped stop) new =
    (given : List Outcome) (runs : ℕ) (more : Outcome → Gpa → Scripted → Tree)
    → Stops core entries old new
    (call_tree given (whole_call pend caller regs) caller.caa (record { wanted = number; polls = 0; runs = runs }) more) stop

-- a guest or host step was read
abbrev pub StepReads : ℕ → List Entry → Caller → ℕ → Step → ℕ → PieceEnd → ℕ → Type 0
StepReads core entries now page step old (pieces.Done area outcome) new =
    GoesOn core entries old new × (area ≡ now.caa)
    × ((more : Outcome → Tree) → Leads core entries old new (step_tree (is_in_map now.regions page) step more) (more outcome))
StepReads core entries now page step old (pieces.Faulted ticket) new = ⊥
StepReads core entries now page step old (pieces.Stopped stop) new =
    (more : Outcome → Tree) → Stops core entries old new (step_tree (is_in_map now.regions page) step more) stop

-- a request was read so far; its world has made no further run request
abbrev pub RequestReads : ℕ → List Entry → Caller → Request → ℕ → PieceEnd → ℕ → Type 0
RequestReads core entries now request old (pieces.Done area outcome) new =
    GoesOn core entries old new
    × ((world : Scripted) (given : List Outcome) (more : Caller → Bool → Scripted → Outcome → Tree) → (after : Scripted)
    × (after.runs ≡ world.runs)
    × Leads core entries old new (request_tree now world given request more)
    (more (record now { caa = area }) (is_call request) after outcome))
RequestReads core entries now request old (pieces.Faulted ticket) new =
    GoesOn core entries old new
    × ((world : Scripted) (given : List Outcome) (more : Caller → Bool → Scripted → Outcome → Tree)
    → Leads core entries old new (request_tree now world given request more) (ended given (ends.Faulted ticket)))
RequestReads core entries now request old (pieces.Stopped stop) new =
    (world : Scripted) (given : List Outcome) (more : Caller → Bool → Scripted → Outcome → Tree)
    → Stops core entries old new (request_tree now world given request more) stop

-- the run request before a request, where one is due
abbrev pub AsksRun : List HostLine → Bool → Caller → ℕ → Asked → Type 0
AsksRun lines due now number (asks.Goes next) =
    (next ≤ number + 1)
    × ((world : Scripted) (given : List Outcome) (more : Scripted → Tree) → world.runs ≡ number → (after : Scripted)
    × (after.runs ≡ next) × (run_tree due now lines world given more ≡ more after))
AsksRun lines due now number (asks.Wrong end) =
    (world : Scripted) (given : List Outcome) (more : Scripted → Tree) → world.runs ≡ number
    → run_tree due now lines world given more ≡ ended given end

-- a core was read so far, from its Enter on
abbrev pub CoreReads : ℕ → List Entry → List HostLine → Caller → List Request → ℕ → CoreRead → ℕ → Type 0
CoreReads core entries lines caller script old (reads.Ended outcomes end) new =
    GoesOn core entries old new × Leads core entries old new (script_tree lines caller script) (ended outcomes end)
CoreReads core entries lines caller script old (reads.Stopped stop) new =
    Stops core entries old new (script_tree lines caller script) stop
