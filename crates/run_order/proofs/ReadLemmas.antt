-- Requests and run requests, as trees.
use Rattle.std.proofs.Common.{◌≡◌, ℕ, ◌+◌, Bool, true, false, List, [], ◌∷◌, ◌++◌, refl, sym, ◌∙◌, ap, subst, Option, None, Some, arith}
use Rattle.std.specs.Prelude.{if◌then◌else◌}
use Rattle.svsm_types.specs.Pages.{is_in_map}
use Rattle.svsm_types.specs.declared.address.Gpa.{Gpa}
use Rattle.svsm_types.specs.declared.address.Page.{Page}
use Rattle.svsm_types.specs.declared.call.Regs.{Regs}
use Rattle.svsm_types.specs.declared.image.HostLine.{HostLine}
use Rattle.svsm_types.specs.declared.request.Request.{Request}
use Rattle.svsm_types.specs.declared.request.Request.TheVariants as requests
use Rattle.svsm_steps.specs.declared.step.Step.{Step}
use Rattle.svsm_steps.specs.declared.answer.Answer.{Answer}
use Rattle.svsm_steps.specs.declared.entry.Entry.{Entry}
use Rattle.svsm_steps.specs.declared.call.Caller.{Caller}
use Rattle.svsm_steps.specs.declared.outcome.Outcome.{Outcome}
use Rattle.svsm_steps.specs.declared.outcome.Outcome.TheVariants as outcomes
use Rattle.svsm_steps.specs.declared.outcome.CoreEnd.TheVariants as ends
use Rattle.svsm_calls.specs.CoreRun.{is_call, step_outcome, run_value, is_run_answer}
use Rattle.svsm_calls.specs.World.{Scripted, run_answer}
use Rattle.run_trees.specs.Tree.{Tree, ended, step_tree, plain_outcome, request_tree, run_tree}
use Rattle.run_order.specs.declared.reader.Stop.{Stop}
use Rattle.run_order.specs.declared.call.CallEnd.{CallEnd}
use Rattle.run_order.specs.declared.call.CallEnd.TheVariants as calls
use Rattle.run_order.specs.declared.request.PieceEnd.{PieceEnd}
use Rattle.run_order.specs.declared.request.PieceEnd.TheVariants as pieces
use Rattle.run_order.specs.declared.core_read.Asked.TheVariants as asks
use Rattle.run_order.specs.Steps.{one_step, piece_end}
use Rattle.run_order.specs.Finds.{made_before, StopsAt, GoesOn}
use Rattle.run_order.specs.Reads.{Leads, Stops, CallReads, StepReads, RequestReads, AsksRun}
use Rattle.run_order.proofs.FindLemmas.{goes_none}
use Rattle.run_order.proofs.LeadLemmas.{lead_same, lead_step, stops_here}

abbrev More : Type 0
More = Caller → Bool → Scripted → Outcome → Tree

-- A STEP

pub step_outside : (core : ℕ) (entries : List Entry) (now : Caller) (page : ℕ) (step : Step) (n : ℕ) → is_in_map now.regions page ≡ false
    → StepReads core entries now page step n (pieces.Done now.caa outcomes.Denied) n
step_outside core entries now page step n out =
    (goes_none core entries n, refl, λ more. lead_same core entries n _ _ (ap (λ (b : Bool). step_tree b step more) out))

pub step_made : (core : ℕ) (entries : List Entry) (now : Caller) (page : ℕ) (step : Step) (old new ticket : ℕ) (answer : Answer) (outcome : Outcome) → is_in_map now.regions page ≡ true → GoesOn core entries old new
    → made_before core entries new ≡ made_before core entries old ++ record { ticket = ticket; step = step; answer = answer } ∷ []
    → outcome ≡ plain_outcome (step_outcome answer)
    → StepReads core entries now page step old (pieces.Done now.caa outcome) new
step_made core entries now page step old new ticket answer outcome within goes made gave = (
  goes,
  refl,
  λ more. subst (λ (b : Bool). Leads core entries old new (step_tree b step more) (more outcome)) (sym within)
      (lead_step core entries old new (step_tree true step more) (more outcome) ticket step answer made refl (ap more (sym gave))),
)

pub step_stops : (core : ℕ) (entries : List Entry) (now : Caller) (page : ℕ) (step : Step) (old new : ℕ) (stop : Stop) → is_in_map now.regions page ≡ true → new ≡ old → StopsAt core entries old step stop
    → StepReads core entries now page step old (pieces.Stopped stop) new
step_stops core entries now page step old new stop within same stops =
    λ more. subst (λ (n : ℕ). Stops core entries old n (step_tree (is_in_map now.regions page) step more) stop) (sym same)
    (subst (λ (b : Bool). Stops core entries old old (step_tree b step more) stop) (sym within)
    (stops_here core entries old (step_tree true step more) step stop refl stops))

-- A REQUEST

-- the tree of one step
abbrev tree_one : Caller → Scripted → More → Option (Page × Step) → Tree
tree_one now world more None = ended [] ends.Done
tree_one now world more (Some (page, step)) = step_tree (is_in_map now.regions page.0) step (λ outcome. more now false world outcome)

one_tree : (request : Request) (page : Page) (step : Step) → one_step request ≡ Some (page, step) → (now : Caller) (world : Scripted) (given : List Outcome) (more : More)
    → request_tree now world given request more ≡ step_tree (is_in_map now.regions page.0) step (λ outcome. more now (is_call request) world outcome)
one_tree (requests.Call regs number) page step is now world given more = let none = is in absurd (cc)
one_tree (requests.Exit regs number) page step is now world given more = let none = is in absurd (cc)
one_tree (requests.Write vmpl gpa word) page step is now world given more = ap (tree_one now world more) is
one_tree (requests.Read vmpl gpa) page step is now world given more = ap (tree_one now world more) is
one_tree (requests.Adjust vmpl at target mask) page step is now world given more = ap (tree_one now world more) is
one_tree (requests.Share at) page step is now world given more = ap (tree_one now world more) is
one_tree (requests.Assign at) page step is now world given more = ap (tree_one now world more) is

pub by_step : (core : ℕ) (entries : List Entry) (now : Caller) (request : Request) (page : Page) (step : Step) (old new : ℕ) (end : PieceEnd) → one_step request ≡ Some (page, step)
    → StepReads core entries now page.0 step old end new → RequestReads core entries now request old end new
by_step core entries now request page step old new (pieces.Done area outcome) is reads = (
  reads.0,
  λ world given more. (
    world,
    refl,
    subst (λ (t : Tree). Leads core entries old new t (more (record now { caa = area }) (is_call request) world outcome)) (sym (one_tree request page step is now world given more))
        (subst (λ (a : Gpa). Leads core entries old new (step_tree (is_in_map now.regions page.0) step (λ outcome. more now (is_call request) world outcome)) (more (record now { caa = a }) (is_call request) world outcome))
        (sym reads.1) (reads.2 (λ outcome. more now (is_call request) world outcome))),
  ),
)
by_step core entries now request page step old new (pieces.Faulted ticket) is reads = absurd reads
by_step core entries now request page step old new (pieces.Stopped stop) is reads =
    λ world given more. subst (λ (t : Tree). Stops core entries old new t stop) (sym (one_tree request page step is now world given more))
    (reads (λ outcome. more now (is_call request) world outcome))

pub by_call : (core : ℕ) (entries : List Entry) (now : Caller) (regs : Regs) (number old new : ℕ) (end : CallEnd)
    → CallReads core entries true now regs number old end new → RequestReads core entries now (requests.Call regs number) old (piece_end end) new
by_call core entries now regs number old new (calls.Over area outcome) reads = (
  reads.0,
  λ world given more. let over = reads.1 given world.runs (λ outcome area after. more (record now { caa = area }) true after outcome) in
      (record { wanted = number; polls = over.0; runs = world.runs }, refl, over.1),
)
by_call core entries now regs number old new (calls.Faulted ticket) reads =
    (reads.0, λ world given more. reads.1 given world.runs (λ outcome area after. more (record now { caa = area }) true after outcome))
by_call core entries now regs number old new (calls.Stopped stop) reads =
    λ world given more. reads given world.runs (λ outcome area after. more (record now { caa = area }) true after outcome)

pub by_exit : (core : ℕ) (entries : List Entry) (now : Caller) (regs : Regs) (number old new : ℕ) (end : CallEnd)
    → CallReads core entries false now regs number old end new → RequestReads core entries now (requests.Exit regs number) old (piece_end end) new
by_exit core entries now regs number old new (calls.Over area outcome) reads = (
  reads.0,
  λ world given more. let over = reads.1 given world.runs (λ outcome area after. more (record now { caa = area }) true after outcome) in
      (record { wanted = number; polls = over.0; runs = world.runs }, refl, over.1),
)
by_exit core entries now regs number old new (calls.Faulted ticket) reads =
    (reads.0, λ world given more. reads.1 given world.runs (λ outcome area after. more (record now { caa = area }) true after outcome))
by_exit core entries now regs number old new (calls.Stopped stop) reads =
    λ world given more. reads given world.runs (λ outcome area after. more (record now { caa = area }) true after outcome)

-- a request is a call, or one step
pub no_step : (request : Request) → ((regs : Regs) (number : ℕ) → request ≡ requests.Call regs number → ⊥) → ((regs : Regs) (number : ℕ) → request ≡ requests.Exit regs number → ⊥)
    → one_step request ≡ None → ⊥
no_step (requests.Call regs number) call exit is = call regs number refl
no_step (requests.Exit regs number) call exit is = exit regs number refl
no_step (requests.Write vmpl gpa word) call exit is = let none = is in cc
no_step (requests.Read vmpl gpa) call exit is = let none = is in cc
no_step (requests.Adjust vmpl at target mask) call exit is = let none = is in cc
no_step (requests.Share at) call exit is = let none = is in cc
no_step (requests.Assign at) call exit is = let none = is in cc

-- A RUN REQUEST

pub run_not_due : (lines : List HostLine) (due : Bool) (now : Caller) (number : ℕ) → due ≡ false → AsksRun lines due now number (asks.Goes number)
run_not_due lines due now number off =
    (omega arith, λ world given more same. (world, same, ap (λ (b : Bool). run_tree b now lines world given more) off))

run_by : (lines : List HostLine) (now : Caller) (world : Scripted) (given : List Outcome) (more : Scripted → Tree) (right : Bool) → is_run_answer (run_answer lines now.core world.runs) ≡ right
    → run_tree true now lines world given more
    ≡ (if right then more (record { wanted = world.wanted; polls = world.polls; runs = world.runs + 1 }) else ended given (ends.Host (run_value now) (run_answer lines now.core world.runs)))
run_by lines now world given more right is =
    ap (λ (b : Bool). if b then more (record { wanted = world.wanted; polls = world.polls; runs = world.runs + 1 }) else ended given (ends.Host (run_value now) (run_answer lines now.core world.runs))) is

pub run_right : (lines : List HostLine) (due : Bool) (now : Caller) (number : ℕ) → due ≡ true → is_run_answer (run_answer lines now.core number) ≡ true
    → AsksRun lines due now number (asks.Goes (number + 1))
run_right lines due now number on right = (
  omega arith,
  λ world given more same. (
    record { wanted = world.wanted; polls = world.polls; runs = world.runs + 1 },
    ap (λ (n : ℕ). n + 1) same,
    ap (λ (b : Bool). run_tree b now lines world given more) on
        ∙ run_by lines now world given more true (ap (λ (n : ℕ). is_run_answer (run_answer lines now.core n)) same ∙ right),
  ),
)

pub run_wrong : (lines : List HostLine) (due : Bool) (now : Caller) (number sent got : ℕ) → due ≡ true → got ≡ run_answer lines now.core number → is_run_answer got ≡ false
    → sent ≡ run_value now → AsksRun lines due now number (asks.Wrong (ends.Host sent got))
run_wrong lines due now number sent got on is wrong value =
    λ world given more same.
    ap (λ (b : Bool). run_tree b now lines world given more) on
    ∙ run_by lines now world given more false (ap (λ (n : ℕ). is_run_answer (run_answer lines now.core n)) same ∙ (ap is_run_answer (sym is) ∙ wrong))
    ∙ ap (λ (g : ℕ). ended given (ends.Host (run_value now) g)) (ap (λ (n : ℕ). run_answer lines now.core n) same ∙ sym is)
    ∙ ap (λ (v : ℕ). ended given (ends.Host v got)) (sym value)
