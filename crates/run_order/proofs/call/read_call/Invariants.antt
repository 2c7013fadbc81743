use Rattle.std.proofs.Common.{◌≡◌, ℕ, ◌+◌, ◌≤◌, List}
use Rattle.svsm_types.specs.declared.address.Gpa.{Gpa}
use Rattle.svsm_steps.specs.declared.outcome.Outcome.{Outcome}
use Rattle.svsm_calls.specs.Calls.{whole_call}
use Rattle.svsm_calls.specs.Dialogue.{first_of}
use Rattle.svsm_calls.specs.World.{Scripted}
use Rattle.call_core.specs.Rest.{rest, rank}
use Rattle.run_trees.specs.Tree.{Tree, call_tree}
use Rattle.run_order.specs.Finds.{GoesOn}
use Rattle.run_order.specs.Reads.{Leads}
use Rattle.run_order.proofs.call.read_call.Given as goal

abbrev pub invariant-steps : goal.invariant-steps
invariant-steps l = record {
  asks : l.asked ≡ first_of (rest l.state);
  few : l.polls + rank l.state ≤ 5119;
  goes : GoesOn l.source.core l.source.entries.now l.initial.at l.at;
  leads : (given : List Outcome) (runs : ℕ) (more : Outcome → Gpa → Scripted → Tree)
      → Leads l.source.core l.source.entries.now l.initial.at l.at
      (call_tree given (whole_call l.pend l.caller l.regs) l.caller.caa (record { wanted = l.wanted; polls = 0; runs = runs }) more)
      (call_tree given (rest l.state) l.state.area (record { wanted = l.wanted; polls = l.polls; runs = runs }) more);
}

abbrev pub decreases-steps : goal.decreases-steps
decreases-steps l = rank l.state
