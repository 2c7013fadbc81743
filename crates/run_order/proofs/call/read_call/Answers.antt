use Rattle.std.proofs.Common.{◌≡◌, ℕ, sym, ◌∙◌, ap, subst, arith}
use Rattle.svsm_steps.specs.declared.call.Do.TheVariants as todo
use Rattle.svsm_calls.specs.Dialogue.{first_of}
use Rattle.svsm_calls.specs.Calls.{whole_call}
use Rattle.call_core.specs.Rest.{rest}
use Rattle.run_trees.specs.Tree.{call_tree}
use Rattle.run_order.specs.Reads.{Stops}
use Rattle.run_order.proofs.LeadLemmas.{answer_got}
use Rattle.run_order.proofs.FindLemmas.{goes_both}
use Rattle.run_order.proofs.LeadLemmas.{lead_on, stops_on, stops_here, asked_call, no_fault, call_step, call_fault}
use Rattle.run_order.proofs.call.read_call.Goals as goal

pub returns-in-Fault : goal.returns-in-Fault
returns-in-Fault c =
    let core = c.args.source.now.core in
    let entries = c.args.source.now.entries.now in
    let asks : first_of (rest c.steps.state) ≡ todo.Step c.in-Step.step = sym c.steps.invariant.asks ∙ c.in-Step.is in
    let found = c.in-Made.ensures in (
      goes_both core entries _ _ _ c.steps.invariant.goes found.0,
      λ given runs more. lead_on core entries _ _ _ _ _ _ (c.steps.invariant.leads given runs more)
          (call_fault core entries _ _ given (rest c.steps.state) _ _ more c.in-Step.step c.in-Made.ticket c.in-Fault.done c.in-Made.answer asks c.in-Fault.is found.1),
    )

pub answered-requires : goal.answered-requires
answered-requires c = record {
  fits = answer_got (rest c.steps.state) c.in-Step.step c.in-Made.answer (sym c.steps.invariant.asks ∙ c.in-Step.is);
  in_map = c.in-Made.ensures.2;
}

pub steps-preserved-in-Made : goal.steps-preserved-in-Made
steps-preserved-in-Made c =
    let core = c.args.source.now.core in
    let entries = c.args.source.now.entries.now in
    let asks : first_of (rest c.steps.state) ≡ todo.Step c.in-Step.step = sym c.steps.invariant.asks ∙ c.in-Step.is in
    let found = c.in-Made.ensures in
    record {
      asks = c.answered.ensures.goes.asks ∙ ap first_of (sym c.answered.ensures.goes.follows);
      few = omega (arith, c.answered.ensures.rank, c.steps.invariant.few);
      goes = goes_both core entries _ _ _ c.steps.invariant.goes found.0;
      leads = λ given runs more. lead_on core entries _ _ _ _ _ _ (c.steps.invariant.leads given runs more)
          (call_step core entries _ _ given (rest c.steps.state) (rest c.answered.new.state) _ _ _ more c.in-Step.step c.in-Made.ticket c.in-Made.answer asks
          (no_fault c.in-Made.answer (λ performed is. c.in_default.not-Fault performed is)) found.1 c.answered.ensures.goes.follows c.answered.ensures.area);
    }

pub returns-in-Not : goal.returns-in-Not
returns-in-Not c =
    let core = c.args.source.now.core in
    let entries = c.args.source.now.entries.now in
    let asks : first_of (rest c.steps.state) ≡ todo.Step c.in-Step.step = sym c.steps.invariant.asks ∙ c.in-Step.is in
    let found = c.in-Not.ensures in
    λ given runs more. subst (λ (n : ℕ). Stops core entries c.args.at.now n
    (call_tree given (whole_call c.args.pend c.args.caller.now c.args.regs.now) c.args.caller.now.caa (record { wanted = c.args.wanted; polls = 0; runs = runs }) more) c.in-Not.stop)
    (sym found.0)
    (stops_on core entries _ _ _ _ _ c.in-Not.stop (c.steps.invariant.leads given runs more)
    (stops_here core entries _ _ c.in-Step.step c.in-Not.stop (asked_call given (rest c.steps.state) _ _ more c.in-Step.step asks) found.1))
