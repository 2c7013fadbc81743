use Rattle.std.proofs.Common.{sym, ◌∙◌}
use Rattle.run_order.proofs.ReadLemmas.{step_made, step_stops}
use Rattle.run_order.proofs.request.read_step.Goals as goal

pub returns-in-Made : goal.returns-in-Made
returns-in-Made c = let found = c.in-Made.ensures in
    step_made c.args.source.now.core c.args.source.now.entries.now c.args.now.now c.args.page.0 c.args.step.now _ _ c.in-Made.ticket c.in-Made.answer c.plain_outcome-outcome.result
    (sym c.in_map.ensures ∙ c.if-not-in_map.false) found.0 found.1 c.plain_outcome-outcome.ensures

pub returns-in-Not : goal.returns-in-Not
returns-in-Not c = let found = c.in-Not.ensures in
    step_stops c.args.source.now.core c.args.source.now.entries.now c.args.now.now c.args.page.0 c.args.step.now _ _ c.in-Not.stop
    (sym c.in_map.ensures ∙ c.if-not-in_map.false) found.0 found.1
