use Rattle.std.proofs.Common.{sym, ◌∙◌}
use Rattle.run_order.proofs.ReadLemmas.{by_step, by_call, by_exit}
use Rattle.run_order.proofs.request.read_request.Goals as goal

pub returns-in-Some : goal.returns-in-Some
returns-in-Some c = by_step c.args.source.now.core c.args.source.now.entries.now c.args.now.now c.args.request.now c.in-Some.page c.in-Some.step _ _ c.read_step.result
    (sym c.step_of.ensures ∙ c.in-Some.is) c.read_step.ensures

pub returns-in-Call : goal.returns-in-Call
returns-in-Call c = rw (c.in-Call.is, c.piece_end.ensures)
    (by_call c.args.source.now.core c.args.source.now.entries.now c.args.now.now c.in-Call.regs c.in-Call.poll _ _ c.read_call.result c.read_call.ensures)

pub returns-in-Exit : goal.returns-in-Exit
returns-in-Exit c = rw (c.in-Exit.is, c.piece_end-in-Exit.ensures)
    (by_exit c.args.source.now.core c.args.source.now.entries.now c.args.now.now c.in-Exit.regs c.in-Exit.poll _ _ c.read_call-in-Exit.result c.read_call-in-Exit.ensures)
