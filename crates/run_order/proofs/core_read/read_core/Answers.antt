use Rattle.svsm_types.specs.declared.request.Request.TheVariants as requests
use Rattle.run_order.proofs.CoreLemmas.{stands_first, stands_wrong, stands_more, stands_faulted, stands_stops, stands_leaves, stands_last}
use Rattle.run_order.proofs.core_read.read_core.Goals as goal

pub loop-request-init : goal.loop-request-init
loop-request-init c = rw c.new-outcomes.ensures (stands_first c.args.source.now.core c.args.source.now.entries.now c.args.lines.now c.args.caller c.args.script.now c.args.at.now)

pub returns-in-Wrong : goal.returns-in-Wrong
returns-in-Wrong c = stands_wrong _ _ _ _ _ _ _ _ _ _ _ _ (requests.Share (record { 0 = 0 })) c.in-Wrong.end c.loop-request-test.true c.loop-request.invariant c.in-Wrong.ensures

pub returns-in-Faulted : goal.returns-in-Faulted
returns-in-Faulted c = stands_faulted _ _ _ _ _ _ _ _ _ _ _ _ c.in-Goes.next c.in-Goes.ensures _ _ c.loop-request-test.true c.loop-request.invariant c.in-Faulted.ticket c.in-Faulted.ensures

pub returns-in-Stopped : goal.returns-in-Stopped
returns-in-Stopped c = stands_stops _ _ _ _ _ _ _ _ _ _ _ _ c.in-Goes.next c.in-Goes.ensures _ _ c.loop-request-test.true c.loop-request.invariant c.in-Stopped.stop c.in-Stopped.ensures

pub loop-request-preserved : goal.loop-request-preserved
loop-request-preserved c = rw c.in_ok-push-in-Done.ensures.ok
    (stands_more _ _ _ _ _ _ _ _ _ _ _ _ c.in-Goes.next c.in-Goes.ensures _ _ c.loop-request-test.true c.loop-request.invariant c.in-Done.area c.in-Done.outcome c.is_call-due.result
    c.is_call-due.ensures c.in-Done.ensures)

pub returns-in-Made : goal.returns-in-Made
returns-in-Made c = let found = c.in-Made.ensures in
    stands_leaves _ _ _ _ _ _ _ _ _ _ _ _ _ c.in-Made.ticket c.in-Made.answer c.loop-request-test.false c.loop-request.invariant found.0 found.1

pub returns-in-Not : goal.returns-in-Not
returns-in-Not c = let found = c.in-Not.ensures in
    stands_last _ _ _ _ _ _ _ _ _ _ _ _ c.in-Not.stop _ c.loop-request-test.false c.loop-request.invariant found.0 found.1
