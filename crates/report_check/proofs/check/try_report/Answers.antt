use Rattle.std.proofs.Common.{false, refl}
use Rattle.machine_core.specs.Views.{state_of}
use Rattle.report.specs.Report.{report_text}
use Rattle.ap_start.specs.Text.{ap_text}
use Rattle.report_check.proofs.CheckLemmas.{none_undue, printed, text_differs, text_same}
use Rattle.report_check.proofs.check.try_report.Goals as goal

pub returns-in-None : goal.returns-in-None
returns-in-None c =
    text_same c.args.image.now c.args.scripts.now c.args.report.now c.in_ok-entries.entries.items c.in_ok-order.order.cores
    (report_text false c.in_ok-order.order.cores c.deref-3.result.now c.deref-4.result.now (ap_text c.in_ok-order.order.exits c.in_ok-order.order.refused))
    c.in_ok-text_difference.field-0
    (printed c.args.image.now c.args.scripts.now c.args.report.now c.in_ok-entries.entries.items c.deref.result.now c.deref-2.result.now c.deref-3.result.now
    c.in_ok-order.order c.in_ok-rows.rows.items c.deref-4.result.now (state_of c.in_ok-after.after.machine)
    (report_text false c.in_ok-order.order.cores c.deref-3.result.now c.deref-4.result.now (ap_text c.in_ok-order.order.exits c.in_ok-order.order.refused))
    c.in_ok-entries.ensures.part c.deref.ensures.value c.deref-2.ensures.value c.deref-3.ensures.value c.deref-4.ensures.value
    c.in_ok-after.ensures.played.run
    (none_undue c.args.image.now c.deref.result.now c.in_ok-after.after.undue c.in_default.is c.in_ok-after.ensures.due)
    c.in_ok-after.ensures.played.state c.in_ok-order.ensures.ok c.in_ok-rows.ensures refl)
    c.in_ok-text_difference.ensures c.in-None.is

pub returns : goal.returns
returns c =
    text_differs c.args.image.now c.args.scripts.now c.args.report.now c.in_ok-entries.entries.items c.in_ok-order.order.cores
    (report_text false c.in_ok-order.order.cores c.deref-3.result.now c.deref-4.result.now (ap_text c.in_ok-order.order.exits c.in_ok-order.order.refused))
    c.in_ok-text_difference.field-0 c.in-Some-2.at
    (printed c.args.image.now c.args.scripts.now c.args.report.now c.in_ok-entries.entries.items c.deref.result.now c.deref-2.result.now c.deref-3.result.now
    c.in_ok-order.order c.in_ok-rows.rows.items c.deref-4.result.now (state_of c.in_ok-after.after.machine)
    (report_text false c.in_ok-order.order.cores c.deref-3.result.now c.deref-4.result.now (ap_text c.in_ok-order.order.exits c.in_ok-order.order.refused))
    c.in_ok-entries.ensures.part c.deref.ensures.value c.deref-2.ensures.value c.deref-3.ensures.value c.deref-4.ensures.value
    c.in_ok-after.ensures.played.run
    (none_undue c.args.image.now c.deref.result.now c.in_ok-after.after.undue c.in_default.is c.in_ok-after.ensures.due)
    c.in_ok-after.ensures.played.state c.in_ok-order.ensures.ok c.in_ok-rows.ensures refl)
    c.in_ok-text_difference.ensures c.in-Some-2.is
