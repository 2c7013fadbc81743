use Rattle.std.proofs.Common.{ℕ, ◌<◌, List, length, All, ap, ◌∙◌, sym, subst}
use Rattle.svsm_steps.specs.declared.entry.Entry.{Entry}
use Rattle.history_core.specs.Marked.{marked}
use Rattle.history_core.proofs.BehindLemmas.{log_marked, in_log}
use Rattle.history_core.proofs.behind.mark_all.Goals as goal

pub mark-requires : goal.mark-requires
mark-requires c =
    let within : Entry → Type 0 = λ e. e.ticket < length c.args.order.now in
    subst (λ (n : ℕ). All (λ (e : Entry). e.ticket < n) c.deref.result.now) (sym c.logs.auto.order)
    (subst (All within) (sym c.deref.ensures.value) (in_log c.args.logs.now c.logs.log-index c.log-item.result c.logs-test.true c.log-item.is within c.requires))

pub logs-preserved : goal.logs-preserved
logs-preserved c =
    log_marked c.args.logs.now c.logs.log-index c.log-item.result c.logs-test.true c.log-item.is c.args.order.now c.logs.order c.mark.new.order
    c.logs.invariant (c.in_ok-mark.ensures ∙ ap (λ (l : List Entry). marked l c.logs.order) c.deref.ensures.value)
