use Rattle.std.proofs.Common.{◌≡◌, rules, ℕ, List, [], ◌∷◌, ◌++◌, ◌+◌, length, sym, ap, ◌∙◌, subst}
use Rattle.svsm_steps.specs.declared.call.Caller.{Caller}
use Rattle.run_order.specs.Wave.{AreEntered}
use Rattle.run_order.proofs.EnterLemmas.{length_more, entered_at, enter_ends}
use Rattle.run_order.proofs.wave.enter_all.Goals as goal

pub loop-core-preserved : goal.loop-core-preserved
loop-core-preserved c =
    let old = c.loop-core.callers.items in
    let items = c.in_ok-push-in-Some.ensures.items in
    let place : c.len-at.result ≡ length c.loop-core.callers.items = search rules in
    record {
      count = ap length items ∙ (length_more old c.caller_of.result ∙ ap (λ (k : ℕ). k + 1) c.loop-core.invariant.count);
      entered = subst (λ (l : List Caller). AreEntered c.args.image.now c.args.cores.now c.args.entries.now l) (sym (items ∙ ap (λ (caller : Caller). old ++ caller ∷ []) c.caller_of.ensures))
          (entered_at c.args.image.now c.args.cores.now c.args.entries.now old c.loop-core.core-index c.len-at.result 0 _ c.in-Some.caa (sym c.loop-core.invariant.count)
          (place ∙ c.loop-core.invariant.count) c.loop-core-test.true c.if-at-entries.false c.loop-core.invariant.entered c.in-Some.ensures.some);
    }

pub returns-in-None-clause-ends : goal.returns-in-None-clause-ends
returns-in-None-clause-ends c =
    let place : c.len-at.result ≡ length c.loop-core.callers.items = search rules in
    enter_ends c.args.image.now c.args.cores.now c.args.entries.now _ c.loop-core.core-index c.len-at.result 0 _ c.loop-core.invariant.count
    (place ∙ c.loop-core.invariant.count) c.loop-core-test.true c.if-at-entries.false c.in-None.ensures.none
