use Rattle.std.proofs.Common.{◌≡◌, true, sym, ◌∙◌, subst}
use Rattle.svsm_steps.specs.declared.step.Step.{Step}
use Rattle.svsm_steps.specs.contracts.step.StepPartialEq.TheImpl.{eq-value}
use Rattle.run_order.proofs.StepLemmas.{same_steps, steps_same}
use Rattle.run_order.proofs.reader.same_step.Goals as goal

pub returns : goal.returns
returns c =
    let h : c.eq.result ≡ eq-value.it c.args.a.now c.args.b.now = c.eq.ensures in (
      λ is. same_steps c.args.a.now c.args.b.now (sym h ∙ is),
      λ same. h ∙ subst (λ (s : Step). eq-value.it c.args.a.now s ≡ true) same (steps_same c.args.a.now),
    )
