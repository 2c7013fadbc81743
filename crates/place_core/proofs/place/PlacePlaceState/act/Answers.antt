use Rattle.std.proofs.Common.{◌≡◌, ◌<◌, ◌∙◌, ap, subst, sym}
use Rattle.std.specs.Prelude.{Option, None, Some, vec_len, vec_capacity}
use Rattle.svsm_steps.specs.declared.step.Step.{Step}
use Rattle.svsm_steps.specs.declared.place_state.Pending.{Pending}
use Rattle.svsm_steps.specs.Formed.{IsAnswer}
use Rattle.svsm_steps.specs.Lawful.{IsAskedOf}
use Rattle.place_core.specs.declared.place.Kept.{Kept}
use Rattle.place_core.specs.PlaceInside.{seen}
use Rattle.place_core.specs.PlaceView.{PlaceView, IsKept}
use Rattle.place_core.proofs.KeptLemmas.{step_keeps, answer_formed}
use Rattle.place_core.proofs.place.PlacePlaceState.act.Goals as goal

pub invariant_of-self : goal.invariant_of-self
invariant_of-self c =
    let opening = c.self.inside.opening.value in
    let pending = c.self.inside.pending.value in
    let spare = c.self.inside.spare.value in
    let kept = c.deref_mut-kept.result.now in
    let is : kept ≡ c.self.inside.kept.value = c.deref_mut-kept.ensures.value in
    let whole : IsKept (seen kept opening pending spare) = subst (λ (k : Kept). IsKept (seen k opening pending spare)) (sym is) c.self.invariant.kept in
    let none : pending ≡ None = ap (λ (v : PlaceView). v.pending) c.self.view_is ∙ c.requires.none in
    let asked : IsAskedOf kept.regions kept.number c.args.step.now =
    subst (λ (k : Kept). IsAskedOf k.regions k.number c.args.step.now) (sym is)
    (subst (λ (v : PlaceView). IsAskedOf v.regions v.number c.args.step.now) (sym c.self.view_is) c.requires.asked) in
    let now : Pending = record { core = c.args.core; step = c.args.step.now; answer = c.act_on-answer.result } in
    let does = c.act_on-answer.ensures in record {
      kept = subst (λ (o : Option Pending). IsKept (record (seen kept opening pending spare) { kind = c.act_on-answer.new.kind; pending = o })) (sym c.of.ensures)
          (step_keeps (seen kept opening pending spare) c.act_on-answer.new.kind now none asked does.may does.after does.due does.numbers does.placed whole);
      entry = subst (λ (k : Kept). (step : Step) → spare ≡ Some step → vec_len k.log < vec_capacity k.log) (sym is) c.self.invariant.entry;
      room = λ step is some. cc;
    }

pub returns-clause-answer : goal.returns-clause-answer
returns-clause-answer c =
    let opening = c.self.inside.opening.value in
    let pending = c.self.inside.pending.value in
    let spare = c.self.inside.spare.value in
    let kept = c.deref_mut-kept.result.now in
    let is : kept ≡ c.self.inside.kept.value = c.deref_mut-kept.ensures.value in
    let whole : IsKept (seen kept opening pending spare) = subst (λ (k : Kept). IsKept (seen k opening pending spare)) (sym is) c.self.invariant.kept in
    let asked : IsAskedOf kept.regions kept.number c.args.step.now =
    subst (λ (k : Kept). IsAskedOf k.regions k.number c.args.step.now) (sym is)
    (subst (λ (v : PlaceView). IsAskedOf v.regions v.number c.args.step.now) (sym c.self.view_is) c.requires.asked) in
    subst (λ (v : PlaceView). IsAnswer v.regions c.args.step.now c.act_on-answer.result) c.self.view_is
    (subst (λ (k : Kept). IsAnswer k.regions c.args.step.now c.act_on-answer.result) is
    (answer_formed (seen kept opening pending spare) c.args.core c.args.step.now c.act_on-answer.result asked (c.act_on-answer.ensures.may) whole))
