use Rattle.std.proofs.Common.{◌≡◌, ◌∙◌, ap, subst, sym}
use Rattle.std.specs.Prelude.{Option, None, Some}
use Rattle.svsm_steps.specs.declared.step.Step.{Step}
use Rattle.svsm_steps.specs.declared.place_state.Pending.{Pending}
use Rattle.svsm_steps.specs.Lawful.{pending_of}
use Rattle.place_core.specs.declared.place.Kept.{Kept}
use Rattle.place_core.specs.PlaceInside.{seen}
use Rattle.place_core.specs.PlaceView.{PlaceView, IsKept}
use Rattle.place_core.proofs.KeptLemmas.{entry_keeps}
use Rattle.place_core.proofs.place.PlacePlaceState.put.Goals as goal

pub invariant_of-self : goal.invariant_of-self
invariant_of-self c =
    let opening = c.self.inside.opening.value in
    let pending = c.self.inside.pending.value in
    let spare = c.self.inside.spare.value in
    let kept = c.deref_mut-kept.result.now in
    let same : kept ≡ c.self.inside.kept.value = c.deref_mut-kept.ensures.value in
    let old : PlaceView = seen kept opening pending spare in
    let whole : IsKept old = subst (λ (k : Kept). IsKept (seen k opening pending spare)) (sym same) c.self.invariant.kept in
    let is : pending ≡ Some (pending_of c.args.entry) = ap (λ (v : PlaceView). v.pending) c.self.view_is ∙ c.requires.pending in record {
      kept = subst (λ (o : Option Pending). IsKept (record old { log = c.push_reserved.new.self.items; pending = o; spare = c.of-2.result.value })) (sym c.of.ensures)
          (subst (λ (o : Option Step). IsKept (record old { log = c.push_reserved.new.self.items; pending = None; spare = o })) (sym c.of-2.ensures)
          (entry_keeps old _ c.args.entry is c.push_reserved.ensures.items whole));
      entry = λ step none. cc;
      room = λ step none. cc;
    }
