use Rattle.std.proofs.Common.{◌∙◌, ap, sym, ℕ, Bool, Vec, Global}
use Rattle.svsm_types.specs.declared.owner.RmpRow.{RmpRow}
use Rattle.svsm_steps.specs.State.{RegionState}
use Rattle.image_save.specs.Standing.{standing}
use Rattle.image_save.proofs.GatherLemmas.{one_taken, one_left}
use Rattle.image_save.proofs.pages.large_regions.Goals as goal
use Rattle.image_save.proofs.pages.large_regions.Goals.{then-row+in_ok-push, else-row}

pub regions-preserved : goal.regions-preserved
regions-preserved c =
    let large : ℕ → Bool = λ region. ((standing c.args.image.now.regions c.args.places.now).regions region).hw.large in
    let is = ap (λ (row : RmpRow). row.large) c.row.ensures ∙ ap (λ (r : RegionState). r.hw.large) c.region_at-region.ensures.stands in
    elim c.if-row.branch [
      | then-row+in_ok-push w ↦ one_taken large c.regions.number c.regions.large.items c.if-row.large.items c.regions.invariant (sym is ∙ w.if-row.true) (ap (λ (l : Vec ℕ Global). l.items) w.large-is ∙ w.in_ok-push.ensures.items)
      | else-row w ↦ ap (λ (l : Vec ℕ Global). l.items) w.large-is ∙ one_left large c.regions.number c.regions.large.items c.regions.invariant (sym is ∙ w.if-row.false)
    ]
