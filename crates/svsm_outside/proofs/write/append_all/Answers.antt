use Rattle.std.proofs.Common.{◌∙◌}
use Rattle.svsm_outside.proofs.AppendsLemmas.{piece_fits, piece_appends}
use Rattle.svsm_outside.proofs.write.append_all.Goals as goal

pub loop-done-preserved : goal.loop-done-preserved
loop-done-preserved g c =
    record {
      within = piece_fits c.loop-done.done c.in_ok-done.field-0 c.args.text.now c.loop-done.invariant.within c.in_ok-done.ensures.within;
      so_far = piece_appends _ _ _ c.loop-done.done c.in_ok-done.field-0 c.args.text.now c.loop-done.invariant.within c.loop-done.invariant.so_far c.in_ok-done.ensures.appends;
      calm = c.in_ok-done.ensures.calm ∙ c.loop-done.invariant.calm;
    }
