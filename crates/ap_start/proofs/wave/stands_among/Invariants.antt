use Rattle.std.proofs.Common.{◌≡◌, drop}
use Rattle.svsm_steps.specs.Announced.{is_live, live_pairs}
use Rattle.ap_start.specs.Wave.{pair_of}
use Rattle.ap_start.proofs.wave.stands_among.Given as goal

-- so far none had the pair
abbrev pub invariant-others : goal.invariant-others
invariant-others l =
    is_live (live_pairs (drop l.other-index l.others)) (pair_of l.row) ≡ is_live (live_pairs l.others) (pair_of l.row)
