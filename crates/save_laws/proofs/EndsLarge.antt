-- 2M blocks at the end of a run.
use Rattle.std.proofs.Common.{◌≡◌, ℕ}
use Rattle.svsm_steps.specs.Image.{constants_of, booted}
use Rattle.svsm_laws.proofs.Consistent.{booted_is_consistent}
use Rattle.svsm_laws.proofs.Tidy.{booted_is_tidy}
use Rattle.svsm_run_laws.specs.Holding.{Position, before}
use Rattle.svsm_run_laws.proofs.Alike.{entries_calm}
use Rattle.svsm_run_laws.proofs.CoresFollow.{GoesWell, goes_well}
use Rattle.svsm_run_laws.proofs.Formed.{runs_are_formed}
use Rattle.svsm_run_laws.proofs.Fresh.{distinct, fresh}
use Rattle.save_laws.specs.Blocks.{EndsWithLargeBlocks}
use Rattle.save_laws.proofs.BootedLarge.{stands_booted}
use Rattle.save_laws.proofs.Large.{stands_along}

pub ends_with_large_blocks : EndsWithLargeBlocks
ends_with_large_blocks image scripts entries cores sound scripted run calm =
    let well : GoesWell image entries = goes_well image scripts entries cores run in
    stands_along (constants_of image) 0 (booted image) (λ (core : ℕ). before) entries (distinct image sound) (fresh image sound)
    (booted_is_tidy image sound) (booted_is_consistent image sound) (runs_are_formed image scripts entries cores sound scripted run)
    run.legal well.below well.follows (entries_calm image scripts entries cores run calm) (stands_booted image sound)
