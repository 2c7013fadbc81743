use Rattle.run_order.specs.Behind.{WavesStand, left}
use Rattle.run_order.proofs.order.order_of.Given as goal

abbrev pub invariant-waves : goal.invariant-waves
invariant-waves l = WavesStand l.image l.scripts l.entries l.waves

-- with each wave fewer cores are left
abbrev pub decreases-waves : goal.decreases-waves
decreases-waves l = left l.image l.waves.ran.items
