use Rattle.std.proofs.Common.{◌≡◌, None}
use Rattle.run_order.specs.Told.{refused_of}
use Rattle.run_order.proofs.exits.refused_of.Given as goal

-- so far the host takes all
abbrev pub invariant-exits : goal.invariant-exits
invariant-exits l = refused_of l.lines l.number l.at ≡ None
