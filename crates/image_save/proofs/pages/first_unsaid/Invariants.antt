use Rattle.std.proofs.Common.{◌≡◌, drop}
use Rattle.image_save.specs.Gathered.{first_unsaid}
use Rattle.image_save.proofs.pages.first_unsaid.Given as goal

abbrev pub invariant-loop-number : goal.invariant-loop-number
invariant-loop-number l = first_unsaid l.ghcb.0 0 l.rows ≡ first_unsaid l.ghcb.0 l.number (drop l.number l.rows)
