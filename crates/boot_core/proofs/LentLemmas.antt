-- A page whose bytes were lent whole.
use Rattle.std.proofs.Common.{◌≡◌, ℕ, List, ◌++◌, length, take, drop, arith}
use Rattle.std.proofs.lemmas.Grind.{common_steps}

pub written : (old bytes : List ℕ) → length bytes ≡ length old → take (length old) (bytes ++ drop (length bytes) old) ≡ bytes
written old bytes same = grind (arith, common_steps)
