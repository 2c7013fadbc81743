-- What is seen of a shelf and of a sink.
use Rattle.std.specs.Prelude.{ℕ, List, Option}

-- the bytes under each name, where told; the names that were asked for, in order; how many loads failed; the name of the last that failed
pub record ShelfView : Type 0 where
  pub told : List ℕ → Option (List ℕ)
  pub asked : List (List ℕ)
  pub faults : ℕ
  pub failed : Option (List ℕ)

-- the bytes written, where told; how many writes failed
pub record SinkView : Type 0 where
  pub written : Option (List ℕ)
  pub faults : ℕ
