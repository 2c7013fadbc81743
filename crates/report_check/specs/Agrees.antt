-- A report against a text that is told piece by piece.
use Rattle.std.specs.Prelude.{◌≡◌, ◌≤◌, ℕ, List, ◌++◌, Result, Ok, Err, length, take}
use Rattle.history_play.specs.Differs.{DiffersAt}

-- a report that agrees with a piece of a text from `at` on, up to `next`
pub record AgreesTo (report : List ℕ) (at : ℕ) (piece : List ℕ) (next : ℕ) : Type 0 where
  pub within : next ≤ length report
  pub same : take next report ≡ take at report ++ piece

-- where a report ends that agrees so far with the piece, or where it differs first from it, whatever text follows
abbrev pub Agrees : List ℕ → ℕ → List ℕ → Result ℕ ℕ → Type 0
Agrees report at piece (Ok next) = AgreesTo report at piece next
Agrees report at piece (Err place) = (rest : List ℕ) → DiffersAt report (take at report ++ (piece ++ rest)) place
