-- A list that is filled from its front.
use Rattle.std.proofs.Common.{◌≡◌, ℕ, ◌+◌, ◌<◌, List, length, get_or, set, take, drop, ◌++◌, arith}
use Rattle.std.specs.Prelude.{map}
use Rattle.std.proofs.lemmas.List.{get_or_default}
use Rattle.std.proofs.lemmas.List.Edits.{map_over_more}

-- one more entry is filled
pub fill_one_more : {X : Type 0} (x : X) (old now : List X) (i : ℕ) → length now ≡ length old → i < length old
    → now ≡ map (λ _. x) (take i old) ++ drop i old → set now i x ≡ map (λ _. x) (take (i + 1) old) ++ drop (i + 1) old
fill_one_more x old now i same low inv =
    map_over_more (λ _. x) old now i (get_or now i x) low inv (get_or_default now i x (get_or now i x) (omega arith))
