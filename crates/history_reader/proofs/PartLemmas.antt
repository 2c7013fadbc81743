-- What is read of a history part.
use Rattle.std.proofs.Common.{◌≡◌, ℕ, ◌+◌, true, List, [], ◌∷◌, refl, sym, subst, inr, inl}
use Rattle.std.specs.Prelude.{Result, Ok, Err}
use Rattle.svsm_steps.specs.declared.entry.Entry.{Entry}
use Rattle.history_reader.specs.declared.history.HistoryError.{HistoryError}
use Rattle.history_reader.specs.declared.history.HistoryError.TheVariants.{Line, NoMemory}
use Rattle.history_reader.specs.Texts.{Counts, LineFailsAt, HistoryFails, begins_history}
use Rattle.history_reader.specs.Read.{Reads, CountsFrom}
use Rattle.history_reader.proofs.ReadLemmas.{Seeks, here_is, here_fails}

part_here : {V : Type 0} (seen : V → List Entry) (regions now next count : ℕ) (bytes : List ℕ) (rest : List (List ℕ)) (result : Result V HistoryError) → next ≡ now + 1
    → begins_history bytes ≡ true → Counts bytes count → CountsFrom seen regions next count rest result → Reads seen regions now (bytes ∷ rest) result
part_here seen regions now next count bytes rest (Ok entries) num b counts is = here_is regions bytes rest (seen entries) count b counts is
part_here seen regions now next count bytes rest (Err (Line failing)) num b counts is =
    here_fails regions now bytes rest failing b
    (inr (count, counts, subst (λ (n : ℕ). LineFailsAt regions n count rest failing) num is))
part_here seen regions now next count bytes rest (Err NoMemory) num b counts is = tt

pub part_of : {V : Type 0} (seen : V → List Entry) (regions now next count : ℕ) (lines : List (List ℕ)) (bytes : List ℕ) (rest : List (List ℕ)) (result : Result V HistoryError)
    → next ≡ now + 1 → lines ≡ bytes ∷ rest → begins_history bytes ≡ true → Counts bytes count → CountsFrom seen regions next count rest result → Reads seen regions now lines result
part_of seen regions now next count lines bytes rest result num split b counts is =
    subst (λ (x : List (List ℕ)). Reads seen regions now x result) (sym split) (part_here seen regions now next count bytes rest result num b counts is)

pub no_count : (regions now : ℕ) (lines : List (List ℕ)) (bytes : List ℕ) (rest : List (List ℕ)) → lines ≡ bytes ∷ rest → begins_history bytes ≡ true
    → ((count : ℕ) → Counts bytes count → ⊥) → HistoryFails regions now lines now
no_count regions now lines bytes rest split b none =
    subst (λ (x : List (List ℕ)). HistoryFails regions now x now) (sym split) (here_fails regions now bytes rest now b (inl (none, refl)))

pub sought : {V : Type 0} (seen : V → List Entry) (regions now : ℕ) (all lines : List (List ℕ)) (result : Result V HistoryError) → Seeks regions all now lines
    → Reads seen regions now lines result → Reads seen regions 1 all result
sought seen regions now all lines (Ok entries) seeks is = seeks.is (seen entries) is
sought seen regions now all lines (Err (Line failing)) seeks is = seeks.fails failing is
sought seen regions now all lines (Err NoMemory) seeks is = tt

pub none_begins : (regions now : ℕ) (all lines : List (List ℕ)) → lines ≡ [] → Seeks regions all now lines → HistoryFails regions 1 all 0
none_begins regions now all lines none seeks = seeks.fails 0 (subst (λ (x : List (List ℕ)). HistoryFails regions now x 0) (sym none) refl)
