-- Files that were asked for, one after another.
use Rattle.std.proofs.Common.{◌≡◌, ◌≢◌, ◌⊎◌, ℕ, zero, suc, ◌+◌, ◌-◌, ◌≤◌, List, [], ◌∷◌, ◌++◌, length, map, get_or, take, drop, subst, refl, sym, ◌∙◌, ap, ⊎_elim, append_assoc, append-nil, take_all, arith}
use Rattle.std.specs.Prelude.{Some}
use Rattle.std.proofs.Math.Seq.{take-append-add}
use Rattle.svsm_outside.specs.Views.{ShelfView}
use Rattle.command_words.specs.Words.{Run}
use Rattle.run_core_top.specs.Task.{Task, task_in}
use Rattle.run_core_top.specs.Asked.{run_names, task_names, names_by, files_in, AsksFront}

pub all_asked : (names : List (List ℕ)) (before now : ShelfView) → now.asked ≡ before.asked ++ names → AsksFront names before now
all_asked names before now all = record {
  count = length names;
  asked = all ∙ ap (λ (t : List (List ℕ)). before.asked ++ t) (sym (take_all (length names) names (omega arith)));
}

-- a front of a front
front_in : (count : ℕ) (a b : List (List ℕ)) → (n : ℕ) × (take n (a ++ b) ≡ take count a)
front_in zero a b = (0, refl)
front_in (suc count) [] b = (0, refl)
front_in (suc count) (name ∷ a) b = let rest = front_in count a b in (suc rest.0, ap (λ (t : List (List ℕ)). name ∷ t) rest.1)

pub front_first : (a b : List (List ℕ)) (before now : ShelfView) → AsksFront a before now → AsksFront (a ++ b) before now
front_first a b before now front =
    let n = front_in front.count a b in
    record { count = n.0; asked = front.asked ∙ ap (λ (t : List (List ℕ)). before.asked ++ t) (sym n.1) }

-- all of some, and a front of more
pub front_more : (a b : List (List ℕ)) (before mid now : ShelfView) → mid.asked ≡ before.asked ++ a → AsksFront b mid now
    → AsksFront (a ++ b) before now
front_more a b before mid now all front = record {
  count = length a + front.count;
  asked =
      front.asked
      ∙ (ap (λ (t : List (List ℕ)). t ++ take front.count b) all
      ∙ (append_assoc before.asked a (take front.count b)
      ∙ ap (λ (t : List (List ℕ)). before.asked ++ t) (sym (take-append-add a b front.count))));
}

pub both_asked : (a b : List (List ℕ)) (before mid now : ShelfView) → mid.asked ≡ before.asked ++ a → now.asked ≡ mid.asked ++ b
    → now.asked ≡ before.asked ++ (a ++ b)
both_asked a b before mid now first next = next ∙ (ap (λ (t : List (List ℕ)). t ++ b) first ∙ append_assoc before.asked a b)

-- the same with one name first
pub first_asked : (name : List ℕ) (names : List (List ℕ)) (before now : ShelfView) → AsksFront (name ∷ []) before now
    → AsksFront (name ∷ names) before now
first_asked name names before now front = front_first (name ∷ []) names before now front

pub then_asked : (name : List ℕ) (names : List (List ℕ)) (before mid now : ShelfView) → mid.asked ≡ before.asked ++ (name ∷ [])
    → AsksFront names mid now
    → AsksFront (name ∷ names) before now
then_asked name names before mid now all front = front_more (name ∷ []) names before mid now all front

-- the next of the names that are left
next_name : {A : Type 0} (name_of : A → List ℕ) (rest : List A) (other : A) → 1 ≤ length rest
    → map name_of rest ≡ name_of (get_or rest 0 other) ∷ map name_of (take (length rest - 1) (drop 1 rest))
next_name name_of [] other some = absurd (omega (arith, some))
next_name {A = A} name_of (name ∷ rest) other some =
    ap (λ (t : List A). name_of name ∷ map name_of t) (sym (take_all (length (name ∷ rest) - 1) rest (omega arith)))

pub next_front : {A : Type 0} (name_of : A → List ℕ) (rest : List A) (other : A) (before now : ShelfView) → 1 ≤ length rest
    → AsksFront (name_of (get_or rest 0 other) ∷ []) before now → AsksFront (map name_of rest) before now
next_front name_of rest other before now some front =
    let after : List (List ℕ) = map name_of (take (length rest - 1) (drop 1 rest)) in
    subst (λ (names : List (List ℕ)). AsksFront names before now) (sym (next_name name_of rest other some))
    (first_asked (name_of (get_or rest 0 other)) after before now front)

pub next_then : {A : Type 0} (name_of : A → List ℕ) (rest : List A) (other : A) (before mid now : ShelfView) → 1 ≤ length rest
    → mid.asked ≡ before.asked ++ (name_of (get_or rest 0 other) ∷ [])
    → AsksFront (map name_of (take (length rest - 1) (drop 1 rest))) mid now
    → AsksFront (map name_of rest) before now
next_then name_of rest other before mid now some asked front =
    let after : List (List ℕ) = map name_of (take (length rest - 1) (drop 1 rest)) in
    subst (λ (names : List (List ℕ)). AsksFront names before now) (sym (next_name name_of rest other some))
    (then_asked (name_of (get_or rest 0 other)) after before mid now asked front)

pub next_all : {A : Type 0} (name_of : A → List ℕ) (rest : List A) (other : A) (before mid : ShelfView) → 1 ≤ length rest
    → mid.asked ≡ before.asked ++ (name_of (get_or rest 0 other) ∷ [])
    → mid.asked ++ map name_of (take (length rest - 1) (drop 1 rest)) ≡ before.asked ++ map name_of rest
next_all name_of rest other before mid some asked =
    let name : List ℕ = name_of (get_or rest 0 other) in
    let after : List (List ℕ) = map name_of (take (length rest - 1) (drop 1 rest)) in
    ap (λ (t : List (List ℕ)). t ++ after) asked
    ∙ (append_assoc before.asked (name ∷ []) after
    ∙ ap (λ (t : List (List ℕ)). before.asked ++ t) (sym (next_name name_of rest other some)))

-- the files of the same run
pub run_front : (run same : Run) (before now : ShelfView) → run ≡ same → AsksFront (run_names run) before now
    → AsksFront (run_names same) before now
run_front run same before now is front = subst (λ (one : Run). AsksFront (run_names one) before now) is front

pub run_all : (run same : Run) (before now : ShelfView) → run ≡ same → now.asked ≡ before.asked ++ run_names run
    → now.asked ≡ before.asked ++ run_names same
run_all run same before now is all = all ∙ ap (λ (one : Run). before.asked ++ run_names one) is

-- what the words name
files_are : (words : List (List ℕ)) (task : Task) → task_in words ≡ Some task → files_in words ≡ task_names task
files_are words task is = ap names_by is

pub front_named : (words : List (List ℕ)) (task : Task) (before now : ShelfView) → task_in words ≡ Some task
    → AsksFront (task_names task) before now
    → (count : ℕ) × (now.asked ≡ before.asked ++ take count (files_in words))
front_named words task before now is front = (
  front.count,
  front.asked ∙ ap (λ (t : List (List ℕ)). before.asked ++ take front.count t) (sym (files_are words task is)),
)

pub all_named : (words : List (List ℕ)) (task : Task) (before now : ShelfView) → task_in words ≡ Some task
    → now.asked ≡ before.asked ++ task_names task
    → now.asked ≡ before.asked ++ files_in words
all_named words task before now is all = all ∙ ap (λ (t : List (List ℕ)). before.asked ++ t) (sym (files_are words task is))

pub none_named : (words : List (List ℕ)) (before : ShelfView) → (count : ℕ) × (before.asked ≡ before.asked ++ take count (files_in words))
none_named words before = (0, sym (append-nil before.asked))

-- of such a status nothing was made
pub not_made : (status : ℕ) → 3 ≤ status → status ≢ 6 → status ≤ 7 → (status ≤ 1) ⊎ ((status ≡ 6) ⊎ (status ≡ 8)) → ⊥
not_made status most not_six low made =
    ⊎_elim (λ (one : status ≤ 1). omega (arith, most, one))
    (λ (other : (status ≡ 6) ⊎ (status ≡ 8)). ⊎_elim not_six (λ (eight : status ≡ 8). omega (arith, low, eight)) other)
    made
