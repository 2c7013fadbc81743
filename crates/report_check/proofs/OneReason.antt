-- Each reason has one place.
use Rattle.std.proofs.Common.{◌≡◌, ℕ, zero, suc, ◌+◌, ◌<◌, ◌≤◌, List, [], ◌∷◌, ◌++◌, take, drop, refl, sym, ◌∙◌, ap, arith, subst, inl, inr, ◌⊎◌, ⊎_elim, append_assoc}
use Rattle.std.proofs.lemmas.List.{take-append-drop}
use Rattle.svsm_types.specs.Numbers.{Numbers}
use Rattle.svsm_types.specs.declared.image.Image.{Image}
use Rattle.svsm_types.specs.declared.request.Request.{Request}
use Rattle.svsm_steps.specs.declared.entry.Entry.{Entry}
use Rattle.svsm_steps.specs.State.{State, Constants}
use Rattle.svsm_steps.specs.Machine.{kind, next}
use Rattle.svsm_steps.specs.DueFaults.{numbers_after}
use Rattle.history_play.specs.Differs.{DiffersAt}
use Rattle.history_play.specs.Plays.{BreaksPlay, BreaksDue}
use Rattle.run_trees.specs.Order.{IsOrdered, IsFront, BreaksOrder}

pub one_play : (constants : Constants) (n : ℕ) (state : State) (entries : List Entry) (one other : ℕ) → BreaksPlay constants n state entries one → BreaksPlay constants n state entries other
    → one ≡ other
one_play constants n state [] one other is also = absurd is
one_play constants n state (entry ∷ entries) one other is also =
    ⊎_elim
    (λ here. ⊎_elim (λ there. here.1 ∙ sym there.1) (λ later. absurd (here.0 later.0)) also)
    (λ later. ⊎_elim (λ there. absurd (there.0 later.0)) (λ too. one_play constants (n + 1) (next constants state entry) entries one other later.1 too.1) also)
    is

pub one_due : (constants : Constants) (n : ℕ) (numbers : ℕ → Numbers) (state : State) (entries : List Entry) (one other : ℕ) → BreaksDue constants n numbers state entries one
    → BreaksDue constants n numbers state entries other → one ≡ other
one_due constants n numbers state [] one other is also = absurd is
one_due constants n numbers state (entry ∷ entries) one other is also =
    ⊎_elim
    (λ here. ⊎_elim (λ there. here.1 ∙ sym there.1) (λ later. absurd (here.0 later.0)) also)
    (λ later. ⊎_elim (λ there. absurd (there.0 later.0))
    (λ too. one_due constants (n + 1) (numbers_after (kind entry.step) constants numbers state entry.step entry.answer) (next constants state entry) entries one other later.1 too.1) also)
    is

-- two numbers are equal, or one is less
trichotomy : (m n : ℕ) → (m < n) ⊎ ((n < m) ⊎ (m ≡ n))
trichotomy zero zero = inr (inr refl)
trichotomy zero (suc n) = inl (omega arith)
trichotomy (suc m) zero = inr (inl (omega arith))
trichotomy (suc m) (suc n) =
    ⊎_elim (λ (less : m < n). inl (omega (arith, less))) (λ rest. ⊎_elim (λ (more : n < m). inr (inl (omega (arith, more)))) (λ (same : m ≡ n). inr (inr (ap suc same))) rest)
    (trichotomy m n)

take_less : (m n : ℕ) (entries : List Entry) → m ≤ n → take m (take n entries) ≡ take m entries
take_less zero n entries less = refl
take_less (suc m) zero entries less = absurd (omega (arith, less))
take_less (suc m) (suc n) [] less = refl
take_less (suc m) (suc n) (entry ∷ entries) less = ap (λ (l : List Entry). entry ∷ l) (take_less m n entries (omega (arith, less)))

-- ORDER

-- a begin of a front is a front
shorter : (image : Image) (scripts : List (List Request)) (entries : List Entry) (n : ℕ) → IsFront image scripts entries → IsFront image scripts (take n entries)
shorter image scripts entries n front = record {
  more = drop n entries ++ front.more;
  cores = front.cores;
  ordered = subst (λ (l : List Entry). IsOrdered image scripts l front.cores)
      (ap (λ (l : List Entry). l ++ front.more) (sym (take-append-drop n entries)) ∙ append_assoc (take n entries) (drop n entries) front.more) front.ordered;
}

-- where one list breaks, no longer begin is a front
breaks_all : (image : Image) (scripts : List (List Request)) (entries : List Entry) (one other : ℕ) → (IsFront image scripts (take (one + 1) entries) → ⊥) → one < other
    → IsFront image scripts (take other entries) → ⊥
breaks_all image scripts entries one other stops less front =
    stops (subst (IsFront image scripts) (take_less (one + 1) other entries (omega (arith, less))) (shorter image scripts (take other entries) (one + 1) front))

pub one_break : (image : Image) (scripts : List (List Request)) (entries : List Entry) (one other : ℕ) → BreaksOrder image scripts entries one → BreaksOrder image scripts entries other
    → one ≡ other
one_break image scripts entries one other is also =
    ⊎_elim
    (λ early. ⊎_elim
    (λ too. ⊎_elim (λ (less : one < other). absurd (breaks_all image scripts entries one other early.2 less too.1))
    (λ rest. ⊎_elim (λ (more : other < one). absurd (breaks_all image scripts entries other one too.2 more early.1)) (λ (same : one ≡ other). same) rest) (trichotomy one other))
    (λ late. absurd (early.2 (shorter image scripts entries (one + 1) late.1))) also)
    (λ late. ⊎_elim
    (λ early. absurd (early.2 (shorter image scripts entries (other + 1) late.1)))
    (λ too. late.0 ∙ sym too.0) also)
    is

-- TEXTS

no_less : (left right : List ℕ) (one other : ℕ) → DiffersAt left right one → DiffersAt left right other → one < other → ⊥
no_less left right one other is also less =
    ⊎_elim (λ here. here.2 (also.same one less))
    (λ ends. ⊎_elim
    (λ first. ⊎_elim (λ here. omega (arith, first.0, here.0, less))
    (λ rest. ⊎_elim (λ at. omega (arith, first.0, at.0, less)) (λ at. omega (arith, first.0, at.1, less)) rest) also.here)
    (λ second. ⊎_elim (λ here. omega (arith, second.0, here.1, less))
    (λ rest. ⊎_elim (λ at. omega (arith, second.0, at.1, less)) (λ at. omega (arith, second.0, at.0, less)) rest) also.here)
    ends)
    is.here

pub one_difference : (left right : List ℕ) (one other : ℕ) → DiffersAt left right one → DiffersAt left right other → one ≡ other
one_difference left right one other is also =
    ⊎_elim (λ (less : one < other). absurd (no_less left right one other is also less))
    (λ rest. ⊎_elim (λ (more : other < one). absurd (no_less left right other one also is more)) (λ (same : one ≡ other). same) rest)
    (trichotomy one other)
