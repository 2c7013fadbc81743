-- Sorted entries with distinct tickets rise, and rising lists with the same entries are one.
use Rattle.std.proofs.Common.{◌≡◌, ◌≢◌, ℕ, suc, ◌+◌, ◌<◌, ◌≤◌, Bool, cond, List, [], ◌∷◌, length, get_or, refl, ap, arith, eq-eqb}
use Rattle.std.specs.Prelude.{◌==◌, IsPermutation}
use Rattle.std.specs.List.Sorted.{IsNonDecreasingBy}
use Rattle.std.proofs.lemmas.List.Sums.{sum_by-cons}
use Rattle.std.proofs.lemmas.List.Sorted.{sum_by-IsPermutation}
use Rattle.svsm_steps.specs.declared.entry.Entry.{Entry}
use Rattle.history_core.specs.Merged.{times, IsBelow, IsRising}

abbrev pub one_of : ℕ → Entry → ℕ
one_of t e = cond (e.ticket == t) 1 0

pub times_cons : (t : ℕ) (e : Entry) (es : List Entry) → times t (e ∷ es) ≡ one_of t e + times t es
times_cons t e es = sum_by-cons (one_of t) e es

pub here : (e : Entry) → one_of e.ticket e ≡ 1
here e = ap (λ (b : Bool). cond b 1 0) (eq-eqb e.ticket e.ticket refl)

-- a ticket that stands nowhere in the list, where none of the list is less, is below it
below_of : (t : ℕ) (es : List Entry) → ((j : ℕ) (d : Entry) → j < length es → t ≤ (get_or es j d).ticket) → times t es ≡ 0 → IsBelow t es
below_of t [] low none = tt
below_of t (e ∷ es) low none =
    let c = times_cons t e es in
    let l : t ≤ e.ticket = low 0 e (omega arith) in
    let apart : e.ticket ≢ t = λ same. let o : one_of t e ≡ 1 = ap (λ (b : Bool). cond b 1 0) (eq-eqb e.ticket t same) in omega arith in
    (omega arith, below_of t es (λ j d in'. low (suc j) d (omega arith)) (omega arith))

pub rising_of : (es : List Entry) → IsNonDecreasingBy (λ (e : Entry). e.ticket) es → ((t : ℕ) → times t es ≤ 1) → IsRising es
rising_of [] up once = tt
rising_of (e ∷ es) up once =
    let c = times_cons e.ticket e es in let o = once e.ticket in let h = here e in (
      below_of e.ticket es (λ j d in'. up 0 (suc j) d (omega arith) (omega arith)) (omega arith),
      rising_of es (λ i j d le in'. up (suc i) (suc j) d (omega arith) (omega arith)) (λ t. let c' = times_cons t e es in let o' = once t in omega arith),
    )

pub still_once : (xs ys : List Entry) → IsPermutation xs ys → ((t : ℕ) → times t xs ≤ 1) → (t : ℕ) → times t ys ≤ 1
still_once xs ys moved once t = let s : times t ys ≡ times t xs = sum_by-IsPermutation (one_of t) xs ys moved in let o = once t in omega arith
