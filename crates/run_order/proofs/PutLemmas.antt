-- Runs that are put at the numbers of their cores.
use Rattle.std.proofs.Common.{get_or, set, ◌≡◌, ◌<◌, ℕ, zero, suc, ◌+◌, Bool, true, false, List, [], ◌∷◌, ◌++◌, length, map, refl, sym, ◌∙◌, ap, subst, arith, inl, inr, ◌⊎◌, ⊎_elim}
use Rattle.std.proofs.lemmas.List.{get_or-set_same, get_or-set_other, length-set}
use Rattle.std.proofs.lemmas.Bool.Decides.{nat_tests}
use Rattle.std.proofs.lemmas.Bool.{cases_Bool}
use Rattle.std.specs.Prelude.{All, ◌==◌, ◌||◌, ◌≢◌}
use Rattle.svsm_steps.specs.declared.outcome.CoreRun.{CoreRun}
use Rattle.svsm_calls.specs.Waves.{is_among}
use Rattle.run_trees.proofs.WaveTrees.{either, or_true}
use Rattle.std.proofs.lemmas.List.Elements.{All-cons, All-nil}
use Rattle.run_order.specs.Behind.{put_all}

-- one more run is put
pub put_more : (runs started : List CoreRun) (run : CoreRun) → put_all runs (started ++ run ∷ []) ≡ set (put_all runs started) run.core run
put_more runs [] run = refl
put_more runs (first ∷ started) run = put_more (set runs first.core first) started run

pub put_long : (runs started : List CoreRun) → length (put_all runs started) ≡ length runs
put_long runs [] = refl
put_long runs (first ∷ started) = put_long (set runs first.core first) started ∙ length-set runs first.core first

same_number : (m n : ℕ) → (m == n) ≡ true → m ≡ n
same_number m n e = grind (arith, nat_tests)

other_number : (m n : ℕ) → (m == n) ≡ false → m ≢ n
other_number m n e = grind (arith, nat_tests)

out_of : (b c : Bool) → b ≡ false → c ≡ false → (b || c) ≡ false
out_of true c is also = cc
out_of false c is also = also

-- what stands at a number was put there, or stood there before
pub put_at : (P : CoreRun → Type 0) (runs started : List CoreRun) (core : ℕ) (d : CoreRun) → All P started → core < length runs
    → ((is_among core (map (λ (run : CoreRun). run.core) started) ≡ true) × (P (get_or (put_all runs started) core d) × ((get_or (put_all runs started) core d).core ≡ core)))
    ⊎ ((is_among core (map (λ (run : CoreRun). run.core) started) ≡ false) × (get_or (put_all runs started) core d ≡ get_or runs core d))
put_at P runs [] core d all low = inr (refl, refl)
put_at P runs (first ∷ started) core d all low =
    let put : List CoreRun = set runs first.core first in
    let head : P first = all 0 d (omega arith) in
    let rest : All P started = λ k e less. all (suc k) e (omega (arith, less)) in
    let long : core < length put = subst (λ (n : ℕ). core < n) (sym (length-set runs first.core first)) low in
    ⊎_elim
    (λ (here : (is_among core (map (λ (run : CoreRun). run.core) started) ≡ true) × (P (get_or (put_all put started) core d) × ((get_or (put_all put started) core d).core ≡ core))).
    inl (ap (λ (b : Bool). (first.core == core) || b) here.0 ∙ or_true (first.core == core), here.1))
    (λ (out : (is_among core (map (λ (run : CoreRun). run.core) started) ≡ false) × (get_or (put_all put started) core d ≡ get_or put core d)).
    ⊎_elim
    (λ (e : (first.core == core) ≡ true).
    let is : first.core ≡ core = same_number first.core core e in
    let got : get_or (put_all put started) core d ≡ first =
    out.1 ∙ subst (λ (n : ℕ). get_or put n d ≡ first) is (get_or-set_same runs first.core first d (subst (λ (n : ℕ). n < length runs) (sym is) low)) in
    inl (ap (λ (b : Bool). b || is_among core (map (λ (run : CoreRun). run.core) started)) e, (subst P (sym got) head, ap (λ (run : CoreRun). run.core) got ∙ is)))
    (λ (e : (first.core == core) ≡ false).
    inr (
      out_of (first.core == core) (is_among core (map (λ (run : CoreRun). run.core) started)) e out.0,
      out.1 ∙ get_or-set_other runs first.core core first d (λ same. other_number first.core core e (sym same)),
    ))
    (cases_Bool (first.core == core)))
    (put_at P put started core d rest long)

-- a core of theirs has a run among them
pub run_of : (P : CoreRun → Type 0) (started : List CoreRun) (core : ℕ) → All P started → is_among core (map (λ (run : CoreRun). run.core) started) ≡ true
    → (run : CoreRun) × (P run × (run.core ≡ core))
run_of P [] core all among = absurd (cc)
run_of P (first ∷ started) core all among = ⊎_elim
    (λ (e : (first.core == core) ≡ true). (first, (all 0 first (omega arith), same_number first.core core e)))
    (λ (e : is_among core (map (λ (run : CoreRun). run.core) started) ≡ true). run_of P started core (λ k d less. all (suc k) d (omega (arith, less))) e)
    (either (first.core == core) (is_among core (map (λ (run : CoreRun). run.core) started)) among)

-- and of each that is said which is said of its core
pub of_cores : (P : ℕ → Type 0) (started : List CoreRun) → All P (map (λ (run : CoreRun). run.core) started) → All (λ (run : CoreRun). P run.core) started
of_cores P [] all = All-nil (λ (run : CoreRun). P run.core)
of_cores P (first ∷ started) all =
    All-cons (λ (run : CoreRun). P run.core) first started (all 0 0 (omega arith)) (of_cores P started (λ k d less. all (suc k) d (omega (arith, less))))
