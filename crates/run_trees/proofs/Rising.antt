-- Numbers that rise stand once each.
use Rattle.std.proofs.Common.{◌≡◌, ℕ, zero, suc, ◌+◌, ◌<◌, ◌≤◌, Bool, true, false, List, [], ◌∷◌, length, take, drop, sym, ◌∙◌, ap, arith, subst, ⊎_elim}
use Rattle.std.specs.Prelude.{⊤, ◌||◌, ◌==◌, filter}
use Rattle.std.specs.List.{range_with_len}
use Rattle.std.proofs.lemmas.Bool.{cases_Bool}
use Rattle.svsm_calls.specs.Waves.{is_among}
use Rattle.run_trees.proofs.WaveTrees.{either, same, filter_true, filter_false, or_true}

pub Rises : ℕ → List ℕ → Type 0
Rises low [] = ⊤
Rises low (x ∷ xs) = (low ≤ x) × Rises (x + 1) xs

pub none_rise : (low : ℕ) → Rises low []
unfolding Rises
none_rise low = tt

lower : (low high : ℕ) (xs : List ℕ) → low ≤ high → Rises high xs → Rises low xs
unfolding Rises
lower low high [] le is = tt
lower low high (x ∷ xs) le is = (omega (arith, le, is.0), is.1)

pub rises_range : (first n : ℕ) → Rises first (range_with_len first n)
unfolding Rises
rises_range first zero = tt
rises_range first (suc n) = (omega arith, rises_range (first + 1) n)

pub rises_filter : (test : ℕ → Bool) (low : ℕ) (xs : List ℕ) → Rises low xs → Rises low (filter test xs)
unfolding Rises
rises_filter test low [] is = tt
rises_filter test low (x ∷ xs) is = ⊎_elim
    (λ (e : test x ≡ true). subst (λ (l : List ℕ). Rises low l) (sym (filter_true test x xs e)) (is.0, rises_filter test (x + 1) xs is.1))
    (λ (e : test x ≡ false). subst (λ (l : List ℕ). Rises low l) (sym (filter_false test x xs e)) (lower low (x + 1) (filter test xs) (omega (arith, is.0)) (rises_filter test (x + 1) xs is.1)))
    (cases_Bool (test x))

above : (low number : ℕ) (xs : List ℕ) → Rises low xs → is_among number xs ≡ true → low ≤ number
unfolding Rises
above low number [] is among = absurd (cc)
above low number (x ∷ xs) is among = ⊎_elim
    (λ (e : (x == number) ≡ true). let s = same x number e in omega (arith, s, is.0))
    (λ (e : is_among number xs ≡ true). let h = above (x + 1) number xs is.1 e in omega (arith, h, is.0))
    (either (x == number) (is_among number xs) among)

-- none stands behind itself
pub once : (low x : ℕ) (xs : List ℕ) → Rises low (x ∷ xs) → is_among x xs ≡ true → ⊥
unfolding Rises
once low x xs is among = let h = above (x + 1) x xs is.1 among in omega (arith, h)

pub rest_rises : (low x : ℕ) (xs : List ℕ) → Rises low (x ∷ xs) → Rises (x + 1) xs
unfolding Rises
rest_rises low x xs is = is.1

-- and what is behind rises too
pub drop_low : (low n : ℕ) (xs : List ℕ) → Rises low xs → (high : ℕ) × Rises high (drop n xs)
unfolding Rises
drop_low low zero [] is = (low, is)
drop_low low zero (x ∷ xs) is = (low, is)
drop_low low (suc n) [] is = (low, tt)
drop_low low (suc n) (x ∷ xs) is = drop_low (x + 1) n xs is.1

pub in_drop : (number n : ℕ) (xs : List ℕ) → is_among number (drop n xs) ≡ true → is_among number xs ≡ true
in_drop number zero [] is = is
in_drop number zero (x ∷ xs) is = is
in_drop number (suc n) [] is = is
in_drop number (suc n) (x ∷ xs) is = ap (λ (b : Bool). (x == number) || b) (in_drop number n xs is) ∙ or_true (x == number)

-- none stands in front and behind
pub apart_at : (low number n : ℕ) (xs : List ℕ) → Rises low xs → is_among number (take n xs) ≡ true → is_among number (drop n xs) ≡ true → ⊥
apart_at low number zero [] is front back = absurd (cc)
apart_at low number zero (x ∷ xs) is front back = absurd (cc)
apart_at low number (suc n) [] is front back = absurd (cc)
apart_at low number (suc n) (x ∷ xs) is front back = ⊎_elim
    (λ (e : (x == number) ≡ true). once low x xs is (subst (λ (m : ℕ). is_among m xs ≡ true) (sym (same x number e)) (in_drop number n xs back)))
    (λ (e : is_among number (take n xs) ≡ true). apart_at (x + 1) number n xs (rest_rises low x xs is) e back)
    (either (x == number) (is_among number (take n xs)) front)

-- fewer pass a narrower test
fewer : (p q : ℕ → Bool) (xs : List ℕ) → ((x : ℕ) → q x ≡ true → p x ≡ true) → length (filter q xs) ≤ length (filter p xs)
fewer p q [] narrow = omega arith
fewer p q (x ∷ xs) narrow =
    let rest = fewer p q xs narrow in
    ⊎_elim
    (λ (e : q x ≡ true). omega (arith, rest, ap length (filter_true q x xs e), ap length (filter_true p x xs (narrow x e))))
    (λ (e : q x ≡ false). ⊎_elim
    (λ (f : p x ≡ true). omega (arith, rest, ap length (filter_false q x xs e), ap length (filter_true p x xs f)))
    (λ (f : p x ≡ false). omega (arith, rest, ap length (filter_false q x xs e), ap length (filter_false p x xs f)))
    (cases_Bool (p x)))
    (cases_Bool (q x))

pub less : (p q : ℕ → Bool) (number : ℕ) (xs : List ℕ) → ((x : ℕ) → q x ≡ true → p x ≡ true) → is_among number xs ≡ true → p number ≡ true → q number ≡ false
    → length (filter q xs) < length (filter p xs)
less p q number [] narrow among yes' no' = absurd (cc)
less p q number (x ∷ xs) narrow among yes' no' = ⊎_elim
    (λ (e : (x == number) ≡ true).
    let s = same x number e in
    let px : p x ≡ true = subst (λ (n : ℕ). p n ≡ true) (sym s) yes' in
    let qx : q x ≡ false = subst (λ (n : ℕ). q n ≡ false) (sym s) no' in
    omega (arith, fewer p q xs narrow, ap length (filter_false q x xs qx), ap length (filter_true p x xs px)))
    (λ (e : is_among number xs ≡ true).
    let rest = less p q number xs narrow e yes' no' in
    ⊎_elim
    (λ (f : q x ≡ true). omega (arith, rest, ap length (filter_true q x xs f), ap length (filter_true p x xs (narrow x f))))
    (λ (f : q x ≡ false). ⊎_elim
    (λ (g : p x ≡ true). omega (arith, rest, ap length (filter_false q x xs f), ap length (filter_true p x xs g)))
    (λ (g : p x ≡ false). omega (arith, rest, ap length (filter_false q x xs f), ap length (filter_false p x xs g)))
    (cases_Bool (p x)))
    (cases_Bool (q x)))
    (either (x == number) (is_among number xs) among)
