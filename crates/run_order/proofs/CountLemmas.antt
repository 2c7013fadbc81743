-- Numbers in rising order, and tests of them.
use Rattle.std.proofs.Common.{add-one, ◌≡◌, ◌<◌, ◌≤◌, ℕ, zero, suc, ◌+◌, Bool, true, false, List, [], ◌∷◌, ◌++◌, length, refl, sym, ◌∙◌, ap, arith}
use Rattle.std.proofs.lemmas.List.Elements.{filter-append}
use Rattle.std.proofs.lemmas.Bool.Decides.{nat_tests}
use Rattle.std.specs.Prelude.{cond, filter, ◌==◌, ◌≢◌, count_by, if◌then◌else◌}
use Rattle.std.specs.List.{range_with_len, sum_by}
use Rattle.std.proofs.lemmas.List.Sums.{sum_by-append}

pub range_more : (a n : ℕ) → range_with_len a (suc n) ≡ range_with_len a n ++ (a + n) ∷ []
range_more a zero = let e : a + 0 ≡ a = omega arith in ap (λ (k : ℕ). k ∷ []) (sym e)
range_more a (suc n) =
    let e : (a + 1) + n ≡ a + suc n = omega arith in
    ap (λ (l : List ℕ). a ∷ l) (range_more (a + 1) n ∙ ap (λ (k : ℕ). range_with_len (a + 1) n ++ k ∷ []) e)

last_if : (p : ℕ → Bool) (k : ℕ) (b : Bool) → p k ≡ b → filter p (k ∷ []) ≡ cond b (k ∷ []) []
last_if p k true e = rw e refl
last_if p k false e = rw e refl

pub filter_more : (p : ℕ → Bool) (n : ℕ) → filter p (range_with_len 0 (n + 1)) ≡ filter p (range_with_len 0 n) ++ cond (p n) (n ∷ []) []
filter_more p n =
    let e : 0 + n ≡ n = omega arith in
    ap (λ (k : ℕ). filter p (range_with_len 0 k)) (add-one n) ∙ (ap (filter p) (range_more 0 n ∙ ap (λ (k : ℕ). range_with_len 0 n ++ k ∷ []) e)
    ∙ (filter-append p (range_with_len 0 n) (n ∷ []) ∙ ap (λ (l : List ℕ). filter p (range_with_len 0 n) ++ l) (last_if p n (p n) refl)))

-- COUNTS

pub record Head (p : ℕ → Bool) (q r : ℕ → Bool) (ns : List ℕ) (w : ℕ) (rest : List ℕ) : Type 0 where
  pub is : filter p ns ≡ w ∷ rest
  pub one : q w ≡ true
  pub other : r w ≡ false

nothing_before : (n : ℕ) → 0 + n ≡ n
nothing_before n = omega arith

count_one : (q : ℕ → Bool) (x : ℕ) (xs : List ℕ) → count_by q (x ∷ xs) ≡ cond (q x) 1 0 + count_by q xs
count_one q x xs =
    let f : ℕ → ℕ = λ n. cond (q n) 1 0 in
    let e : sum_by f (x ∷ []) ≡ cond (q x) 1 0 = nothing_before (cond (q x) 1 0) in
    sum_by-append f (x ∷ []) xs ∙ ap (λ (n : ℕ). n + sum_by f xs) e

one_less : (a b : Bool) → (a ≡ true → b ≡ true) → cond a 1 0 ≤ cond b 1 0
one_less true true f = omega arith
one_less true false f = let e = f refl in cc
one_less false true f = omega arith
one_less false false f = omega arith

count_less : (q r : ℕ → Bool) (ns : List ℕ) → ((c : ℕ) → r c ≡ true → q c ≡ true) → count_by r ns ≤ count_by q ns
count_less q r [] f = omega arith
count_less q r (x ∷ xs) f =
    let a = count_one q x xs in
    let b = count_one r x xs in
    let h = count_less q r xs f in
    let k = one_less (r x) (q x) (f x) in
    omega arith

fewer_at : (p q r : ℕ → Bool) (x : ℕ) (xs : List ℕ) (w : ℕ) (rest : List ℕ) → ((c : ℕ) → r c ≡ true → q c ≡ true) → (b : Bool) → p x ≡ b → (if b then x ∷ filter p xs else filter p xs) ≡ w ∷ rest
    → q w ≡ true → r w ≡ false → (filter p xs ≡ w ∷ rest → count_by r xs < count_by q xs) → count_by r (x ∷ xs) < count_by q (x ∷ xs)
fewer_at p q r x xs w rest f true e is one other more =
    let same : x ≡ w = cc in
    let a : count_by q (x ∷ xs) ≡ 1 + count_by q xs = count_one q x xs ∙ rw (same, one) refl in
    let b : count_by r (x ∷ xs) ≡ 0 + count_by r xs = count_one r x xs ∙ rw (same, other) refl in
    let h = count_less q r xs f in
    omega arith
fewer_at p q r x xs w rest f false e is one other more =
    let a = count_one q x xs in
    let b = count_one r x xs in
    let h = more is in
    let k = one_less (r x) (q x) (f x) in
    omega arith

pub fewer : (p q r : ℕ → Bool) (ns : List ℕ) (w : ℕ) (rest : List ℕ) → ((c : ℕ) → r c ≡ true → q c ≡ true) → filter p ns ≡ w ∷ rest → q w ≡ true → r w ≡ false → count_by r ns < count_by q ns
fewer p q r [] w rest f is one other = cc
fewer p q r (x ∷ xs) w rest f is one other = fewer_at p q r x xs w rest f (p x) refl is one other (λ e. fewer p q r xs w rest f e one other)

is_zero : (n : ℕ) → (n == 0) ≡ true → n ≡ 0
is_zero n h = grind (arith, nat_tests)

not_none : (x : ℕ) (xs : List ℕ) → length (x ∷ xs) ≡ 0 → ⊥
not_none x xs e = omega arith

pub no_items : (xs : List ℕ) → (length xs == 0) ≡ true → xs ≡ []
no_items [] h = refl
no_items (x ∷ xs) h = let n : length (x ∷ xs) ≡ 0 = is_zero (length (x ∷ xs)) h in absurd (not_none x xs n)

pub some_items : (xs : List ℕ) → (length xs == 0) ≡ false → xs ≢ []
some_items [] h = λ e. cc
some_items (x ∷ xs) h = λ e. cc
