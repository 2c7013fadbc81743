-- Sixteen digits at once.
use Rattle.std.proofs.Common.{◌≡◌, ℕ, zero, suc, ◌+◌, ◌-◌, ◌*◌, ◌%◌, ◌<◌, ltb, Bool, true, false, cond, ◌&&◌, T, ◌⊎◌, inl, inr, List, [], ◌∷◌, ◌++◌, map, length, get_or, replicate, Option, Some, None, refl, sym, ap, ap₂, ◌∙◌, arith, w8, Fits}
use Rattle.std.specs.Prelude.{nat_le, ◌==◌}
use Rattle.std.specs.List.{list_any}
use Rattle.std.proofs.lemmas.Simd.{zip2_splat, map-map, pick_l_whole, pick_l_left}
use Rattle.std.proofs.lemmas.List.{length-map}
use Rattle.std.proofs.lemmas.Bool.{eqb-true, and_parts, cases_lt}
use Rattle.std.proofs.lemmas.Bool.Decides.{nat_tests}
use lib.Bits.{bit_or}
use lib.Lanes.{zip2, top, sel_l, Each1, all_below}
use Rattle.hex.specs.Hex.{hex_digit_value}
use Rattle.image_reader.specs.Digits.{joined, byte_by, bytes_in, or_255, digit_or_255, is_no_value, bytes_by_pairs}

-- LANE BY LANE

abbrev pub below : ℕ → ℕ → ℕ
below a b = cond (ltb a b) 255 0

abbrev pub less : ℕ → ℕ → ℕ
less a b = (a + (256 - b)) % 256

abbrev pub more : ℕ → ℕ → ℕ
more a b = (a + b) % 256

pub on_splat : (h : ℕ → ℕ → ℕ) (f : ℕ → ℕ) (y n : ℕ) (v : List ℕ) {a : List ℕ} → length v ≡ n → a ≡ map f v → zip2 h a (replicate n y) ≡ map (λ x. h (f x) y) v
on_splat h f y n v long p = ap (λ a. zip2 h a (replicate n y)) p ∙ zip2_splat h (map f v) n y (length-map v f ∙ long) ∙ map-map (λ x. h x y) f v

chosen_by : (p : ℕ → ℕ) (f g : ℕ → ℕ) (v : List ℕ) → sel_l (map (top 7) (map p v)) (map f v) (map g v) ≡ map (λ x. cond (top 7 (p x)) (f x) (g x)) v
chosen_by p f g [] = refl
chosen_by p f g (x ∷ xs) = ap (λ (r : List ℕ). cond (top 7 (p x)) (f x) (g x) ∷ r) (chosen_by p f g xs)

pub chosen : (p : ℕ → ℕ) (f g : ℕ → ℕ) (v : List ℕ) {m a b : List ℕ} → m ≡ map p v → a ≡ map f v → b ≡ map g v
    → sel_l (map (top 7) m) a b ≡ map (λ x. cond (top 7 (p x)) (f x) (g x)) v
chosen p f g v is_m is_a is_b = rw (is_m, is_a, is_b) (chosen_by p f g v)

-- a digit_or_255 as it is computed
abbrev pub computed : ℕ → ℕ
computed x = cond (top 7 (below (less x 48) 10)) (less x 48) (cond (top 7 (below (less (bit_or x 32) 97) 6)) (more (less (bit_or x 32) 97) 10) 255)

abbrev are_computed : ℕ → Bool
are_computed zero = true
are_computed (suc n) = (computed n == digit_or_255 n) && are_computed n

computed_below : (n byte : ℕ) → are_computed n ≡ true → byte < n → computed byte ≡ digit_or_255 byte
computed_below zero byte all within = absurd (omega (arith, within))
computed_below (suc n) byte all within =
    let parts = and_parts (computed n == digit_or_255 n) (are_computed n) all in
    elim (cases_lt byte n) [
      | inl less ↦ computed_below n byte parts.1 less
      | inr here ↦
          let same : byte ≡ n = omega (arith, within, here) in
          rw same (eqb-true (computed n) (digit_or_255 n) parts.0)
    ]

all_computed : are_computed 256 ≡ true
all_computed = refl

pub all_values : (v : List ℕ) → Each1 (Fits w8) v → map computed v ≡ map digit_or_255 v
all_values [] fits = refl
all_values (x ∷ xs) fits = ap₂ (λ (a : ℕ) (b : List ℕ). a ∷ b) (computed_below 256 x all_computed fits.0.fits) (all_values xs fits.1)

-- BYTES

wrapped : (high low : ℕ) → (high * 16 % 256 + low) % 256 ≡ (high * 16 + low) % 256
wrapped high low = omega arith

pub byte_at : (v : List ℕ) → length v ≡ 16 → (k : ℕ) → T (all_below 16 (k ∷ (k + 1) ∷ []))
    → (get_or (v ++ v) k 0 * 16 % 256 + get_or (v ++ v) (k + 1) 0) % 256 ≡ (get_or v k 0 * 16 + get_or v (k + 1) 0) % 256
byte_at v long k within =
    let front = pick_l_left 0 v v 16 (k ∷ (k + 1) ∷ []) long within in
    let high : get_or (v ++ v) k 0 ≡ get_or v k 0 = ap (λ (l : List ℕ). get_or l 0 0) front in
    let low : get_or (v ++ v) (k + 1) 0 ≡ get_or v (k + 1) 0 = ap (λ (l : List ℕ). get_or l 1 0) front in
    ap₂ (λ (h l : ℕ). (h * 16 % 256 + l) % 256) high low ∙ wrapped (get_or v k 0) (get_or v (k + 1) 0)

pub all_listed : (v : List ℕ) → length v ≡ 16 → bytes_by_pairs v
    ≡ bytes_by_pairs (get_or v 0 0 ∷ get_or v 1 0 ∷ get_or v 2 0 ∷ get_or v 3 0 ∷ get_or v 4 0 ∷ get_or v 5 0 ∷ get_or v 6 0 ∷ get_or v 7 0 ∷ get_or v 8 0 ∷ get_or v 9 0 ∷ get_or v 10 0 ∷ get_or v 11 0 ∷ get_or v 12 0 ∷ get_or v 13 0 ∷ get_or v 14 0 ∷ get_or v 15 0 ∷ [])
all_listed v long = ap bytes_by_pairs (sym (pick_l_whole 0 v 16 long))

-- WHAT A DIGIT TELLS

small_by : (a b c : Bool) (byte : ℕ) → (nat_le 65 byte && nat_le byte 70) ≡ a → (nat_le 97 byte && nat_le byte 102) ≡ b → (nat_le 48 byte && nat_le byte 57) ≡ c
    → digit_or_255 byte < 16 ⊎ (hex_digit_value byte ≡ None)
small_by true b c byte upper lower digit = inl (grind (arith, nat_tests, upper))
small_by false true c byte upper lower digit = inl (grind (arith, nat_tests, upper, lower))
small_by false false true byte upper lower digit = inl (grind (arith, nat_tests, upper, lower, digit))
small_by false false false byte upper lower digit = inr (simp (upper, lower, digit))

small : (byte : ℕ) → digit_or_255 byte < 16 ⊎ (hex_digit_value byte ≡ None)
small byte = small_by (nat_le 65 byte && nat_le byte 70) (nat_le 97 byte && nat_le byte 102) (nat_le 48 byte && nat_le byte 57) byte refl refl refl

abbrev IsDigit : Option ℕ → Type 0
IsDigit o = or_255 o < 16 ⊎ (o ≡ None)

read_by : (a b : Option ℕ) (rest : List ℕ) (o : Option (List ℕ)) → IsDigit a → IsDigit b → list_any is_no_value (or_255 a ∷ or_255 b ∷ rest) ≡ false
    → (list_any is_no_value rest ≡ false → Some (bytes_by_pairs rest) ≡ o) → Some (bytes_by_pairs (or_255 a ∷ or_255 b ∷ rest)) ≡ joined (byte_by a b) o
read_by None b rest o a_small b_small none go = absurd cc
read_by (Some x) None rest o a_small b_small none go = absurd (grind (arith, nat_tests, none))
read_by (Some x) (Some y) rest o (inl a_small) (inl b_small) none go =
    let same : (x * 16 + y) % 256 ≡ x * 16 + y = omega (arith, a_small, b_small) in
    ap (λ (value : ℕ). Some (value ∷ bytes_by_pairs rest)) same ∙ ap (joined (Some (x * 16 + y))) (go (grind (arith, nat_tests, none)))
read_by (Some x) (Some y) rest o (inr a_none) b_small none go = absurd cc
read_by (Some x) (Some y) rest o (inl a_small) (inr b_none) none go = absurd cc

pub digits_read : (k : ℕ) (digits : List ℕ) → length digits ≡ 2 * k → list_any is_no_value (map digit_or_255 digits) ≡ false → Some (bytes_by_pairs (map digit_or_255 digits)) ≡ bytes_in digits
unfolding bytes_in
digits_read zero [] is none = refl
digits_read zero (a ∷ rest) is none = absurd (omega (arith, is))
digits_read (suc k) [] is none = absurd (omega (arith, is))
digits_read (suc k) (a ∷ []) is none = absurd (omega (arith, is))
digits_read (suc k) (a ∷ b ∷ rest) is none =
    read_by (hex_digit_value a) (hex_digit_value b) (map digit_or_255 rest) (bytes_in rest) (small a) (small b) none (λ left. digits_read k rest (omega (arith, is)) left)

refused_by : (a b : Option ℕ) (rest : List ℕ) (o : Option (List ℕ)) → IsDigit a → IsDigit b → list_any is_no_value (or_255 a ∷ or_255 b ∷ rest) ≡ true
    → (list_any is_no_value rest ≡ true → None ≡ o) → None ≡ joined (byte_by a b) o
refused_by None b rest o a_small b_small any go = refl
refused_by (Some x) None rest o a_small b_small any go = refl
refused_by (Some x) (Some y) rest o (inl a_small) (inl b_small) any go =
    ap (joined (Some (x * 16 + y))) (go (grind (arith, nat_tests, any, a_small, b_small)))
refused_by (Some x) (Some y) rest o (inr a_none) b_small any go = absurd cc
refused_by (Some x) (Some y) rest o (inl a_small) (inr b_none) any go = absurd cc

pub digits_refused : (k : ℕ) (digits : List ℕ) → length digits ≡ 2 * k → list_any is_no_value (map digit_or_255 digits) ≡ true → None ≡ bytes_in digits
unfolding bytes_in
digits_refused zero [] is any = absurd cc
digits_refused zero (a ∷ rest) is any = absurd (omega (arith, is))
digits_refused (suc k) [] is any = absurd (omega (arith, is))
digits_refused (suc k) (a ∷ []) is any = refl
digits_refused (suc k) (a ∷ b ∷ rest) is any =
    refused_by (hex_digit_value a) (hex_digit_value b) (map digit_or_255 rest) (bytes_in rest) (small a) (small b) any (λ left. digits_refused k rest (omega (arith, is)) left)
