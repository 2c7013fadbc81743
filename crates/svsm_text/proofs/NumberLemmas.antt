-- The value of hex digits.
use Rattle.std.proofs.Common.{◌≡◌, ℕ, zero, suc, ◌+◌, ◌*◌, ◌^◌, ◌<◌, ◌≤◌, Bool, true, nat_eq, subst, ◌-◌, ◌/◌, ◌%◌, nat_lt, List, [], ◌∷◌, ◌++◌, length, take, drop, set, get_or, refl, sym, ◌∙◌, ap, arith}
use Rattle.std.specs.Prelude.{Some, codes, nat_le, ◌&&◌, false, if◌then◌else◌}
use Rattle.std.specs.Fmt.{digits, digits_onto, digit_glyph}
use Rattle.std.proofs.lemmas.Fmt.{digits_is_IsNumeral}
use Rattle.svsm_text.specs.Numbers.{are_digits, number_in, number}
use Rattle.std.proofs.Math.Nat.{pow-le-pow_right, pow-le-pow_left, pow-suc}
use Rattle.std.specs.Str.Parse.{AllDigits, digits_value}
use Rattle.std.specs.Char.{digit_value, is_digit}
use Rattle.std.specs.List.{list_all}
use Rattle.std.proofs.lemmas.Bool.Decides.{nat_tests}
use Rattle.std.proofs.lemmas.Grind.{drop-set_at}
use Rattle.std.proofs.lemmas.List.{drop-set}
use Rattle.std.proofs.lemmas.List.Folds.{list_all_more}
use Rattle.std.proofs.lemmas.Int.Digits.{digits_value-lt, digits_value_more}

-- there is room for one more digit
pub room : (ds : List ℕ) → AllDigits 16 ds → length ds < 16 → digits_value 16 ds * 16 + 15 < 2 ^ 64
room ds all short =
    let small : digits_value 16 ds < 16 ^ length ds = digits_value-lt 16 ds all in
    let below : length ds ≤ 15 = omega arith in
    let most : 16 ^ length ds ≤ 16 ^ 15 = pow-le-pow_right (omega arith) below in
    omega (arith, small, most)

below_passes : (m n : ℕ) → m < n → nat_lt m n ≡ true
below_passes m n below = grind (arith, nat_tests)

digit_passes : (c : ℕ) → digit_value c < 16 → is_digit c 16 ≡ true
digit_passes c below = below_passes (digit_value c) 16 below

pub more_pass : (ds : List ℕ) (at : ℕ) → at < length ds → list_all (λ c. is_digit c 16) (take at ds) ≡ true → digit_value (get_or ds at 0) < 16
    → list_all (λ c. is_digit c 16) (take (at + 1) ds) ≡ true
more_pass ds at within pass digit =
    list_all_more (λ c. is_digit c 16) ds at 0 within ∙ rw pass (digit_passes (get_or ds at 0) digit)

pub more_value : (ds : List ℕ) (at value digit : ℕ) → at < length ds → value ≡ digits_value 16 (take at ds) → digit ≡ digit_value (get_or ds at 0)
    → value * 16 + digit ≡ digits_value 16 (take (at + 1) ds)
more_value ds at value digit within is next = rw (is, next) (sym (digits_value_more 16 ds at within))

all_digits : (ds : List ℕ) → AllDigits 16 ds → list_all (λ c. is_digit c 16) ds ≡ true
all_digits [] all = refl
all_digits (d ∷ ds) all = rw (digit_passes d all.0) (all_digits ds all.1)

power : (j : ℕ) → 16 ^ suc j ≡ 16 ^ j * 16
power j = pow-suc 16 j

onto_step : (k n : ℕ) (acc : List ℕ) (t : Bool) → nat_eq (n / 16) 0 ≡ t
    → digits_onto (suc k) 16 false n acc ≡ (if t then digit_glyph false (n % 16) ∷ acc else digits_onto k 16 false (n / 16) (digit_glyph false (n % 16) ∷ acc))
onto_step k n acc t is = ap (λ (b : Bool). if b then digit_glyph false (n % 16) ∷ acc else digits_onto k 16 false (n / 16) (digit_glyph false (n % 16) ∷ acc)) is

equal : (m n : ℕ) → nat_eq m n ≡ true → m ≡ n
equal m n is = grind (arith, nat_tests)

differ : (m n : ℕ) → nat_eq m n ≡ false → m ≡ n → ⊥
differ m n is same = grind (arith, nat_tests)

lower : (n p : ℕ) → n < p * 16 → n / 16 < p
lower n p small = omega arith

none_over : (n : ℕ) → n < 16 ^ 1 → n / 16 ≡ 0
none_over n small = omega arith

onto_by : (k j n : ℕ) (acc : List ℕ) (t : Bool) → nat_eq (n / 16) 0 ≡ t → n < 16 ^ suc j
    → ((i : ℕ) → n / 16 < 16 ^ suc i → length (digits_onto k 16 false (n / 16) (digit_glyph false (n % 16) ∷ acc)) ≤ suc i + suc (length acc))
    → length (digits_onto (suc k) 16 false n acc) ≤ suc j + length acc
onto_by k j n acc true is small later = omega (arith, ap length (onto_step k n acc true is))
onto_by k zero n acc false is small later = absurd (differ (n / 16) 0 is (none_over n small))
onto_by k (suc i) n acc false is small later =
    let below : n / 16 < 16 ^ suc i = lower n (16 ^ suc i) (subst (λ (p : ℕ). n < p) (power (suc i)) small) in
    omega (arith, ap length (onto_step k n acc false is), later i below)

onto_length : (k j n : ℕ) (acc : List ℕ) → n < 16 ^ suc j → length (digits_onto k 16 false n acc) ≤ suc j + length acc
onto_length zero j n acc small = omega arith
onto_length (suc k) j n acc small =
    onto_by k j n acc (nat_eq (n / 16) 0) refl small (λ i below. onto_length k i (n / 16) (digit_glyph false (n % 16) ∷ acc) below)

both_hold : {a b : Bool} → a ≡ true → b ≡ true → (a && b) ≡ true
both_hold {a} {b} p q = rw p q

up_to : (m n : ℕ) → m ≤ n → nat_le m n ≡ true
up_to m n le = grind (arith, nat_tests)

number_of : (ds : List ℕ) (n : ℕ) → are_digits ds ≡ true → digits_value 16 ds ≡ n → number_in (codes "0x" ++ ds) ≡ Some n
number_of ds n whole value = simp (whole, value)

pub digits_short : (n : ℕ) → n < 2 ^ 64 → length (digits 16 false n) ≤ 16
unfolding digits
digits_short n small = onto_length 64 15 n [] small

far : (n a b : ℕ) → n < a → a ≤ b → n < b
far n a b low high = omega arith

-- what `put_hex` writes is read again
pub read_again : (n : ℕ) → n < 2 ^ 64 → number_in (number n) ≡ Some n
read_again n small =
    let numeral = digits_is_IsNumeral 16 false (omega arith) (omega arith) n (far n (2 ^ 64) (16 ^ 64) small (pow-le-pow_left {n = 2} {m = 16} (omega arith) 64)) in
    let whole : are_digits (digits 16 false n) ≡ true = both_hold (below_passes 0 (length (digits 16 false n)) numeral.0.0) (both_hold (up_to _ 16 (digits_short n small)) (all_digits (digits 16 false n) numeral.0.1)) in
    number_of (digits 16 false n) n whole numeral.1

none_left : (n : ℕ) → n < 16 → nat_eq (n / 16) 0 ≡ true
none_left n small = grind (arith, nat_tests)

more_left : (n : ℕ) → 16 ≤ n → nat_eq (n / 16) 0 ≡ false
more_left n large = grind (arith, nat_tests)

-- digits stand in front of what is there
onto_front : (k n : ℕ) (acc rest : List ℕ) → digits_onto k 16 false n (acc ++ rest) ≡ digits_onto k 16 false n acc ++ rest
onto_front zero n acc rest = refl
onto_front (suc k) n acc rest = by_end (nat_eq (n / 16) 0) (onto_front k (n / 16) (digit_glyph false (n % 16) ∷ acc) rest)
  where
    by_end : (t : Bool)
        → digits_onto k 16 false (n / 16) ((digit_glyph false (n % 16) ∷ acc) ++ rest)
        ≡ digits_onto k 16 false (n / 16) (digit_glyph false (n % 16) ∷ acc) ++ rest
        → (if t then digit_glyph false (n % 16) ∷ (acc ++ rest) else digits_onto k 16 false (n / 16) (digit_glyph false (n % 16) ∷ (acc ++ rest)))
        ≡ (if t then digit_glyph false (n % 16) ∷ acc else digits_onto k 16 false (n / 16) (digit_glyph false (n % 16) ∷ acc)) ++ rest
    by_end true more = refl
    by_end false more = more

-- at first no digit is written
pub written_none : (fuel n at end : ℕ) (text : List ℕ) → fuel ≡ 64 → at ≡ end → digits_onto fuel 16 false n (drop at text) ≡ digits 16 false n ++ drop end text
unfolding digits
written_none fuel n at end text all same =
    onto_front fuel n [] (drop at text)
    ∙ (ap (λ (k : ℕ). digits_onto fuel 16 false n [] ++ drop k text) same ∙ ap (λ (k : ℕ). digits_onto k 16 false n [] ++ drop end text) all)

-- there is room for all digits of a word
pub room_all : (places n : ℕ) → places ≡ 16 → n < 2 ^ 64 → n < 16 ^ places
room_all places n all small = subst (λ (p : ℕ). n < 16 ^ p) (sym all) small

-- with a digit more written in front, a digit less is left to write
pub written_more : (k fuel n at next : ℕ) (text : List ℕ) → fuel ≡ suc k → next ≡ at → at < length text → 16 ≤ n
    → digits_onto k 16 false (n / 16) (drop next (set text at (digit_glyph false (n % 16)))) ≡ digits_onto fuel 16 false n (drop (at + 1) text)
written_more k fuel n at next text more same within large =
    ap (digits_onto k 16 false (n / 16)) (drop-set_at text at next (digit_glyph false (n % 16)) same within)
    ∙ sym (ap (λ (j : ℕ). digits_onto j 16 false n (drop (at + 1) text)) more ∙ onto_step k n (drop (at + 1) text) false (more_left n large))

-- the last digit to write
pub written_last : (k fuel n at : ℕ) (text : List ℕ) → fuel ≡ suc k → at < length text → n < 16
    → drop at (set text at (digit_glyph false n)) ≡ digits_onto fuel 16 false n (drop (at + 1) text)
written_last k fuel n at text more within small =
    drop-set text at (digit_glyph false n) within
    ∙ ap (λ (d : ℕ). digit_glyph false d ∷ drop (at + 1) text) (omega arith)
    ∙ sym (ap (λ (j : ℕ). digits_onto j 16 false n (drop (at + 1) text)) more ∙ onto_step k n (drop (at + 1) text) true (none_left n small))

-- where a digit more is left to write, there is room for it
pub room_more : (places fewer n : ℕ) → fewer ≡ places - 1 → 1 ≤ places → 16 ≤ n → n < 16 ^ places → (1 ≤ fewer) × (n / 16 < 16 ^ fewer)
room_more zero fewer n one low large small = absurd (omega arith)
room_more (suc zero) fewer n one low large small = absurd (omega arith)
room_more (suc (suc j)) fewer n one low large small =
    let same : suc j ≡ fewer = omega arith in
    (omega arith, subst (λ (i : ℕ). n / 16 < 16 ^ i) same (lower n (16 ^ suc j) (subst (λ (p : ℕ). n < p) (power (suc j)) small)))
