-- The table of hex digits.
use Rattle.std.proofs.Common.{◌≡◌, ℕ, zero, suc, ◌<◌, ◌≤◌, Bool, true, false, ◌&&◌, ◌∷◌, [], List, get_or, inl, inr, refl, arith, ltb, cond}
use Rattle.std.specs.Prelude.{◌==◌}
use Rattle.std.specs.Char.{digit_value}
use Rattle.std.specs.Fmt.{digit_glyph}
use Rattle.std.proofs.lemmas.Bool.{and_parts, cases_lt, eqb-true}
use Rattle.std.proofs.lemmas.Bool.Decides.{nat_tests}

abbrev pub values : List ℕ
values = 255 ∷ 255 ∷ 255 ∷ 255 ∷ 255 ∷ 255 ∷ 255 ∷ 255 ∷ 255 ∷ 255 ∷ 255 ∷ 255 ∷ 255 ∷ 255 ∷ 255 ∷ 255 ∷ 255 ∷ 255 ∷ 255 ∷ 255 ∷ 255 ∷ 255 ∷ 255 ∷ 255 ∷ 255 ∷ 255 ∷ 255 ∷ 255 ∷ 255 ∷ 255 ∷ 255 ∷ 255 ∷ 255 ∷ 255 ∷ 255 ∷ 255 ∷ 255 ∷ 255 ∷ 255 ∷ 255 ∷ 255 ∷ 255 ∷ 255 ∷ 255 ∷ 255 ∷ 255 ∷ 255 ∷ 255 ∷ 0 ∷ 1 ∷ 2 ∷ 3 ∷ 4 ∷ 5 ∷ 6 ∷ 7 ∷ 8 ∷ 9 ∷ 255 ∷ 255 ∷ 255 ∷ 255 ∷ 255 ∷ 255 ∷ 255 ∷ 10 ∷ 11 ∷ 12 ∷ 13 ∷ 14 ∷ 15 ∷ 255 ∷ 255 ∷ 255 ∷ 255 ∷ 255 ∷ 255 ∷ 255 ∷ 255 ∷ 255 ∷ 255 ∷ 255 ∷ 255 ∷ 255 ∷ 255 ∷ 255 ∷ 255 ∷ 255 ∷ 255 ∷ 255 ∷ 255 ∷ 255 ∷ 255 ∷ 255 ∷ 255 ∷ 255 ∷ 255 ∷ 10 ∷ 11 ∷ 12 ∷ 13 ∷ 14 ∷ 15 ∷ 255 ∷ 255 ∷ 255 ∷ 255 ∷ 255 ∷ 255 ∷ 255 ∷ 255 ∷ 255 ∷ 255 ∷ 255 ∷ 255 ∷ 255 ∷ 255 ∷ 255 ∷ 255 ∷ 255 ∷ 255 ∷ 255 ∷ 255 ∷ 255 ∷ 255 ∷ 255 ∷ 255 ∷ 255 ∷ 255 ∷ 255 ∷ 255 ∷ 255 ∷ 255 ∷ 255 ∷ 255 ∷ 255 ∷ 255 ∷ 255 ∷ 255 ∷ 255 ∷ 255 ∷ 255 ∷ 255 ∷ 255 ∷ 255 ∷ 255 ∷ 255 ∷ 255 ∷ 255 ∷ 255 ∷ 255 ∷ 255 ∷ 255 ∷ 255 ∷ 255 ∷ 255 ∷ 255 ∷ 255 ∷ 255 ∷ 255 ∷ 255 ∷ 255 ∷ 255 ∷ 255 ∷ 255 ∷ 255 ∷ 255 ∷ 255 ∷ 255 ∷ 255 ∷ 255 ∷ 255 ∷ 255 ∷ 255 ∷ 255 ∷ 255 ∷ 255 ∷ 255 ∷ 255 ∷ 255 ∷ 255 ∷ 255 ∷ 255 ∷ 255 ∷ 255 ∷ 255 ∷ 255 ∷ 255 ∷ 255 ∷ 255 ∷ 255 ∷ 255 ∷ 255 ∷ 255 ∷ 255 ∷ 255 ∷ 255 ∷ 255 ∷ 255 ∷ 255 ∷ 255 ∷ 255 ∷ 255 ∷ 255 ∷ 255 ∷ 255 ∷ 255 ∷ 255 ∷ 255 ∷ 255 ∷ 255 ∷ 255 ∷ 255 ∷ 255 ∷ 255 ∷ 255 ∷ 255 ∷ 255 ∷ 255 ∷ 255 ∷ 255 ∷ 255 ∷ 255 ∷ 255 ∷ 255 ∷ 255 ∷ 255 ∷ 255 ∷ 255 ∷ 255 ∷ 255 ∷ 255 ∷ 255 ∷ 255 ∷ 255 ∷ 255 ∷ 255 ∷ 255 ∷ 255 ∷ 255 ∷ 255 ∷ 255 ∷ 255 ∷ 255 ∷ 255 ∷ 255 ∷ 255 ∷ 255 ∷ 255 ∷ 255 ∷ 255 ∷ 255 ∷ 255 ∷ 255 ∷ 255 ∷ 255 ∷ []

abbrev pub cut : ℕ → ℕ
cut value = cond (ltb value 16) value 255

abbrev are_values : ℕ → Bool
are_values zero = true
are_values (suc n) = (get_or values n 0 == cut (digit_value n)) && are_values n

are_values_at : (n byte : ℕ) → are_values n ≡ true → byte < n → get_or values byte 0 ≡ cut (digit_value byte)
are_values_at zero byte all within = absurd (omega (arith, within))
are_values_at (suc n) byte all within =
    let parts = and_parts (get_or values n 0 == cut (digit_value n)) (are_values n) all in
    elim (cases_lt byte n) [
      | inl less ↦ are_values_at n byte parts.1 less
      | inr here ↦
          let same : byte ≡ n = omega (arith, within, here) in
          rw same (eqb-true (get_or values n 0) (cut (digit_value n)) parts.0)
    ]

all_values : are_values 256 ≡ true
all_values = refl

pub value_at : (byte : ℕ) → byte < 256 → get_or values byte 0 ≡ cut (digit_value byte)
value_at byte within = are_values_at 256 byte all_values within

cut_by : (t : Bool) (value entry : ℕ) → ltb value 16 ≡ t → entry ≡ cond t value 255 → (entry < 16 → value < 16 × entry ≡ value) × (16 ≤ entry → value < 16 → ⊥)
cut_by true value entry test is = (λ small. (omega (arith, is, small), is), λ great below. omega (arith, is, great, below))
cut_by false value entry test is = (λ small. absurd (omega (arith, is, small)), λ great below. absurd (grind (arith, nat_tests, test, below)))

pub small_value : (byte : ℕ) → byte < 256 → get_or values byte 0 < 16 → digit_value byte < 16 × get_or values byte 0 ≡ digit_value byte
small_value byte within small = (cut_by (ltb (digit_value byte) 16) (digit_value byte) (get_or values byte 0) refl (value_at byte within)).0 small

pub great_value : (byte : ℕ) → byte < 256 → 16 ≤ get_or values byte 0 → digit_value byte < 16 → ⊥
great_value byte within great below = (cut_by (ltb (digit_value byte) 16) (digit_value byte) (get_or values byte 0) refl (value_at byte within)).1 great below

abbrev pub glyphs : List ℕ
glyphs = 48 ∷ 49 ∷ 50 ∷ 51 ∷ 52 ∷ 53 ∷ 54 ∷ 55 ∷ 56 ∷ 57 ∷ 97 ∷ 98 ∷ 99 ∷ 100 ∷ 101 ∷ 102 ∷ []

abbrev are_glyphs : ℕ → Bool
are_glyphs zero = true
are_glyphs (suc n) = (get_or glyphs n 0 == digit_glyph false n) && are_glyphs n

are_glyphs_at : (n digit : ℕ) → are_glyphs n ≡ true → digit < n → get_or glyphs digit 0 ≡ digit_glyph false digit
are_glyphs_at zero digit all within = absurd (omega (arith, within))
are_glyphs_at (suc n) digit all within =
    let parts = and_parts (get_or glyphs n 0 == digit_glyph false n) (are_glyphs n) all in
    elim (cases_lt digit n) [
      | inl less ↦ are_glyphs_at n digit parts.1 less
      | inr here ↦
          let same : digit ≡ n = omega (arith, within, here) in
          rw same (eqb-true (get_or glyphs n 0) (digit_glyph false n) parts.0)
    ]

all_glyphs : are_glyphs 16 ≡ true
all_glyphs = refl

pub glyph_at : (digit : ℕ) → digit < 16 → get_or glyphs digit 0 ≡ digit_glyph false digit
glyph_at digit within = are_glyphs_at 16 digit all_glyphs within
