-- The first space of a front.
use Rattle.std.proofs.Common.{◌≡◌, ℕ, suc, ◌+◌, ◌*◌, ◌<◌, ◌≤◌, Bool, true, false, cond, List, [], ◌∷◌, map, length, length-take, take, get_or, ap, subst, ◌∙◌, arith}
use Rattle.std.specs.Prelude.{not}
use Rattle.std.specs.List.{prefix_len}
use Rattle.std.proofs.lemmas.Simd.{trailing_mask_l, run_in_chunk_fails, run_in_chunk_stops}
use lib.Count.{count_trailing_zeros}
use lib.Lanes.{mask_l}
use Rattle.memchr.specs.Find.{NoneBefore, Passes, is_byte}

set_by : (m : Bool) (rest n k : ℕ) → 0 < cond m 1 0 + 2 * rest → (0 < rest → k < n) → cond (not m) (1 + k) 0 < suc n
set_by true rest n k some more = omega arith
set_by false rest n k some more = omega (arith, more (omega (arith, some)))

-- a set bit stands at a lane
set_within : (p : ℕ → Bool) (xs : List ℕ) → 0 < mask_l (map p xs) → prefix_len (λ x. not (p x)) xs < length xs
set_within p [] some = absurd (omega (arith, some))
set_within p (x ∷ xs) some = set_by (p x) (mask_l (map p xs)) (length xs) (prefix_len (λ y. not (p y)) xs) some (λ left. set_within p xs left)

pub first_in_front : (byte : ℕ) (bytes : List ℕ) (m : ℕ) → 16 ≤ length bytes → m ≡ mask_l (map (is_byte byte) (take 16 bytes)) → 0 < m
    → NoneBefore (Passes (is_byte byte) bytes) 0 (length bytes) (count_trailing_zeros 64 m) × Passes (is_byte byte) bytes (count_trailing_zeros 64 m)
first_in_front byte bytes m long is some =
    let front = take 16 bytes in
    let size : length front ≡ 16 = omega (arith, length-take 16 bytes, long) in
    let set : 0 < mask_l (map (is_byte byte) front) = omega (arith, is, some) in
    let counted : count_trailing_zeros 64 m ≡ prefix_len (λ x. not (is_byte byte x)) front =
    ap (count_trailing_zeros 64) is ∙ trailing_mask_l (is_byte byte) 64 front (omega (arith, size)) set in
    let within : count_trailing_zeros 64 m < 16 = omega (arith, counted, size, set_within (is_byte byte) front set) in (
      record {
        low = omega arith;
        high = omega (arith, within, long);
        before = λ k low high passes. clash (run_in_chunk_fails (is_byte byte) bytes 0 16 (count_trailing_zeros 64 m) 0 long counted k low (omega (arith, high))) passes;
      },
      subst (λ (at : ℕ). is_byte byte (get_or bytes at 0) ≡ true) (omega arith) (run_in_chunk_stops (is_byte byte) bytes 0 16 (count_trailing_zeros 64 m) 0 long counted within),
    )
  where
    clash : {t : Bool} → t ≡ false → t ≡ true → ⊥
    clash lacks has = absurd cc
