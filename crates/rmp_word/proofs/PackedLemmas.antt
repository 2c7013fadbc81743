-- What is packed is unpacked.
use Rattle.std.proofs.Common.{◌≡◌, ℕ, zero, suc, ◌+◌, ◌*◌, ◌/◌, ◌%◌, ◌≤◌, ◌<◌, Bool, true, false, List, [], ◌∷◌, refl, ap, ◌∙◌, arith}
use Rattle.std.specs.Prelude.{◌==◌, ◌&&◌, nat_lt, bit_and, if◌then◌else◌, Option, Some}
use Rattle.std.proofs.lemmas.Bool.{eq-eqb, lt-ltb}
use Rattle.std.proofs.lemmas.Nat.Bits.{and_pow}
use Rattle.svsm_types.specs.Hardware.{has_bit, is_usable}
use Rattle.svsm_types.specs.declared.platform.Perms.{Perms}
use Rattle.svsm_types.specs.declared.platform.PageState.{PageState}
use Rattle.rmp_word.specs.Packed.{as_bit, right_at, packed, state_of, is_in_layout, unpacked, HasRights}

number_low : (b : Bool) → as_bit b ≤ 1
number_low true = omega arith
number_low false = omega arith

number_is : (b : Bool) → (as_bit b == 1) ≡ b
number_is true = refl
number_is false = refl

abbrev make : Bool → Bool → Bool → ℕ → ℕ → ℕ → PageState
make a v m x y z = record { assigned = a; validated = v; rights = record { 0 = x } ∷ record { 0 = y } ∷ record { 0 = z } ∷ []; vmsa = m }

same_make : (a b v w m n : Bool) (x p y q z r : ℕ) → a ≡ b → v ≡ w → m ≡ n → x ≡ p → y ≡ q → z ≡ r → make a v m x y z ≡ make b w n p q r
same_make a b v w m n x p y q z r e f g h i j =
    ap (λ (k : Bool). make k v m x y z) e ∙ ap (λ (k : Bool). make b k m x y z) f ∙ ap (λ (k : Bool). make b w k x y z) g
    ∙ ap (λ (k : ℕ). make b w n k y z) h ∙ ap (λ (k : ℕ). make b w n p k z) i ∙ ap (λ (k : ℕ). make b w n p q k) j

parts : (a v m x y z : ℕ) → a ≤ 1 → v ≤ 1 → m ≤ 1 → x ≤ 15 → y ≤ 15 → z ≤ 15
    → let word = a + 2 * v + 4 * m + 16 * x + 256 * y + 4096 * z in
    (word / 1 % 2 ≡ a) × (word / 2 % 2 ≡ v) × (word / 4 % 2 ≡ m) × (word / 16 % 16 ≡ x) × (word / 256 % 16 ≡ y) × (word / 4096 % 16 ≡ z)
parts a v m x y z ha hv hm hx hy hz = (omega arith, omega arith, omega arith, omega arith, omega arith, omega arith)

state_packed : (a v m : Bool) (x y z : ℕ) → x ≤ 15 → y ≤ 15 → z ≤ 15 → state_of (packed (make a v m x y z)) ≡ make a v m x y z
unfolding state_of packed
state_packed a v m x y z hx hy hz =
    let p = parts (as_bit a) (as_bit v) (as_bit m) x y z (number_low a) (number_low v) (number_low m) hx hy hz in
    same_make _ a _ v _ m _ x _ y _ z
    (ap (λ (n : ℕ). n == 1) p.0 ∙ number_is a) (ap (λ (n : ℕ). n == 1) p.1 ∙ number_is v) (ap (λ (n : ℕ). n == 1) p.2 ∙ number_is m) p.3 p.4 p.5

of_rights : (a v m : Bool) (rights : List Perms) → let page : PageState = record { assigned = a; validated = v; rights = rights; vmsa = m } in
    HasRights page → state_of (packed page) ≡ page
of_rights a v m [] h = absurd (omega (arith, h.0))
of_rights a v m (x ∷ []) h = absurd (omega (arith, h.0))
of_rights a v m (x ∷ y ∷ []) h = absurd (omega (arith, h.0))
of_rights a v m (x ∷ y ∷ z ∷ []) h = state_packed a v m x.0 y.0 z.0 h.1 h.2 h.3
of_rights a v m (x ∷ y ∷ z ∷ w ∷ rights) h = absurd (omega (arith, h.0))

pub unpack_pack : (page : PageState) → HasRights page → state_of (packed page) ≡ page
unpack_pack page h = of_rights page.assigned page.validated page.vmsa page.rights h

-- what is packed has no other bit
within : (a v m x y z : ℕ) → a ≤ 1 → v ≤ 1 → m ≤ 1 → x ≤ 15 → y ≤ 15 → z ≤ 15
    → is_in_layout (a + 2 * v + 4 * m + 16 * x + 256 * y + 4096 * z) ≡ true
within a v m x y z ha hv hm hx hy hz =
    let low : a + 2 * v + 4 * m + 16 * x + 256 * y + 4096 * z < 65536 = omega arith in
    let none : (a + 2 * v + 4 * m + 16 * x + 256 * y + 4096 * z) / 8 % 2 ≡ 0 = omega arith in
    ap (λ (b : Bool). b && nat_lt (a + 2 * v + 4 * m + 16 * x + 256 * y + 4096 * z) 65536) (eq-eqb _ 0 none) ∙ lt-ltb _ _ low

pub unpacked_packed : (page : PageState) → HasRights page → unpacked (packed page) ≡ Some page
unfolding packed
unpacked_packed page h =
    if_so _ _ _ (within (as_bit page.assigned) (as_bit page.validated) (as_bit page.vmsa) (right_at 0 page) (right_at 1 page) (right_at 2 page)
    (number_low page.assigned) (number_low page.validated) (number_low page.vmsa) h.1 h.2 h.3)
    ∙ ap Some (unpack_pack page h)
  where
    if_so : (b : Bool) (x y : Option PageState) → b ≡ true → (if b then x else y) ≡ x
    if_so true x y h = refl
    if_so false x y h = cc

-- the word of what was unpacked

bit_is : (b : ℕ) → b < 2 → as_bit (b == 1) ≡ b
bit_is zero h = refl
bit_is (suc zero) h = refl
bit_is (suc (suc b)) h = absurd (omega arith)

whole : (w : ℕ) → w / 8 % 2 ≡ 0 → w < 65536
    → w / 1 % 2 + 2 * (w / 2 % 2) + 4 * (w / 4 % 2) + 16 * (w / 16 % 16) + 256 * (w / 256 % 16) + 4096 * (w / 4096 % 16) ≡ w
whole w h k = omega arith

pub packed_state : (w : ℕ) → w / 8 % 2 ≡ 0 → w < 65536 → packed (state_of w) ≡ w
unfolding packed state_of
packed_state w h k =
    let a : as_bit (has_bit 1 w) ≡ w / 1 % 2 = bit_is (w / 1 % 2) (omega arith) in
    let v : as_bit (has_bit 2 w) ≡ w / 2 % 2 = bit_is (w / 2 % 2) (omega arith) in
    let m : as_bit (has_bit 4 w) ≡ w / 4 % 2 = bit_is (w / 4 % 2) (omega arith) in
    let e = whole w h k in
    omega (arith, a, v, m, e)

-- THE TEST OF ONE BIT

bit_test : (b unit : ℕ) → 0 < unit → b < 2 → (b * unit == unit) ≡ (b == 1)
bit_test zero unit h k = grind arith
bit_test (suc zero) unit h k = eq-eqb _ _ (omega arith)
bit_test (suc (suc b)) unit h k = absurd (omega arith)

pub bit_0 : (w : ℕ) → (bit_and w 1 == 1) ≡ has_bit 1 w
bit_0 w = ap (λ (n : ℕ). n == 1) (and_pow w 0) ∙ bit_test (w / 1 % 2) 1 (omega arith) (omega arith)

pub bit_1 : (w : ℕ) → (bit_and w 2 == 2) ≡ has_bit 2 w
bit_1 w = ap (λ (n : ℕ). n == 2) (and_pow w 1) ∙ bit_test (w / 2 % 2) 2 (omega arith) (omega arith)

pub bit_2 : (w : ℕ) → (bit_and w 4 == 4) ≡ has_bit 4 w
bit_2 w = ap (λ (n : ℕ). n == 4) (and_pow w 2) ∙ bit_test (w / 4 % 2) 4 (omega arith) (omega arith)

-- the two lowest bits at once
both : (a b : ℕ) → a < 2 → b < 2 → (a + 2 * b == 3) ≡ ((a == 1) && (b == 1))
both zero zero h k = refl
both zero (suc zero) h k = refl
both (suc zero) zero h k = refl
both (suc zero) (suc zero) h k = refl
both (suc (suc a)) b h k = absurd (omega arith)
both a (suc (suc b)) h k = absurd (omega arith)

low_bits : (w : ℕ) → w % 4 ≡ w / 1 % 2 + 2 * (w / 2 % 2)
low_bits w = omega arith

pub both_low : (w : ℕ) → (w % 4 == 3) ≡ is_usable (state_of w)
unfolding state_of
both_low w = ap (λ (n : ℕ). n == 3) (low_bits w) ∙ both (w / 1 % 2) (w / 2 % 2) (omega arith) (omega arith)
