-- Where a line ends.
use Rattle.std.proofs.Common.{◌≡◌, ℕ, suc, ◌+◌, ◌-◌, ◌<◌, ◌≤◌, Bool, true, false, nat_eq, List, [], ◌∷◌, length, take, drop, refl, sym, ◌∙◌, ap, arith, length-drop}
use Rattle.std.specs.Prelude.{Option, Some, None, min, not, slice_range, if◌then◌else◌}
use Rattle.std.specs.List.{position_or_len, onto_first, before_first, after_first}
use Rattle.std.proofs.lemmas.Bool.Decides.{nat_tests}
use Rattle.std.proofs.lemmas.List.Sums.{position_or_len_is, prefix_len-le-length}
use Rattle.std.proofs.lemmas.List.{drop-drop, drop_min, drop_all}
use Rattle.memchr.specs.Find.{IsFirstByte, is_byte}
use Rattle.svsm_text.specs.Lines.{is_newline, lines, line_end, next_line}

not_passed : (t : Bool) → (t ≡ true → ⊥) → t ≡ false
not_passed true passes = absurd (passes refl)
not_passed false _ = refl

-- what a search for a byte finds
pub found_byte : (byte : ℕ) (bytes : List ℕ) (at : ℕ) → IsFirstByte (is_byte byte) bytes (Some at) → position_or_len (is_byte byte) bytes ≡ at
found_byte byte bytes at h =
    position_or_len_is (is_byte byte) bytes at 0 (omega (arith, h.0.high)) (λ k below. not_passed _ (h.0.before k (omega arith) below)) (λ _. h.1)

pub not_found_byte : (byte : ℕ) (bytes : List ℕ) → IsFirstByte (is_byte byte) bytes None → position_or_len (is_byte byte) bytes ≡ length bytes
not_found_byte byte bytes h =
    position_or_len_is (is_byte byte) bytes (length bytes) 0 (omega arith) (λ k below. not_passed _ (h k (omega arith) below)) (λ past. absurd (omega arith))

found : (bytes : List ℕ) (at : ℕ) → IsFirstByte (is_byte 10) bytes (Some at) → position_or_len is_newline bytes ≡ at
found bytes at h = found_byte 10 bytes at h

not_found : (bytes : List ℕ) → IsFirstByte (is_byte 10) bytes None → position_or_len is_newline bytes ≡ length bytes
not_found bytes h = not_found_byte 10 bytes h

ended : (bytes : List ℕ) (from end : ℕ) → (from ≡ length bytes → ⊥) → line_end bytes from ≡ end → next_line bytes from ≡ Some (end, min (end + 1) (length bytes))
ended bytes from end more is = grind (arith, nat_tests)

pub line_found : (bytes : List ℕ) (from at : ℕ) → from ≤ length bytes → IsFirstByte (is_byte 10) (drop from bytes) (Some at)
    → Some (from + at, from + at + 1) ≡ next_line bytes from
line_found bytes from at within h =
    let below : at < length bytes - from = omega (arith, h.0.high, length-drop from bytes) in
    let more : from ≡ length bytes → ⊥ = λ e. omega arith in
    let is : line_end bytes from ≡ from + at = ap (λ (n : ℕ). from + n) (found (drop from bytes) at h) in
    let least : min (from + at + 1) (length bytes) ≡ from + at + 1 = omega arith in
    sym (ended bytes from (from + at) more is ∙ ap (λ (n : ℕ). Some (from + at, n)) least)

pub line_not_found : (bytes : List ℕ) (from : ℕ) → from ≤ length bytes → (from ≡ length bytes → ⊥) → IsFirstByte (is_byte 10) (drop from bytes) None
    → Some (length bytes, length bytes) ≡ next_line bytes from
line_not_found bytes from within more h =
    let is : line_end bytes from ≡ length bytes = ap (λ (n : ℕ). from + n) (not_found (drop from bytes) h) ∙ omega (arith, length-drop from bytes) in
    let least : min (length bytes + 1) (length bytes) ≡ length bytes = omega arith in
    sym (ended bytes from (length bytes) more is ∙ ap (λ (n : ℕ). Some (length bytes, n)) least)

at_newline : (b : ℕ) (bs : List ℕ) → is_newline b ≡ true → lines (b ∷ bs) ≡ before_first is_newline (b ∷ bs) ∷ lines (after_first is_newline (b ∷ bs))
at_newline b bs is = simp is

at_last : (b : ℕ) → is_newline b ≡ false → lines (b ∷ []) ≡ before_first is_newline (b ∷ []) ∷ lines (after_first is_newline (b ∷ []))
at_last b is = simp is

onto_lines : (b : ℕ) (bs : List ℕ) → is_newline b ≡ false → lines (b ∷ bs) ≡ onto_first b (lines bs)
onto_lines b bs is = simp is

at_other : (b x : ℕ) (bs : List ℕ) → is_newline b ≡ false → lines (x ∷ bs) ≡ before_first is_newline (x ∷ bs) ∷ lines (after_first is_newline (x ∷ bs))
    → lines (b ∷ (x ∷ bs)) ≡ before_first is_newline (b ∷ (x ∷ bs)) ∷ lines (after_first is_newline (b ∷ (x ∷ bs)))
at_other b x bs is more =
    let n = position_or_len is_newline (x ∷ bs) in
    let further : position_or_len is_newline (b ∷ (x ∷ bs)) ≡ 1 + position_or_len is_newline (x ∷ bs) = simp is in
    let at : position_or_len is_newline (b ∷ (x ∷ bs)) ≡ suc n = further ∙ omega arith in
    let next : position_or_len is_newline (b ∷ (x ∷ bs)) + 1 ≡ suc (n + 1) = ap (λ (m : ℕ). m + 1) further ∙ omega arith in
    let before : before_first is_newline (b ∷ (x ∷ bs)) ≡ b ∷ before_first is_newline (x ∷ bs) = ap (λ (m : ℕ). take m (b ∷ (x ∷ bs))) at in
    let after : after_first is_newline (b ∷ (x ∷ bs)) ≡ after_first is_newline (x ∷ bs) = ap (λ (m : ℕ). drop m (b ∷ (x ∷ bs))) next in
    onto_lines b (x ∷ bs) is ∙ ap (onto_first b) more ∙ sym (ap (λ (l : List ℕ). l ∷ lines (after_first is_newline (b ∷ (x ∷ bs)))) before ∙ ap (λ (l : List ℕ). (b ∷ before_first is_newline (x ∷ bs)) ∷ lines l) after)

-- the first line of bytes, and the others
first_of : (b : ℕ) (bs : List ℕ) (t : Bool) → is_newline b ≡ t → lines (b ∷ bs) ≡ before_first is_newline (b ∷ bs) ∷ lines (after_first is_newline (b ∷ bs))
first_of b bs true is = at_newline b bs is
first_of b [] false is = at_last b is
first_of b (x ∷ bs) false is = at_other b x bs is (first_of x bs (is_newline x) refl)

first_line : (bs : List ℕ) → 0 < length bs → lines bs ≡ before_first is_newline bs ∷ lines (after_first is_newline bs)
first_line [] some = absurd (omega arith)
first_line (b ∷ bs) some = first_of b bs (is_newline b) refl

abbrev ended_at : Bool → ℕ → ℕ → Option (ℕ × ℕ)
ended_at t x y = if t then None else Some (x, y)

some_line : (t : Bool) (x y end next : ℕ) → ended_at t x y ≡ Some (end, next) → (t ≡ false) × (x ≡ end) × (y ≡ next)
some_line true x y end next is = absurd (cc)
some_line false x y end next is =
    let same : (x, y) ≡ (end, next) = cc in
    (refl, ap (λ (p : ℕ × ℕ). p.0) same, ap (λ (p : ℕ × ℕ). p.1) same)

no_more : (t : Bool) (x : ℕ × ℕ) → (if t then None else Some x) ≡ None → t ≡ true
no_more true x is = refl
no_more false x is = absurd (cc)

differ : (m n : ℕ) → nat_eq m n ≡ false → m ≡ n → ⊥
differ m n is same = grind (arith, nat_tests)

equal : (m n : ℕ) → nat_eq m n ≡ true → m ≡ n
equal m n is = grind (arith, nat_tests)

-- the lines from a place on: the one that begins there, and the others
pub lines_from : (bytes : List ℕ) (from end next : ℕ) → from ≤ length bytes → next_line bytes from ≡ Some (end, next)
    → lines (drop from bytes) ≡ slice_range bytes from end ∷ lines (drop next bytes)
lines_from bytes from end next within is =
    let n = position_or_len is_newline (drop from bytes) in
    let parts = some_line (nat_eq from (length bytes)) (line_end bytes from) (min (line_end bytes from + 1) (length bytes)) end next is in
    let more : from ≡ length bytes → ⊥ = differ from (length bytes) parts.0 in
    let some : 0 < length (drop from bytes) = omega (arith, length-drop from bytes) in
    let size : n ≡ end - from = omega (arith, parts.1) in
    let after : after_first is_newline (drop from bytes) ≡ drop next bytes =
    drop-drop (n + 1) from bytes ∙ sym (drop_min (from + (n + 1)) bytes)
    ∙ ap (λ (m : ℕ). drop (min m (length bytes)) bytes) (omega arith) ∙ ap (λ (m : ℕ). drop m bytes) parts.2 in
    first_line (drop from bytes) some
    ∙ ap (λ (m : ℕ). take m (drop from bytes) ∷ lines (after_first is_newline (drop from bytes))) size
    ∙ ap (λ (l : List ℕ). slice_range bytes from end ∷ lines l) after

pub line_within : (bytes : List ℕ) (from end next : ℕ) → from ≤ length bytes → next_line bytes from ≡ Some (end, next)
    → (from ≤ end) × (end ≤ length bytes) × (from < next) × (next ≤ length bytes)
line_within bytes from end next within is =
    let n = position_or_len is_newline (drop from bytes) in
    let parts = some_line (nat_eq from (length bytes)) (line_end bytes from) (min (line_end bytes from + 1) (length bytes)) end next is in
    let more : from ≡ length bytes → ⊥ = differ from (length bytes) parts.0 in
    let least : n ≤ length (drop from bytes) = prefix_len-le-length (λ b. not (is_newline b)) (drop from bytes) in
    let size = length-drop from bytes in
    let ends : from + n ≡ end = parts.1 in
    let high : end ≤ length bytes = omega arith in
    let goes : min (from + n + 1) (length bytes) ≡ next = parts.2 in
    (omega arith, high, omega arith, omega arith)

-- no line begins at the end
pub no_line : (bytes : List ℕ) (from : ℕ) → from ≤ length bytes → next_line bytes from ≡ None → lines (drop from bytes) ≡ []
no_line bytes from within is =
    let end : from ≡ length bytes = equal from (length bytes) (no_more (nat_eq from (length bytes)) _ is) in
    ap lines (drop_all from bytes (omega arith))

pub at_end : (bytes : List ℕ) (from : ℕ) → from ≡ length bytes → None ≡ next_line bytes from
at_end bytes from is = grind (arith, nat_tests)
