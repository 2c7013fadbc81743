-- Fields that are read one after another.
use Rattle.std.proofs.Common.{◌≡◌, ℕ, zero, suc, ◌+◌, ◌<◌, ◌≤◌, Bool, true, false, List, [], ◌∷◌, ◌++◌, length, take, drop, refl, sym, ◌∙◌, ap, arith, append_assoc, length-append, length-drop, drop-cons, set, subst}
use Rattle.std.specs.Prelude.{if◌then◌else◌, Some, None, map, slice_index}
use Rattle.std.specs.List.{position_or_len, onto_first}
use Rattle.memchr.specs.Find.{IsFirstByte, is_byte}
use Rattle.std.specs.Borrow.{Bor}
use Rattle.std.proofs.lemmas.List.{map-append, take_more_set}
use Rattle.svsm_text.proofs.LineLemmas.{found_byte, not_found_byte}
use Rattle.svsm_text.specs.Lines.{is_space, begins_with_space, fields, after_spaces}

-- what follows a space
abbrev past : List ℕ → List (List ℕ)
past bs = if begins_with_space bs then fields bs else [] ∷ fields bs

at_space : (b : ℕ) (bs : List ℕ) → is_space b ≡ true → fields (b ∷ bs) ≡ past bs
at_space b bs is = simp is

past_space : (x : ℕ) (xs : List ℕ) → is_space x ≡ true → past (x ∷ xs) ≡ past xs
past_space x xs is = simp is

past_other : (x : ℕ) (xs : List ℕ) → is_space x ≡ false → past (x ∷ xs) ≡ [] ∷ fields (x ∷ xs)
past_other x xs is = simp is

after_space : (x : ℕ) (xs : List ℕ) → is_space x ≡ true → after_spaces (x ∷ xs) ≡ after_spaces xs
after_space x xs is = simp is

after_other : (x : ℕ) (xs : List ℕ) → is_space x ≡ false → after_spaces (x ∷ xs) ≡ x ∷ xs
after_other x xs is = simp is

past_by : (x : ℕ) (xs : List ℕ) (t : Bool) → is_space x ≡ t → past xs ≡ [] ∷ fields (after_spaces xs) → past (x ∷ xs) ≡ [] ∷ fields (after_spaces (x ∷ xs))
past_by x xs true is more = past_space x xs is ∙ more ∙ sym (ap (λ (l : List ℕ). [] ∷ fields l) (after_space x xs is))
past_by x xs false is more = past_other x xs is ∙ sym (ap (λ (l : List ℕ). [] ∷ fields l) (after_other x xs is))

past_is : (bs : List ℕ) → past bs ≡ [] ∷ fields (after_spaces bs)
past_is [] = refl
past_is (x ∷ xs) = past_by x xs (is_space x) refl (past_is xs)

onto_fields : (b : ℕ) (bs : List ℕ) → is_space b ≡ false → fields (b ∷ bs) ≡ onto_first b (fields bs)
onto_fields b bs is = simp is

position_here : (b : ℕ) (bs : List ℕ) → is_space b ≡ true → position_or_len is_space (b ∷ bs) ≡ 0
position_here b bs is = simp is

position_on : (b : ℕ) (bs : List ℕ) → is_space b ≡ false → position_or_len is_space (b ∷ bs) ≡ 1 + position_or_len is_space bs
position_on b bs is = simp is

-- the first field and the others, where a space stands at a place
abbrev Parts : List ℕ → ℕ → Type 0
Parts bs at = fields bs ≡ take at bs ∷ fields (after_spaces (drop at bs))

here : (b : ℕ) (bs : List ℕ) (at : ℕ) → is_space b ≡ true → position_or_len is_space (b ∷ bs) ≡ at → fields (b ∷ bs) ≡ take at (b ∷ bs) ∷ fields (after_spaces (drop at (b ∷ bs)))
here b bs zero is at = at_space b bs is ∙ past_is bs ∙ sym (ap (λ (l : List ℕ). [] ∷ fields l) (after_space b bs is))
here b bs (suc k) is at = absurd (omega (arith, position_here b bs is))

further : (b : ℕ) (bs : List ℕ) (at : ℕ) → is_space b ≡ false → position_or_len is_space (b ∷ bs) ≡ at
    → ((k : ℕ) → position_or_len is_space bs ≡ k → fields bs ≡ take k bs ∷ fields (after_spaces (drop k bs)))
    → fields (b ∷ bs) ≡ take at (b ∷ bs) ∷ fields (after_spaces (drop at (b ∷ bs)))
further b bs zero is at more = absurd (omega (arith, position_on b bs is))
further b bs (suc k) is at more = onto_fields b bs is ∙ ap (onto_first b) (more k (omega (arith, position_on b bs is)))

first_of : (b : ℕ) (bs : List ℕ) (t : Bool) (at : ℕ) → is_space b ≡ t → position_or_len is_space (b ∷ bs) ≡ at → at < length (b ∷ bs)
    → fields (b ∷ bs) ≡ take at (b ∷ bs) ∷ fields (after_spaces (drop at (b ∷ bs)))
first_of b bs true at space is within = here b bs at space is
first_of b [] false at space is within = absurd (omega (arith, position_on b [] space))
first_of b (x ∷ xs) false at space is within =
    further b (x ∷ xs) at space is (λ k next. first_of x xs (is_space x) k refl next (omega (arith, position_on b (x ∷ xs) space)))

pub first_field : (bs : List ℕ) (at : ℕ) → position_or_len is_space bs ≡ at → at < length bs → fields bs ≡ take at bs ∷ fields (after_spaces (drop at bs))
first_field [] at is within = absurd (omega arith)
first_field (b ∷ bs) at is within = first_of b bs (is_space b) at refl is within

one_by : (b : ℕ) (bs : List ℕ) (t : Bool) → is_space b ≡ t → position_or_len is_space (b ∷ bs) ≡ length (b ∷ bs)
    → (position_or_len is_space bs ≡ length bs → fields bs ≡ bs ∷ []) → fields (b ∷ bs) ≡ (b ∷ bs) ∷ []
one_by b bs true space is more = absurd (omega (arith, position_here b bs space))
one_by b bs false space is more = onto_fields b bs space ∙ ap (onto_first b) (more (omega (arith, position_on b bs space)))

-- without a space the whole line is one field
pub one_field : (bs : List ℕ) → position_or_len is_space bs ≡ length bs → fields bs ≡ bs ∷ []
one_field [] is = refl
one_field (b ∷ bs) is = one_by b bs (is_space b) refl is (one_field bs)

-- the bytes of each field
abbrev pub texts : List (Bor (List ℕ)) → List (List ℕ)
texts = map (λ field. field.now)

shorter_by : (x : ℕ) (xs : List ℕ) (t : Bool) → is_space x ≡ t → length (after_spaces xs) ≤ length xs → length (after_spaces (x ∷ xs)) ≤ length (x ∷ xs)
shorter_by x xs true is more = omega (arith, ap length (after_space x xs is))
shorter_by x xs false is more = omega (arith, ap length (after_other x xs is))

pub shorter : (bs : List ℕ) → length (after_spaces bs) ≤ length bs
shorter [] = omega arith
shorter (x ∷ xs) = shorter_by x xs (is_space x) refl (shorter xs)

-- a space stands at the place, so that it goes
smaller_at : (bs : List ℕ) (at : ℕ) → at < length bs → is_space (slice_index bs at) ≡ true → length (after_spaces (drop at bs)) < length bs
smaller_at bs at within space =
    let front : drop at bs ≡ slice_index bs at ∷ drop (suc at) bs = drop-cons bs at 0 within in
    let gone : after_spaces (drop at bs) ≡ after_spaces (drop (suc at) bs) = ap after_spaces front ∙ after_space (slice_index bs at) (drop (suc at) bs) space in
    omega (arith, ap length gone, shorter (drop (suc at) bs), length-drop (suc at) bs)

pub smaller : (bs : List ℕ) (at : ℕ) → IsFirstByte (is_byte 32) bs (Some at) → length (after_spaces (drop at bs)) < length bs
smaller bs at found =
    smaller_at bs at found.0.high (found.1)

pub field_read : (before : List (List ℕ)) (bs : List ℕ) (at : ℕ) → IsFirstByte (is_byte 32) bs (Some at)
    → before ++ fields bs ≡ (before ++ take at bs ∷ []) ++ fields (after_spaces (drop at bs))
field_read before bs at found =
    ap (λ fs. before ++ fs) (first_field bs at (found_byte 32 bs at found) (found.0.high))
    ∙ sym (append_assoc before (take at bs ∷ []) (fields (after_spaces (drop at bs))))

pub last_read : (before : List (List ℕ)) (bs : List ℕ) → IsFirstByte (is_byte 32) bs None → before ++ fields bs ≡ before ++ bs ∷ []
last_read before bs none = ap (λ fs. before ++ fs) (one_field bs (not_found_byte 32 bs none))

-- A FEW FIELDS

onto_some : (b : ℕ) (all : List (List ℕ)) → 0 < length all → 0 < length (onto_first b all)
onto_some b [] some = absurd (omega (arith, some))
onto_some b (first ∷ all) some = omega arith

some_by : (b : ℕ) (bs : List ℕ) (t u : Bool) → is_space b ≡ t → begins_with_space bs ≡ u → 0 < length (fields bs) → 0 < length (fields (b ∷ bs))
some_by b bs true true is begins some = subst (λ fs. 0 < length fs) (sym (at_space b bs is ∙ past_by_test)) some
  where
    past_by_test : past bs ≡ fields bs
    past_by_test = simp begins
some_by b bs true false is begins some = subst (λ fs. 0 < length fs) (sym (at_space b bs is ∙ past_by_test)) (omega arith)
  where
    past_by_test : past bs ≡ [] ∷ fields bs
    past_by_test = simp begins
some_by b bs false u is begins some = subst (λ fs. 0 < length fs) (sym (onto_fields b bs is)) (onto_some b (fields bs) some)

-- a line has a field
pub some_field : (bs : List ℕ) → 0 < length (fields bs)
some_field [] = omega arith
some_field (b ∷ bs) = some_by b bs (is_space b) (begins_with_space bs) refl refl (some_field bs)

-- a field behind so many others, and a space behind it
pub many_fields : (before : List (List ℕ)) (bs : List ℕ) (at n : ℕ) → length before ≡ n → IsFirstByte (is_byte 32) bs (Some at) → n + 1 < length (before ++ fields bs)
many_fields before bs at n size found =
    let parts : fields bs ≡ take at bs ∷ fields (after_spaces (drop at bs)) = first_field bs at (found_byte 32 bs at found) found.0.high in
    omega (arith, size, length-append before (fields bs), ap length parts, some_field (after_spaces (drop at bs)))

-- one more of the few
pub one_more : (found : List (Bor (List ℕ))) (count : ℕ) (field : Bor (List ℕ)) → count < length found
    → texts (take (count + 1) (set found count field)) ≡ texts (take count found) ++ field.now ∷ []
one_more found count field room =
    ap texts (take_more_set found count field room) ∙ map-append (λ (f : Bor (List ℕ)). f.now) (take count found) (field ∷ [])
