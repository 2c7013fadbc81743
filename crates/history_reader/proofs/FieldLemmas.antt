-- The fields of a line are those that it was made of.
use Rattle.std.proofs.Common.{◌≡◌, ℕ, ◌^◌, ◌<◌, ◌≤◌, Bool, true, false, nat_eq, List, [], ◌∷◌, ◌++◌, refl, sym, ◌∙◌, ap, arith, subst}
use Rattle.std.specs.Prelude.{⊤, flat_map, if◌then◌else◌}
use Rattle.std.specs.List.{onto_first}
use Rattle.std.specs.Char.{digit_value}
use Rattle.std.specs.Fmt.{digits}
use Rattle.std.specs.Str.Parse.{AllDigits}
use Rattle.std.proofs.lemmas.Bool.Decides.{nat_tests}
use Rattle.std.proofs.lemmas.Fmt.{digits_is_IsNumeral}
use Rattle.std.proofs.lemmas.List.{append-nil, append_cancel_right}
use Rattle.std.proofs.Math.Nat.{pow-le-pow_left}
use Rattle.svsm_text.specs.Numbers.{number}
use Rattle.svsm_text.specs.Lines.{is_space, begins_with_space, fields}
use Rattle.report.specs.Text.{spaced, line}

-- no byte is a space
abbrev pub Plain : List ℕ → Type 0
Plain [] = ⊤
Plain (b ∷ bs) = (is_space b ≡ false) × Plain bs

-- there is a byte, and none is a space
abbrev pub Solid : List ℕ → Type 0
Solid [] = ⊥
Solid (b ∷ bs) = (is_space b ≡ false) × Plain bs

abbrev pub AreSolid : List (List ℕ) → Type 0
AreSolid [] = ⊤
AreSolid (f ∷ fs) = Solid f × AreSolid fs

-- bytes put before the first field
onto : List ℕ → List (List ℕ) → List (List ℕ)
onto f [] = f ∷ []
onto f (x ∷ xs) = (f ++ x) ∷ xs

onto_fields : (b : ℕ) (bs : List ℕ) → is_space b ≡ false → fields (b ∷ bs) ≡ onto_first b (fields bs)
onto_fields b bs is = simp is

onto_more : (b : ℕ) (f : List ℕ) (fs : List (List ℕ)) → onto_first b (onto f fs) ≡ onto (b ∷ f) fs
unfolding onto
onto_more b f [] = refl
onto_more b f (x ∷ xs) = refl

onto_none : (fs : List (List ℕ)) (g : List ℕ) (gs : List (List ℕ)) → fs ≡ g ∷ gs → onto [] fs ≡ fs
unfolding onto
onto_none [] g gs is = absurd (cc)
onto_none (x ∷ xs) g gs is = refl

-- a text has a field
abbrev HasOne : List (List ℕ) → Type 0
HasOne fs = (g : List ℕ) × (gs : List (List ℕ)) × (fs ≡ g ∷ gs)

abbrev past : List ℕ → List (List ℕ)
past bs = if begins_with_space bs then fields bs else [] ∷ fields bs

at_space : (b : ℕ) (bs : List ℕ) → is_space b ≡ true → fields (b ∷ bs) ≡ past bs
at_space b bs is = simp is

has_onto : (b : ℕ) (fs : List (List ℕ)) → HasOne fs → HasOne (onto_first b fs)
has_onto b fs has = (b ∷ has.0, has.1, ap (onto_first b) has.2)

has_past : (bs : List ℕ) (t : Bool) → begins_with_space bs ≡ t → HasOne (fields bs) → HasOne (past bs)
has_past bs true is has = (has.0, has.1, ap (λ (b : Bool). if b then fields bs else [] ∷ fields bs) is ∙ has.2)
has_past bs false is has = ([], fields bs, ap (λ (b : Bool). if b then fields bs else [] ∷ fields bs) is)

has_by : (b : ℕ) (bs : List ℕ) (t : Bool) → is_space b ≡ t → HasOne (fields bs) → HasOne (fields (b ∷ bs))
has_by b bs true is has = let h = has_past bs (begins_with_space bs) refl has in (h.0, h.1, at_space b bs is ∙ h.2)
has_by b bs false is has = let h = has_onto b (fields bs) has in (h.0, h.1, onto_fields b bs is ∙ h.2)

some_field : (bs : List ℕ) → HasOne (fields bs)
some_field [] = ([], [], refl)
some_field (b ∷ bs) = has_by b bs (is_space b) refl (some_field bs)

plain_front : (f r : List ℕ) → Plain f → fields (f ++ r) ≡ onto f (fields r)
plain_front [] r plain = let s = some_field r in sym (onto_none (fields r) s.0 s.1 s.2)
plain_front (b ∷ bs) r plain =
    onto_fields b (bs ++ r) plain.0 ∙ ap (onto_first b) (plain_front bs r plain.1) ∙ onto_more b bs (fields r)

plain_of : (f : List ℕ) → Solid f → Plain f
plain_of [] solid = absurd solid
plain_of (b ∷ bs) solid = solid

past_space : (g r : List ℕ) → Solid g → fields (32 ∷ (g ++ r)) ≡ [] ∷ fields (g ++ r)
past_space [] r solid = absurd solid
past_space (b ∷ bs) r solid = simp (solid.0)

-- the fields with a space before each but the first
pub fields_again : (f : List ℕ) (fs : List (List ℕ)) → Solid f → AreSolid fs → fields (f ++ flat_map spaced fs) ≡ f ∷ fs
unfolding onto
fields_again f [] solid all = plain_front f [] (plain_of f solid) ∙ ap (λ (x : List ℕ). x ∷ []) (append-nil f)
fields_again f (g ∷ gs) solid all =
    plain_front f (32 ∷ (g ++ flat_map spaced gs)) (plain_of f solid)
    ∙ ap (onto f) (past_space g (flat_map spaced gs) all.0 ∙ ap (λ (x : List (List ℕ)). [] ∷ x) (fields_again g gs all.0 all.1))
    ∙ ap (λ (x : List ℕ). x ∷ (g ∷ gs)) (append-nil f)

-- a line without its newline
pub line_front : (bytes f : List ℕ) (fs : List (List ℕ)) → bytes ++ 10 ∷ [] ≡ line (f ∷ fs) → bytes ≡ f ++ flat_map spaced fs
line_front bytes f fs is =
    append_cancel_right bytes (f ++ flat_map spaced fs) (10 ∷ []) is

pub line_fields : (bytes f : List ℕ) (fs : List (List ℕ)) → bytes ++ 10 ∷ [] ≡ line (f ∷ fs) → Solid f → AreSolid fs → fields bytes ≡ f ∷ fs
line_fields bytes f fs is solid all = ap fields (line_front bytes f fs is) ∙ fields_again f fs solid all

-- DIGITS

equal : (m n : ℕ) → nat_eq m n ≡ true → m ≡ n
equal m n is = grind (arith, nat_tests)

no_digit : digit_value 32 < 16 → ⊥
no_digit is = omega arith

not_space : (d : ℕ) (t : Bool) → is_space d ≡ t → digit_value d < 16 → is_space d ≡ false
not_space d false is small = is
not_space d true is small = absurd (no_digit (subst (λ (x : ℕ). digit_value x < 16) (equal d 32 is) small))

plain_digits : (ds : List ℕ) → AllDigits 16 ds → Plain ds
plain_digits [] all = tt
plain_digits (d ∷ ds) all = (not_space d (is_space d) refl all.0, plain_digits ds all.1)

far : (n a b : ℕ) → n < a → a ≤ b → n < b
far n a b low high = omega arith

pub solid_number : (n : ℕ) → n < 2 ^ 64 → Solid (number n)
solid_number n small =
    let numeral = digits_is_IsNumeral 16 false (omega arith) (omega arith) n (far n (2 ^ 64) (16 ^ 64) small (pow-le-pow_left {n = 2} {m = 16} (omega arith) 64)) in
    (refl, (refl, plain_digits (digits 16 false n) numeral.0.1))
