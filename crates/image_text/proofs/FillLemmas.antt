-- The runs of words that are not 0 have each word at its address.
use Rattle.std.proofs.Common.{◌≡◌, ℕ, zero, suc, ◌+◌, ◌-◌, ◌*◌, ◌/◌, ◌%◌, ◌<◌, ◌≤◌, Bool, true, false, List, [], ◌∷◌, length, get_or, refl, sym, ap, ◌∙◌, subst, arith, IsTrue}
use Rattle.std.specs.Prelude.{⊤, if◌then◌else◌, ◌&&◌, ◌==◌, nat_le, nat_lt, slice_index_or}
use Rattle.std.proofs.lemmas.Bool.Decides.{nat_tests}
use Rattle.std.proofs.lemmas.Bool.{eqb-true}
use Rattle.svsm_types.specs.Pages.{is_multiple}
use Rattle.svsm_types.specs.declared.image.Fill.{Fill}
use Rattle.svsm_steps.specs.Image.{word_by, filled}
use Rattle.image_text.specs.Saved.{onto_fill, fills_from}

-- the word with this number in a fill
pub word_in : (fill : Fill) (address k other : ℕ) → address ≡ fill.gpa.0 + 8 * k → word_by fill address other ≡ slice_index_or fill.words k other
word_in fill address k other e =
    let t : (nat_le fill.gpa.0 address && is_multiple 8 (address - fill.gpa.0)) ≡ true = grind (arith, nat_tests) in
    let n : (address - fill.gpa.0) / 8 ≡ k = omega arith in
    ap (λ (t : Bool). if t then slice_index_or fill.words ((address - fill.gpa.0) / 8) other else other) t
    ∙ ap (λ (n : ℕ). slice_index_or fill.words n other) n

-- an address below a fill, or one that is no multiple of 8
pub word_below : (fill : Fill) (address other : ℕ) → address < fill.gpa.0 → word_by fill address other ≡ other
word_below fill address other low =
    let t : (nat_le fill.gpa.0 address && is_multiple 8 (address - fill.gpa.0)) ≡ false = grind (arith, nat_tests) in
    ap (λ (t : Bool). if t then slice_index_or fill.words ((address - fill.gpa.0) / 8) other else other) t

multiple_by : (gpa address : ℕ) → gpa % 8 ≡ 0 → (nat_le gpa address && is_multiple 8 (address - gpa)) ≡ true → address % 8 ≡ 0
multiple_by gpa address unit e = grind (arith, nat_tests)

odd_by : (gpa address : ℕ) → gpa % 8 ≡ 0 → (address % 8 ≡ 0 → ⊥) → (t : Bool) → (nat_le gpa address && is_multiple 8 (address - gpa)) ≡ t → t ≡ false
odd_by gpa address unit odd false e = refl
odd_by gpa address unit odd true e = absurd (odd (multiple_by gpa address unit e))

not_multiple : (gpa address : ℕ) → gpa % 8 ≡ 0 → (address % 8 ≡ 0 → ⊥) → (nat_le gpa address && is_multiple 8 (address - gpa)) ≡ false
not_multiple gpa address unit odd = odd_by gpa address unit odd (nat_le gpa address && is_multiple 8 (address - gpa)) refl

pub word_odd : (fill : Fill) (address other : ℕ) → fill.gpa.0 % 8 ≡ 0 → (address % 8 ≡ 0 → ⊥) → word_by fill address other ≡ other
word_odd fill address other unit odd =
    ap (λ (t : Bool). if t then slice_index_or fill.words ((address - fill.gpa.0) / 8) other else other) (not_multiple fill.gpa.0 address unit odd)

-- fills that begin at a word with this number or later
abbrev pub AllFrom : ℕ → List Fill → Type 0
AllFrom at [] = ⊤
AllFrom at (fill ∷ fills) = (8 * at ≤ fill.gpa.0) × (fill.gpa.0 % 8 ≡ 0) × AllFrom at fills

pub from_less : (at less : ℕ) (fills : List Fill) → less ≤ at → AllFrom at fills → AllFrom less fills
from_less at less [] le h = tt
from_less at less (fill ∷ fills) le h = (omega (arith, h.0), h.1, from_less at less fills le h.2)

pub filled_below : (fills : List Fill) (at address word : ℕ) → AllFrom at fills → address < 8 * at → filled fills address word ≡ word
filled_below [] at address word h low = refl
filled_below (fill ∷ fills) at address word h low =
    ap (filled fills address) (word_below fill address word (omega (arith, h.0))) ∙ filled_below fills at address word h.2 low

pub filled_odd : (fills : List Fill) (at address word : ℕ) → AllFrom at fills → (address % 8 ≡ 0 → ⊥) → filled fills address word ≡ word
filled_odd [] at address word h odd = refl
filled_odd (fill ∷ fills) at address word h odd =
    ap (filled fills address) (word_odd fill address word h.1 odd) ∙ filled_odd fills at address word h.2 odd

-- a word before the fills behind it

abbrev one_fill : ℕ → ℕ → Fill
one_fill at word = record { gpa = record { 0 = 8 * at }; words = word ∷ [] }

abbrev more_fill : ℕ → ℕ → Fill → Fill
more_fill at word fill = record { gpa = record { 0 = 8 * at }; words = word ∷ fill.words }

all_by : (t : Bool) (at word : ℕ) (fill : Fill) (fills : List Fill) → AllFrom (at + 1) (fill ∷ fills)
    → AllFrom at (if t then more_fill at word fill ∷ fills else one_fill at word ∷ fill ∷ fills)
all_by true at word fill fills h = (omega arith, omega arith, from_less (at + 1) at fills (omega arith) h.2)
all_by false at word fill fills h = (omega arith, omega arith, from_less (at + 1) at (fill ∷ fills) (omega arith) h)

pub onto_all : (at word : ℕ) (fills : List Fill) → AllFrom (at + 1) fills → AllFrom at (onto_fill at word fills)
onto_all at word [] h = (omega arith, omega arith, tt)
onto_all at word (fill ∷ fills) h = all_by (fill.gpa.0 == 8 * (at + 1)) at word fill fills h

here_by : (t : Bool) (at word other : ℕ) (fill : Fill) (fills : List Fill) → AllFrom (at + 1) (fill ∷ fills)
    → filled (if t then more_fill at word fill ∷ fills else one_fill at word ∷ fill ∷ fills) (8 * at) other ≡ word
here_by true at word other fill fills h =
    ap (filled fills (8 * at)) (word_in (more_fill at word fill) (8 * at) 0 other (omega arith)) ∙ filled_below fills (at + 1) (8 * at) word h.2 (omega arith)
here_by false at word other fill fills h =
    ap (filled (fill ∷ fills) (8 * at)) (word_in (one_fill at word) (8 * at) 0 other (omega arith)) ∙ filled_below (fill ∷ fills) (at + 1) (8 * at) word h (omega arith)

pub onto_here : (at word other : ℕ) (fills : List Fill) → AllFrom (at + 1) fills → filled (onto_fill at word fills) (8 * at) other ≡ word
onto_here at word other [] h = word_in (one_fill at word) (8 * at) 0 other (omega arith)
onto_here at word other (fill ∷ fills) h = here_by (fill.gpa.0 == 8 * (at + 1)) at word other fill fills h

one_later : (at word other j : ℕ) → word_by (one_fill at word) (8 * (at + 1 + j)) other ≡ other
one_later at word other j = word_in (one_fill at word) (8 * (at + 1 + j)) (suc j) other (omega arith)

later_by : (t : Bool) (at word other j : ℕ) (fill : Fill) (fills : List Fill) → (fill.gpa.0 == 8 * (at + 1)) ≡ t
    → filled (if t then more_fill at word fill ∷ fills else one_fill at word ∷ fill ∷ fills) (8 * (at + 1 + j)) other ≡ filled (fill ∷ fills) (8 * (at + 1 + j)) other
later_by true at word other j fill fills e =
    let gpa : fill.gpa.0 ≡ 8 * (at + 1) = eqb-true fill.gpa.0 (8 * (at + 1)) e in
    ap (filled fills (8 * (at + 1 + j)))
    (word_in (more_fill at word fill) (8 * (at + 1 + j)) (suc j) other (omega arith) ∙ sym (word_in fill (8 * (at + 1 + j)) j other (omega arith)))
later_by false at word other j fill fills e = ap (filled (fill ∷ fills) (8 * (at + 1 + j))) (one_later at word other j)

pub onto_later : (at word other j : ℕ) (fills : List Fill) → filled (onto_fill at word fills) (8 * (at + 1 + j)) other ≡ filled fills (8 * (at + 1 + j)) other
onto_later at word other j [] = one_later at word other j
onto_later at word other j (fill ∷ fills) = later_by (fill.gpa.0 == 8 * (at + 1)) at word other j fill fills refl

-- all words

from_by : (t : Bool) (at word : ℕ) (fills : List Fill) → AllFrom (at + 1) fills → AllFrom at (if t then fills else onto_fill at word fills)
from_by true at word fills h = from_less (at + 1) at fills (omega arith) h
from_by false at word fills h = onto_all at word fills h

pub fills_all : (at : ℕ) (words : List ℕ) → AllFrom at (fills_from at words)
fills_all at [] = tt
fills_all at (word ∷ words) = from_by (word == 0) at word (fills_from (at + 1) words) (fills_all (at + 1) words)

some_here : (t : Bool) (at word other : ℕ) (fills : List Fill) → AllFrom (at + 1) fills
    → filled (if t then fills else onto_fill at word fills) (8 * at) other ≡ (if t then other else word)
some_here true at word other fills h = filled_below fills (at + 1) (8 * at) other h (omega arith)
some_here false at word other fills h = onto_here at word other fills h

some_later : (t : Bool) (at word other j : ℕ) (fills : List Fill)
    → filled (if t then fills else onto_fill at word fills) (8 * (at + 1 + j)) other ≡ filled fills (8 * (at + 1 + j)) other
some_later true at word other j fills = refl
some_later false at word other j fills = onto_later at word other j fills

-- THE WORD AT EACH ADDRESS
pub fills_say : (words : List ℕ) (at i other : ℕ)
    → filled (fills_from at words) (8 * (at + i)) other ≡ (if get_or words i 0 == 0 then other else get_or words i 0)
fills_say [] at i other = refl
fills_say (word ∷ words) at zero other =
    let e : 8 * (at + 0) ≡ 8 * at = omega arith in
    ap (λ (a : ℕ). filled (fills_from at (word ∷ words)) a other) e ∙ some_here (word == 0) at word other (fills_from (at + 1) words) (fills_all (at + 1) words)
fills_say (word ∷ words) at (suc i) other =
    let e : 8 * (at + suc i) ≡ 8 * (at + 1 + i) = omega arith in
    ap (λ (a : ℕ). filled (fills_from at (word ∷ words)) a other) e
    ∙ some_later (word == 0) at word other i (fills_from (at + 1) words)
    ∙ fills_say words (at + 1) i other

zero_by : (n : ℕ) (t : Bool) → (n == 0) ≡ t → (if t then 0 else n) ≡ n
zero_by n true e = sym (eqb-true n 0 e)
zero_by n false e = refl

pub words_say : (words : List ℕ) (i : ℕ) → filled (fills_from 0 words) (8 * i) 0 ≡ get_or words i 0
words_say words i =
    let e : 8 * i ≡ 8 * (0 + i) = omega arith in
    ap (λ (a : ℕ). filled (fills_from 0 words) a 0) e ∙ fills_say words 0 i 0 ∙ zero_by (get_or words i 0) (get_or words i 0 == 0) refl
