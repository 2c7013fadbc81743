-- One word more.
use Rattle.std.proofs.Common.{◌≡◌, ℕ, zero, suc, ◌+◌, ◌*◌, ◌<◌, ◌≤◌, Bool, true, false, List, [], ◌∷◌, ◌++◌, length, refl, sym, ap, ◌∙◌, subst, arith, append-nil, append_assoc}
use Rattle.std.specs.Prelude.{if◌then◌else◌, ◌==◌, map}
use Rattle.std.specs.List.{range_with_len}
use Rattle.std.proofs.lemmas.List.{length-append}
use Rattle.std.proofs.lemmas.Bool.{eqb-true, eq-eqb}
use Rattle.svsm_types.specs.declared.image.Fill.{Fill}
use Rattle.image_text.specs.Saved.{onto_fill, fills_from}
use Rattle.image_text.specs.Collected.{word_put, word_if, words_put, EndBy}

alike : (a b : Bool) → (a ≡ true → b ≡ true) → (b ≡ true → a ≡ true) → a ≡ b
alike true b h k = sym (h refl)
alike false true h k = k refl
alike false false h k = refl

same_test : (a b c d : ℕ) → (a ≡ b → c ≡ d) → (c ≡ d → a ≡ b) → (a == b) ≡ (c == d)
same_test a b c d h k = alike (a == b) (c == d) (λ e. eq-eqb c d (h (eqb-true a b e))) (λ e. eq-eqb a b (k (eqb-true c d e)))

abbrev one : ℕ → ℕ → Fill
one at word = record { gpa = record { 0 = 8 * at }; words = word ∷ [] }

abbrev with : Fill → ℕ → Fill
with fill word = record { gpa = fill.gpa; words = fill.words ++ word ∷ [] }

abbrev before : ℕ → ℕ → Fill → Fill
before at word fill = record { gpa = record { 0 = 8 * at }; words = word ∷ fill.words }

one_by : (t u : Bool) (at n y w : ℕ) (f : Fill) → (f.gpa.0 == 8 * (at + 1)) ≡ t → (f.gpa.0 + 8 * length f.words == 8 * n) ≡ u
    → onto_fill at y (if u then with f w ∷ [] else f ∷ one n w ∷ []) ≡ word_put (onto_fill at y (f ∷ [])) n w
one_by true true at n y w f e k =
    let gpa = eqb-true f.gpa.0 (8 * (at + 1)) e in
    let sum : 8 * at + 8 * length (y ∷ f.words) ≡ f.gpa.0 + 8 * length f.words = omega (arith, gpa) in
    ap (λ (t : Bool). if t then before at y (with f w) ∷ [] else one at y ∷ with f w ∷ []) e
    ∙ sym (ap (λ (t : Bool). word_put (if t then before at y f ∷ [] else one at y ∷ f ∷ []) n w) e
    ∙ ap (λ (t : Bool). if t then with (before at y f) w ∷ [] else before at y f ∷ one n w ∷ []) (ap (λ (m : ℕ). m == 8 * n) sum ∙ k))
one_by true false at n y w f e k =
    let gpa = eqb-true f.gpa.0 (8 * (at + 1)) e in
    let sum : 8 * at + 8 * length (y ∷ f.words) ≡ f.gpa.0 + 8 * length f.words = omega (arith, gpa) in
    ap (λ (t : Bool). if t then before at y f ∷ one n w ∷ [] else one at y ∷ f ∷ one n w ∷ []) e
    ∙ sym (ap (λ (t : Bool). word_put (if t then before at y f ∷ [] else one at y ∷ f ∷ []) n w) e
    ∙ ap (λ (t : Bool). if t then with (before at y f) w ∷ [] else before at y f ∷ one n w ∷ []) (ap (λ (m : ℕ). m == 8 * n) sum ∙ k))
one_by false true at n y w f e k =
    ap (λ (t : Bool). if t then before at y (with f w) ∷ [] else one at y ∷ with f w ∷ []) e
    ∙ sym (ap (λ (t : Bool). word_put (if t then before at y f ∷ [] else one at y ∷ f ∷ []) n w) e
    ∙ ap (λ (t : Bool). one at y ∷ (if t then with f w ∷ [] else f ∷ one n w ∷ [])) k)
one_by false false at n y w f e k =
    ap (λ (t : Bool). if t then before at y f ∷ one n w ∷ [] else one at y ∷ f ∷ one n w ∷ []) e
    ∙ sym (ap (λ (t : Bool). word_put (if t then before at y f ∷ [] else one at y ∷ f ∷ []) n w) e
    ∙ ap (λ (t : Bool). one at y ∷ (if t then with f w ∷ [] else f ∷ one n w ∷ [])) k)

two_by : (t : Bool) (at n y w : ℕ) (f g : Fill) (more : List Fill)
    → (if t then before at y f ∷ word_put (g ∷ more) n w else one at y ∷ f ∷ word_put (g ∷ more) n w)
    ≡ word_put (if t then before at y f ∷ g ∷ more else one at y ∷ f ∷ g ∷ more) n w
two_by true at n y w f g more = refl
two_by false at n y w f g more = refl

none_by : (at n : ℕ) → (8 * n == 8 * (at + 1)) ≡ (8 * at + 8 * 1 == 8 * n)
none_by at n = same_test (8 * n) (8 * (at + 1)) (8 * at + 8 * 1) (8 * n) (λ e. omega (arith, e)) (λ e. omega (arith, e))

onto_put : (at n y w : ℕ) (fills : List Fill) → onto_fill at y (word_put fills n w) ≡ word_put (onto_fill at y fills) n w
onto_put at n y w [] = ap (λ (t : Bool). if t then record { gpa = record { 0 = 8 * at }; words = y ∷ w ∷ [] } ∷ [] else one at y ∷ one n w ∷ []) (none_by at n)
onto_put at n y w (f ∷ []) = one_by (f.gpa.0 == 8 * (at + 1)) (f.gpa.0 + 8 * length f.words == 8 * n) at n y w f refl refl
onto_put at n y w (f ∷ g ∷ more) = two_by (f.gpa.0 == 8 * (at + 1)) at n y w f g more

abbrev put_if : Bool → List Fill → ℕ → ℕ → List Fill
put_if t fills n w = if t then fills else word_put fills n w

more_by : (t u : Bool) (at n y w : ℕ) (fills : List Fill)
    → (if u then put_if t fills n w else onto_fill at y (put_if t fills n w)) ≡ put_if t (if u then fills else onto_fill at y fills) n w
more_by true true at n y w fills = refl
more_by true false at n y w fills = refl
more_by false true at n y w fills = refl
more_by false false at n y w fills = onto_put at n y w fills

pub fills_more : (at : ℕ) (words : List ℕ) (w : ℕ) → fills_from at (words ++ w ∷ []) ≡ put_if (w == 0) (fills_from at words) (at + length words) w
fills_more at [] w = let e : at ≡ at + 0 = omega arith in ap (λ (n : ℕ). put_if (w == 0) [] n w) e
fills_more at (y ∷ words) w =
    let e : at + 1 + length words ≡ at + length (y ∷ words) = omega arith in
    ap (λ (l : List Fill). if y == 0 then l else onto_fill at y l) (fills_more (at + 1) words w ∙ ap (λ (n : ℕ). put_if (w == 0) (fills_from (at + 1) words) n w) e)
    ∙ more_by (w == 0) (y == 0) at (at + length (y ∷ words)) y w (fills_from (at + 1) words)

-- WORDS BEHIND FILLS

pub end_last : (at : ℕ) (front : List Fill) (f : Fill) → EndBy at (front ++ f ∷ []) → f.gpa.0 + 8 * length f.words ≤ 8 * at
end_last at [] f h = h.0
end_last at (g ∷ front) f h = end_last at front f h.1

behind : (front : List Fill) (f : Fill) (at w : ℕ)
    → word_put (front ++ f ∷ []) at w ≡ front ++ (if f.gpa.0 + 8 * length f.words == 8 * at then with f w ∷ [] else f ∷ one at w ∷ [])
behind [] f at w = refl
behind (g ∷ []) f at w = refl
behind (g ∷ h ∷ front) f at w = ap (λ (l : List Fill). g ∷ l) (behind (h ∷ front) f at w)

pub word_joins : (old front : List Fill) (f : Fill) (at w : ℕ) → old ≡ front ++ f ∷ [] → (f.gpa.0 + 8 * length f.words == 8 * at) ≡ true
    → front ++ with f w ∷ [] ≡ word_put old at w
word_joins old front f at w e k =
    sym (ap (λ (l : List Fill). word_put l at w) e ∙ behind front f at w ∙ ap (λ (t : Bool). front ++ (if t then with f w ∷ [] else f ∷ one at w ∷ [])) k)

pub word_begins : (old front : List Fill) (f : Fill) (at w : ℕ) → old ≡ front ++ f ∷ [] → (f.gpa.0 + 8 * length f.words == 8 * at) ≡ false
    → front ++ f ∷ one at w ∷ [] ≡ word_put old at w
word_begins old front f at w e k =
    sym (ap (λ (l : List Fill). word_put l at w) e ∙ behind front f at w ∙ ap (λ (t : Bool). front ++ (if t then with f w ∷ [] else f ∷ one at w ∷ [])) k)

-- SO MANY WORDS

pub words_put_both : (fills : List Fill) (at : ℕ) (front back : List ℕ)
    → words_put fills at (front ++ back) ≡ words_put (words_put fills at front) (at + length front) back
words_put_both fills at [] back = let e : at ≡ at + 0 = omega arith in ap (λ (n : ℕ). words_put fills n back) e
words_put_both fills at (w ∷ front) back =
    let e : at + 1 + length front ≡ at + length (w ∷ front) = omega arith in
    words_put_both (word_if fills at w) (at + 1) front back
    ∙ ap (λ (n : ℕ). words_put (words_put (word_if fills at w) (at + 1) front) n back) e

fills_both : (at : ℕ) (front back : List ℕ) → fills_from at (front ++ back) ≡ words_put (fills_from at front) (at + length front) back
fills_both at front [] = ap (fills_from at) (append-nil front)
fills_both at front (w ∷ back) =
    let e : at + length (front ++ w ∷ []) ≡ at + length front + 1 = omega (arith, length-append front (w ∷ [])) in
    ap (fills_from at) (sym (append_assoc front (w ∷ []) back))
    ∙ fills_both at (front ++ w ∷ []) back
    ∙ ap (λ (n : ℕ). words_put (fills_from at (front ++ w ∷ [])) n back) e
    ∙ ap (λ (l : List Fill). words_put l (at + length front + 1) back) (fills_more at front w)

-- the fills of all words are those that are put one after another
pub fills_are_put : (words : List ℕ) → fills_from 0 words ≡ words_put [] 0 words
fills_are_put words = fills_both 0 [] words

end_after : (at : ℕ) (fills : List Fill) → EndBy at fills → EndBy (at + 1) fills
end_after at [] h = tt
end_after at (f ∷ fills) h = (omega (arith, h.0), end_after at fills h.1)

end_by : (t : Bool) (at w : ℕ) (f : Fill) → (f.gpa.0 + 8 * length f.words == 8 * at) ≡ t → f.gpa.0 + 8 * length f.words ≤ 8 * at
    → EndBy (at + 1) (if t then with f w ∷ [] else f ∷ one at w ∷ [])
end_by true at w f e h =
    let same = eqb-true (f.gpa.0 + 8 * length f.words) (8 * at) e in
    (omega (arith, same, length-append f.words (w ∷ [])), tt)
end_by false at w f e h = (omega (arith, h), (omega arith, tt))

pub end_put : (at w : ℕ) (fills : List Fill) → EndBy at fills → EndBy (at + 1) (word_put fills at w)
end_put at w [] h = (omega arith, tt)
end_put at w (f ∷ []) h = end_by (f.gpa.0 + 8 * length f.words == 8 * at) at w f refl h.0
end_put at w (f ∷ g ∷ more) h = (omega (arith, h.0), end_put at w (g ∷ more) h.1)

end_if : (t : Bool) (at w : ℕ) (fills : List Fill) → EndBy at fills → EndBy (at + 1) (if t then fills else word_put fills at w)
end_if true at w fills h = end_after at fills h
end_if false at w fills h = end_put at w fills h

pub end_word : (at w : ℕ) (fills : List Fill) → EndBy at fills → EndBy (at + 1) (word_if fills at w)
end_word at w fills h = end_if (w == 0) at w fills h

pub end_words : (at : ℕ) (words : List ℕ) (fills : List Fill) → EndBy at fills → EndBy (at + length words) (words_put fills at words)
end_words at [] fills h = let e : at ≡ at + 0 = omega arith in subst (λ (n : ℕ). EndBy n fills) e h
end_words at (w ∷ words) fills h =
    let e : at + 1 + length words ≡ at + length (w ∷ words) = omega arith in
    subst (λ (n : ℕ). EndBy n (words_put (word_if fills at w) (at + 1) words)) e (end_words (at + 1) words (word_if fills at w) (end_word at w fills h))

-- words that are 0 put nothing
pub zeros_put : (fills : List Fill) (first count at : ℕ) (word : ℕ → ℕ) → ((n : ℕ) → first ≤ n → n < first + count → word n ≡ 0)
    → words_put fills at (map word (range_with_len first count)) ≡ fills
zeros_put fills first zero at word none = refl
zeros_put fills first (suc count) at word none =
    let e : (word first == 0) ≡ true = eq-eqb (word first) 0 (none first (omega arith) (omega arith)) in
    ap (λ (t : Bool). words_put (if t then fills else word_put fills at (word first)) (at + 1) (map word (range_with_len (first + 1) count))) e
    ∙ zeros_put fills (first + 1) count (at + 1) word (λ n low high. none n (omega (arith, low)) (omega (arith, high)))
