-- Appending a text in pieces.
use Rattle.std.proofs.Common.{◌≡◌, ℕ, ◌+◌, ◌-◌, ◌≤◌, List, ◌++◌, length, take, drop, sym, ◌∙◌, ap, subst, arith, append_assoc, take-append-drop, length-take, length-drop}
use Rattle.std.specs.Prelude.{Option, Some, None}
use Rattle.std.specs.Io.KnownBytes.{Appends}
use Rattle.std.proofs.Math.Seq.{take-append-add}
use Rattle.std.proofs.lemmas.List.{take_all}

-- a longer front is the front and the next piece
take_more : (i n : ℕ) (xs : List ℕ) → i ≤ length xs → take (i + n) xs ≡ take i xs ++ take n (drop i xs)
take_more i n xs within =
    let size : length (take i xs) ≡ i = omega (arith, length-take i xs) in
    subst (λ (k : ℕ). take (k + n) xs ≡ take i xs ++ take n (drop i xs)) size
    (subst (λ (ys : List ℕ). take (length (take i xs) + n) ys ≡ take i xs ++ take n (drop i xs)) (take-append-drop i xs)
    (take-append-add (take i xs) (drop i xs) n))

-- one piece after another
appends_more : (before mid now : Option (List ℕ)) (a b : List ℕ) → Appends before mid a → Appends mid now b → Appends before now (a ++ b)
appends_more None mid now a b first next = tt
appends_more (Some w) None now a b first next = absurd first
appends_more (Some w) (Some m) None a b first next = next
appends_more (Some w) (Some m) (Some n) a b first next = next ∙ ap (λ (t : List ℕ). t ++ b) first ∙ append_assoc w a b

-- what is left of a text after i bytes
rest_is : (i : ℕ) (text : List ℕ) → take (length text - i) (drop i text) ≡ drop i text
rest_is i text = take_all (length text - i) (drop i text) (omega (arith, length-drop i text))

-- a piece of a text was appended, as `out.write(&text[i..])` says
pub piece_fits : (i n : ℕ) (text : List ℕ) → i ≤ length text → n ≤ length (take (length text - i) (drop i text)) → i + n ≤ length text
piece_fits i n text within short = omega (arith, ap length (rest_is i text), length-drop i text)

pub piece_appends : (before mid now : Option (List ℕ)) (i n : ℕ) (text : List ℕ) → i ≤ length text
    → Appends before mid (take i text) → Appends mid now (take n (take (length text - i) (drop i text))) → Appends before now (take (i + n) text)
piece_appends before mid now i n text within first next =
    subst (λ (bytes : List ℕ). Appends before now bytes) (sym (take_more i n text within))
    (appends_more before mid now (take i text) (take n (drop i text)) first
    (subst (λ (rest : List ℕ). Appends mid now (take n rest)) (rest_is i text) next))
