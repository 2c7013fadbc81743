-- Small facts about texts.
use Rattle.std.proofs.Common.{◌≡◌, ℕ, ◌+◌, ◌-◌, ◌^◌, ◌<◌, ◌≤◌, Bool, true, false, List, [], ◌∷◌, ◌++◌, length, take, drop, get_or, refl, sym, ◌∙◌, ap, arith, map}
use Rattle.std.specs.Prelude.{codes, bytes_eq, flat_map, IsTrue, Option, Some, None, MatchOption, IfOk, Result, Ok, Err}
use Rattle.std.proofs.lemmas.List.{append-nil, append_cancel_left, append_cancel_right, take_more, length-drop, take_all, take-append-drop}
use Rattle.std.proofs.lemmas.Slice.Eq.{bytes_eq-Decides}
use Rattle.svsm_text.specs.Numbers.{number, number_in}
use Rattle.svsm_text.proofs.NumberLemmas.{read_again}
use Rattle.report.specs.Text.{spaced}
use Rattle.history_reader.specs.declared.words.StepWord.{StepWord}
use Rattle.history_reader.specs.Fields.{with_two, entry_in}
use Rattle.history_reader.specs.Texts.{Counts, IsPrinted}
use Rattle.history_reader.proofs.FieldLemmas.{line_front}

pub short_two : {A : Type 0} (f : A → List ℕ) (word : StepWord) (xs : List A) → length xs < 3 → None ≡ with_two word (map f xs)
short_two f word [] low = refl
short_two f word (a ∷ []) low = refl
short_two f word (a ∷ b ∷ []) low = refl
short_two f word (a ∷ b ∷ c ∷ xs) low = absurd (omega arith)

pub short_entry : {A : Type 0} (f : A → List ℕ) (xs : List A) → length xs < 5 → None ≡ entry_in (map f xs)
short_entry f [] low = refl
short_entry f (a ∷ []) low = refl
short_entry f (a ∷ b ∷ []) low = refl
short_entry f (a ∷ b ∷ c ∷ []) low = refl
short_entry f (a ∷ b ∷ c ∷ d ∷ []) low = refl
short_entry f (a ∷ b ∷ c ∷ d ∷ e ∷ xs) low = absurd (omega arith)

-- a text is its front and its last byte
ends_with : (text : List ℕ) (n : ℕ) → 1 ≤ length text → get_or text (length text - 1) 0 ≡ n → text ≡ take (length text - 1) text ++ n ∷ []
ends_with text n some is =
    sym (take_all (length text - 1 + 1) text (omega arith))
    ∙ take_more text (length text - 1) 0 (omega arith)
    ∙ ap (λ (x : ℕ). take (length text - 1) text ++ x ∷ []) is

pub same_bytes : (xs ys : List ℕ) → bytes_eq xs ys ≡ true → xs ≡ ys
same_bytes xs ys is = let d = bytes_eq-Decides xs ys in grind arith

pub bytes_same : (xs ys : List ℕ) → xs ≡ ys → bytes_eq xs ys ≡ true
bytes_same xs ys is = let d = bytes_eq-Decides xs ys in grind arith

-- whether a text is a line and its newline
pub line_tested : (bytes text : List ℕ) (b : Bool) → 1 ≤ length text → get_or text (length text - 1) 0 ≡ 10 → b ≡ bytes_eq (take (length text - 1) text) bytes
    → (IsTrue b → bytes ++ 10 ∷ [] ≡ text) × (bytes ++ 10 ∷ [] ≡ text → IsTrue b)
line_tested bytes text b some last is =
    let whole = ends_with text 10 some last in (
      λ holds. ap (λ (x : List ℕ). x ++ 10 ∷ []) (sym (same_bytes (take (length text - 1) text) bytes (sym is ∙ holds))) ∙ sym whole,
      λ same. (is ∙ bytes_same (take (length text - 1) text) bytes
          (append_cancel_right (take (length text - 1) text) bytes (10 ∷ []) (sym whole ∙ sym same))),
    )

-- a field that is no number is not printed
pub no_number : (field : List ℕ) (n : ℕ) → n < 2 ^ 64 → number_in field ≡ None → field ≡ number n → ⊥
no_number field n small none is = let e : None ≡ Some n = sym none ∙ ap number_in is ∙ read_again n small in cc

-- a field that is another number, or in another form, is not that which was printed
pub other_number : (field text : List ℕ) (value n : ℕ) → n < 2 ^ 64 → number_in field ≡ Some value → text ≡ number value → bytes_eq text field ≡ false → field ≡ number n → ⊥
other_number field text value n small read printed differs is =
    let e : Some value ≡ Some n = sym read ∙ ap number_in is ∙ read_again n small in
    let same : value ≡ n = cc in
    let t : bytes_eq text field ≡ true = bytes_same text field (printed ∙ ap number same ∙ sym is) in
    cc

-- the first line of a history, behind its word
pub counts_text : (n : ℕ) → codes "history" ++ flat_map spaced (number n ∷ []) ≡ codes "history " ++ number n
counts_text n = ap (λ (x : List ℕ). codes "history" ++ (32 ∷ x)) (append-nil (number n))

pub counted : (bytes field : List ℕ) (told : Option ℕ) → bytes ≡ codes "history " ++ field → IsPrinted field told
    → MatchOption told ((count : ℕ) → Counts bytes count → ⊥) (λ count. Counts bytes count)
counted bytes field None is printed = λ count counts.
    printed count counts.fits
    (append_cancel_left (codes "history ") field (number count)
    (sym is ∙ line_front bytes (codes "history") (number count ∷ []) counts.text ∙ counts_text count))
counted bytes field (Some n) is printed = record {
  fits = printed.0;
  text = ap (λ (x : List ℕ). x ++ 10 ∷ []) (is ∙ ap (λ (x : List ℕ). codes "history " ++ x) printed.1 ∙ sym (counts_text n));
}

pub counted_ok : {E : Type 0} (bytes field : List ℕ) (result : Result (Option ℕ) E) → bytes ≡ codes "history " ++ field → IfOk result (IsPrinted field)
    → IfOk result (λ told. MatchOption told ((count : ℕ) → Counts bytes count → ⊥) (λ count. Counts bytes count))
counted_ok bytes field (Ok told) is printed = counted bytes field told is printed
counted_ok bytes field (Err e) is printed = tt

-- a text behind its first bytes
pub behind : (bytes front field : List ℕ) (n : ℕ) → bytes_eq (take n bytes) front ≡ true → field ≡ drop n bytes → bytes ≡ front ++ field
behind bytes front field n same rest =
    sym (take-append-drop n bytes) ∙ ap (λ (x : List ℕ). x ++ drop n bytes) (same_bytes (take n bytes) front same) ∙ ap (λ (x : List ℕ). front ++ x) (sym rest)

pub not_true : (b : Bool) → b ≡ false → IsTrue b → ⊥
not_true b is h = cc

-- a room of 256 bytes, from a place to its end
pub room_end : (start : ℕ) (room : List ℕ) → length room ≡ 256 → drop start room ≡ take (256 - start) (drop start room)
room_end start room long = sym (take_all (256 - start) (drop start room) (let h = length-drop start room in omega (arith, h)))
