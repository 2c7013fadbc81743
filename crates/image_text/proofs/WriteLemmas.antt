-- Texts one behind another.
use Rattle.std.proofs.Common.{◌≡◌, ◌∙◌, ◌++◌, ◌∷◌, [], List, ℕ, ap, sym, append_assoc, refl}
use Rattle.std.specs.Prelude.{Result, Ok, Err, OnOk, flat_map}
use Rattle.std.proofs.lemmas.List.{append-nil}
use Rattle.std.proofs.lemmas.Grind.{flat_map-append}
use Rattle.image_text.specs.Written.{Fields, line_text}

pub ok_by : {A E : Type 0} (r : Result A E) (X Y : Type 0) → OnOk r X → (X → Y) → OnOk r Y
ok_by (Ok x) X Y h f = f h
ok_by (Err e) X Y h f = tt

-- one line more
pub line_more : (old : List ℕ) (before : List Fields) (line : Fields) (mid new : List ℕ) → mid ≡ old ++ flat_map line_text before → new ≡ mid ++ line_text line → new ≡ old ++ flat_map line_text (before ++ line ∷ [])
line_more old before line mid new e h =
    h ∙ ap (λ (l : List ℕ). l ++ line_text line) e ∙ append_assoc old (flat_map line_text before) (line_text line)
    ∙ ap (λ (l : List ℕ). old ++ l) (sym (flat_map-append line_text before (line ∷ []) ∙ ap (λ (l : List ℕ). flat_map line_text before ++ l) (append-nil (line_text line))))

pub first_line : (old : List ℕ) (line : Fields) (new : List ℕ) → new ≡ old ++ line_text line → new ≡ old ++ flat_map line_text (line ∷ [])
first_line old line new h = h ∙ ap (λ (l : List ℕ). old ++ l) (sym (append-nil (line_text line)))

-- lines behind lines
pub lines_more : (old : List ℕ) (a b : List Fields) (mid new : List ℕ) → mid ≡ old ++ flat_map line_text a → new ≡ mid ++ flat_map line_text b → new ≡ old ++ flat_map line_text (a ++ b)
lines_more old a b mid new e h =
    h ∙ ap (λ (l : List ℕ). l ++ flat_map line_text b) e ∙ append_assoc old (flat_map line_text a) (flat_map line_text b) ∙ ap (λ (l : List ℕ). old ++ l) (sym (flat_map-append line_text a b))
