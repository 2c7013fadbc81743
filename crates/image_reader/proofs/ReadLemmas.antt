-- A whole text, from its parts.
use Rattle.std.proofs.Common.{◌≡◌, ℕ, Bool, true, false, List, refl}
use Rattle.std.specs.Prelude.{Result, Ok, Err, length, nat_lt, ◌&&◌}
use Rattle.svsm_types.specs.declared.image.Image.{Image}
use Rattle.svsm_steps.specs.Image.{range_of}
use Rattle.svsm_steps.specs.Sound.{IsSound}
use Rattle.image_grammar.specs.declared.kind.ImageKind.{ImageKind}
use Rattle.image_grammar.specs.declared.kind.ImageKind.TheVariants as kinds
use Rattle.image_grammar.specs.Told.{◌>>=◌, holds}
use Rattle.image_grammar.specs.Kept.{Line, kept_lines}
use Rattle.image_grammar.specs.Grammar.{lines_told}
use Rattle.image_grammar.specs.End.{end_told, are_even, is_module_assigned, are_free, are_seats, has_blocks}
use Rattle.image_grammar.specs.Image.{head_told, image_of}
use Rattle.image_reader.specs.SoFar.{IsSoFar}
use Rattle.image_reader.proofs.SoundLemmas.{sound_whole}

pub head_fails : (text : List ℕ) (wrong : ℕ × ImageKind) → head_told (kept_lines text) ≡ Err wrong → image_of text ≡ Err wrong
head_fails text wrong head = simp head

pub line_fails : (text : List ℕ) (before : Image) (lines : List Line) (wrong : ℕ × ImageKind) → head_told (kept_lines text) ≡ Ok (before, lines) → lines_told before lines ≡ Err wrong → image_of text ≡ Err wrong
line_fails text before lines wrong head more = simp (head, more)

pub end_fails : (text : List ℕ) (before image : Image) (lines : List Line) (kind : ImageKind) → head_told (kept_lines text) ≡ Ok (before, lines) → lines_told before lines ≡ Ok image
    → end_told image ≡ Err kind → image_of text ≡ Err (0, kind)
end_fails text before image lines kind head more end = simp (head, more, end)

pub all_told : (text : List ℕ) (before image : Image) (lines : List Line) → head_told (kept_lines text) ≡ Ok (before, lines) → lines_told before lines ≡ Ok image
    → end_told image ≡ Ok image → image_of text ≡ Ok image
all_told text before image lines head more end = simp (head, more, end)

test_held : {B : Type 0} (kind : ImageKind) (t : Bool) (rest : Result B ImageKind) (x : B) → (holds kind t >>= (λ _. rest)) ≡ Ok x → (t ≡ true) × (rest ≡ Ok x)
test_held kind true rest x is = (refl, is)
test_held kind false rest x is = absurd cc

pub ended : (image : Image) → IsSoFar image → end_told image ≡ Ok image → IsSound image
ended image far is =
    let even = test_held kinds.Large (are_even image) _ image is in
    let ghcb = test_held kinds.Ghcb (is_module_assigned (range_of image image.ghcb.0)) _ image even.1 in
    let free = test_held kinds.Accept (are_free image) _ image ghcb.1 in
    let cores = test_held kinds.Core (nat_lt 0 (length image.cores) && are_seats image) _ image free.1 in
    let blocks = test_held kinds.Block (has_blocks image) _ image cores.1 in
    sound_whole image far even.0 ghcb.0 free.0 cores.0 blocks.0
