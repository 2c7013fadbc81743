-- The whole text of an image: the first five lines, the others, and the end.
use Rattle.std.specs.Prelude.{ℕ, ◌*◌, ◌-◌, ◌==◌, nat_le, Bool, false, not, ◌&&◌, if◌then◌else◌, Some, None, List, [], ◌∷◌, bytes_eq, codes, Result, Ok, Err}
use Rattle.svsm_types.specs.declared.image.Image.{Image}
use Rattle.svsm_text.specs.Lines.{fields}
use Rattle.svsm_text.specs.Numbers.{number_in}
use Rattle.image_grammar.specs.declared.kind.ImageKind.{ImageKind}
use Rattle.image_grammar.specs.declared.kind.ImageKind.TheVariants as kinds
use Rattle.image_grammar.specs.declared.words.Format.{Format}
use Rattle.image_grammar.specs.declared.words.Format.TheVariants as formats
use Rattle.image_grammar.specs.declared.head.Levels.{Levels}
use Rattle.image_grammar.specs.Told.{◌>>=◌, told, holds, at_line}
use Rattle.image_grammar.specs.Words.{format_word}
use Rattle.image_grammar.specs.Forms.{Fields}
use Rattle.image_grammar.specs.Kept.{Line, kept_lines}
use Rattle.image_grammar.specs.Grammar.{lines_told}
use Rattle.image_grammar.specs.End.{end_told}

-- svsm-image 1, svsm-image 2
abbrev pub title : Fields → Result Format ImageKind
title (word ∷ format ∷ []) = do
  _ ← holds kinds.Missing (bytes_eq word (codes "svsm-image"))
  told kinds.Missing (format_word format)
title _ = Err kinds.Missing

-- one number between two
abbrev pub number_line : ℕ → ℕ → Fields → Result ℕ ImageKind
number_line least most (field ∷ []) = do
  number ← told kinds.Number (number_in field)
  _ ← holds kinds.Range (nat_le least number && nat_le number most)
  Ok number
number_line least most _ = Err kinds.Line

-- the fields behind the word that is expected here
abbrev pub behind : List ℕ → Fields → Result Fields ImageKind
behind expected [] = Err kinds.Missing
behind expected (word ∷ line) = if bytes_eq word expected then Ok line else Err kinds.Missing

-- the word that is expected here, and its number
abbrev pub head_line : List ℕ → ℕ → ℕ → Fields → Result ℕ ImageKind
head_line expected least most line = do
  line ← behind expected line
  number_line least most line

-- a VMPL of the guest: 1 to 3
abbrev pub is_vmpl : ℕ → Bool
is_vmpl number = nat_le 1 number && nat_le number 3

-- the VMPLs of the guest: V in format 1, V W in format 2
abbrev pub levels_in : Format → Fields → Result Levels ImageKind
levels_in formats.One (first ∷ []) = do
  first ← told kinds.Number (number_in first)
  _ ← holds kinds.Range (is_vmpl first)
  Ok (record { first = record { 0 = first }; second = None })
levels_in formats.Two (first ∷ second ∷ []) = do
  first ← told kinds.Number (number_in first)
  second ← told kinds.Number (number_in second)
  _ ← holds kinds.Range (is_vmpl first && (is_vmpl second && not (second == first)))
  Ok (record { first = record { 0 = first }; second = Some (record { 0 = second }) })
levels_in _ _ = Err kinds.Line

-- vmpl V, vmpl V W
abbrev pub levels_line : Format → Fields → Result Levels ImageKind
levels_line format line = do
  line ← behind (codes "vmpl") line
  levels_in format line

-- what the next line tells, with the lines behind it; the text may end within the first five lines
abbrev pub first_told : {A : Type 0} → (Fields → Result A ImageKind) → List Line → Result (A × List Line) (ℕ × ImageKind)
first_told form [] = Err (0, kinds.Missing)
first_told form (line ∷ lines) = do
  found ← at_line line.0 (form (fields line.1))
  Ok (found, lines)

-- an image of which the first five lines are read
abbrev pub image_with : ℕ → Levels → ℕ → ℕ → Image
image_with regions levels features ghcb = record {
  regions = regions;
  vmpl = levels.first;
  second = levels.second;
  features = features;
  ghcb = record { 0 = ghcb };
  ranges = [];
  large = [];
  accepts = [];
  cores = [];
  fills = [];
  faults = [];
  host = [];
  split = false;
  blocks = [];
  announce = false;
}

-- the first five lines, with the lines behind them: svsm-image FORMAT, regions N, vmpl V or vmpl V W, features N, ghcb PAGE
abbrev pub head_told : List Line → Result (Image × List Line) (ℕ × ImageKind)
head_told lines = do
  format ← first_told title lines
  regions ← first_told (head_line (codes "regions") 1 512) format.1
  levels ← first_told (levels_line format.0) regions.1
  features ← first_told (head_line (codes "features") 0 0xffffffffffffffff) levels.1
  ghcb ← first_told (head_line (codes "ghcb") 0 (512 * regions.0 - 1)) features.1
  Ok (image_with regions.0 levels.0 features.0 ghcb.0, ghcb.1)

-- the image of these lines
abbrev pub image_lines : List Line → Result Image (ℕ × ImageKind)
image_lines lines = do
  head ← head_told lines
  image ← lines_told head.0 head.1
  at_line 0 (end_told image)

-- THE IMAGE OF A TEXT, or the first line that fails with its kind, where line 0 stands for the whole
abbrev pub image_of : List ℕ → Result Image (ℕ × ImageKind)
image_of text = image_lines (kept_lines text)
