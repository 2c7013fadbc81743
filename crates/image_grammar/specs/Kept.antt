-- The lines that count, with their numbers.
use Rattle.std.specs.Prelude.{ℕ, ◌==◌, Bool, true, not, List, [], ◌∷◌, filter}
use Rattle.std.specs.List.{enumerate_from}
use Rattle.svsm_text.specs.Lines.{lines}

-- an empty line, and one that begins with `#`, is skipped
abbrev pub is_skipped : List ℕ → Bool
is_skipped [] = true
is_skipped (b ∷ bs) = b == 35

-- a line of a text and its number, counted from 1
abbrev pub Line : Type 0
Line = ℕ × List ℕ

-- the lines with their numbers, but for those that are skipped
abbrev pub kept_from : ℕ → List (List ℕ) → List Line
kept_from first all = filter (λ (line : ℕ × List ℕ). not (is_skipped line.1)) (enumerate_from first all)

-- lines count from 1
abbrev pub kept_lines : List ℕ → List Line
kept_lines text = kept_from 1 (lines text)
