-- The lines of a text, and the fields of a line.
use Rattle.std.specs.Prelude.{ℕ, ◌+◌, ◌==◌, Bool, false, if◌then◌else◌, min, Option, Some, None, List, [], ◌∷◌, length, drop}
use Rattle.std.specs.List.{onto_first, position_or_len}

-- a newline ends a line
abbrev pub is_newline : ℕ → Bool
is_newline b = b == 10

-- a space parts fields
abbrev pub is_space : ℕ → Bool
is_space b = b == 32

-- the lines, without their newlines; the last may lack its newline
abbrev pub lines : List ℕ → List (List ℕ)
lines [] = []
lines (b ∷ bs) = if is_newline b then [] ∷ lines bs else onto_first b (lines bs)

-- the text begins with a space
abbrev pub begins_with_space : List ℕ → Bool
begins_with_space [] = false
begins_with_space (b ∷ bs) = is_space b

-- the fields; one or more spaces stand between two. A space at either end of the line has an empty field beside it
abbrev pub fields : List ℕ → List (List ℕ)
fields [] = [] ∷ []
fields (b ∷ bs) =
    if is_space b
    then (if begins_with_space bs then fields bs else [] ∷ fields bs)
    else onto_first b (fields bs)

-- where the line that begins at a place ends
abbrev pub line_end : List ℕ → ℕ → ℕ
line_end bytes from = from + position_or_len is_newline (drop from bytes)

-- the end of the line that begins at a place, and where the next begins
abbrev pub next_line : List ℕ → ℕ → Option (ℕ × ℕ)
next_line bytes from =
    if from == length bytes then None else Some (line_end bytes from, min (line_end bytes from + 1) (length bytes))

-- without the spaces at the front
abbrev pub after_spaces : List ℕ → List ℕ
after_spaces [] = []
after_spaces (b ∷ bs) = if is_space b then after_spaces bs else b ∷ bs
