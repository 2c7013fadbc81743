-- Ranges and fills, put together from the first page and word on.
use Rattle.std.specs.Prelude.{ℕ, ◌+◌, ◌*◌, ◌≤◌, nat_le, Bool, ◌&&◌, ⊤, ◌==◌, if◌then◌else◌, List, [], ◌∷◌, ◌++◌, length}
use Rattle.svsm_types.specs.declared.image.Range.{Range}
use Rattle.svsm_types.specs.declared.image.Fill.{Fill}
use Rattle.svsm_types.specs.Hardware.{right_of}
use Rattle.svsm_types.specs.declared.owner.RmpRow.{RmpRow}
use Rattle.svsm_types.specs.declared.platform.HwState.TheVariants.{Assigned}
use Rattle.image_text.specs.Saved.{Saying, same_saying, range_at, hw_state, rights_of}

-- what a range says of its pages
abbrev pub says_of : Range → Saying
says_of range = record { owner = range.owner; state = range.state; rights = range.rights }

-- one page more: it joins the last range where it says the same
abbrev pub page_put : List Range → ℕ → Saying → List Range
page_put [] page says = range_at page 1 says ∷ []
page_put (range ∷ []) page says =
    if same_saying (says_of range) says then record range { count = range.count + 1 } ∷ [] else range ∷ range_at page 1 says ∷ []
page_put (range ∷ next ∷ more) page says = range ∷ page_put (next ∷ more) page says

-- one word more, that is not 0: it joins the last fill where it stands behind it
abbrev pub word_put : List Fill → ℕ → ℕ → List Fill
word_put [] at word = record { gpa = record { 0 = 8 * at }; words = word ∷ [] } ∷ []
word_put (fill ∷ []) at word =
    if fill.gpa.0 + 8 * length fill.words == 8 * at
    then record { gpa = fill.gpa; words = fill.words ++ word ∷ [] } ∷ []
    else fill ∷ record { gpa = record { 0 = 8 * at }; words = word ∷ [] } ∷ []
word_put (fill ∷ next ∷ more) at word = fill ∷ word_put (next ∷ more) at word

-- one word more, whatever it is
abbrev pub word_if : List Fill → ℕ → ℕ → List Fill
word_if fills at word = if word == 0 then fills else word_put fills at word

-- so many words, from the one with a number on
abbrev pub words_put : List Fill → ℕ → List ℕ → List Fill
words_put fills at [] = fills
words_put fills at (word ∷ words) = words_put (word_if fills at word) (at + 1) words

-- no fill goes past the word with this number
abbrev pub EndBy : ℕ → List Fill → Type 0
EndBy at [] = ⊤
EndBy at (fill ∷ fills) = (fill.gpa.0 + 8 * length fill.words ≤ 8 * at) × EndBy at fills

-- no range has more pages than this
abbrev pub AreUpTo : ℕ → List Range → Type 0
AreUpTo most [] = ⊤
AreUpTo most (range ∷ ranges) = (range.count ≤ most) × AreUpTo most ranges

-- what is said of a page, by its row
abbrev pub row_saying : ℕ → ℕ → RmpRow → Saying
row_saying ghcb page row = record { owner = row.owner; state = if page == ghcb then Assigned else hw_state row.state; rights = rights_of row.state }

-- what is said of the pages from a first one on
abbrev pub rows_saying : ℕ → ℕ → List RmpRow → List Saying
rows_saying ghcb page [] = []
rows_saying ghcb page (row ∷ rows) = row_saying ghcb page row ∷ rows_saying ghcb (page + 1) rows

-- the rights of a row have four bits each
abbrev pub has_four_bits : RmpRow → Bool
has_four_bits row = nat_le (right_of 1 row.state) 15 && (nat_le (right_of 2 row.state) 15 && nat_le (right_of 3 row.state) 15)
