-- The history part of a text: its first line of a history, and the lines that this one counts.
use Rattle.std.specs.Prelude.{◌≡◌, ◌⊎◌, ⊤, ℕ, zero, suc, ◌+◌, ◌<◌, ◌^◌, Bool, true, false, Option, Some, None, List, [], ◌∷◌, ◌++◌, take, bytes_eq, codes}
use Rattle.svsm_steps.specs.declared.entry.Entry.{Entry}
use Rattle.svsm_steps.specs.Formed.{IsWellFormed}
use Rattle.svsm_text.specs.Numbers.{number}
use Rattle.report.specs.Text.{line}
use Rattle.report.specs.History.{entry_line}
use Rattle.history_reader.specs.Fits.{Fits}

-- the line, with its newline, is the text of this entry, whose step is well formed
pub record IsEntryLine (regions : ℕ) (bytes : List ℕ) (entry : Entry) : Type 0 where
  pub fits : Fits entry
  pub formed : IsWellFormed regions entry.step
  pub text : bytes ++ 10 ∷ [] ≡ entry_line entry

-- whether a line begins the history
abbrev pub begins_history : List ℕ → Bool
begins_history bytes = bytes_eq (take 8 bytes) (codes "history ")

-- the line counts so many entries
pub record Counts (bytes : List ℕ) (count : ℕ) : Type 0 where
  pub fits : count < 2 ^ 64
  pub text : bytes ++ 10 ∷ [] ≡ line (codes "history" ∷ number count ∷ [])

-- these lines are the texts of these entries, in order
abbrev pub AreEntryLines : ℕ → List (List ℕ) → List Entry → Type 0
AreEntryLines regions [] [] = ⊤
AreEntryLines regions (bytes ∷ lines) (entry ∷ entries) = IsEntryLine regions bytes entry × AreEntryLines regions lines entries
AreEntryLines regions _ _ = ⊥

-- so many lines are the texts of these entries; other lines may follow
abbrev pub CountedLines : ℕ → ℕ → List (List ℕ) → List Entry → Type 0
CountedLines regions zero lines entries = entries ≡ []
CountedLines regions (suc count) [] entries = ⊥
CountedLines regions (suc count) (bytes ∷ lines) [] = ⊥
CountedLines regions (suc count) (bytes ∷ lines) (entry ∷ entries) =
    IsEntryLine regions bytes entry × CountedLines regions count lines entries

-- of so many lines, which begin with the one of this number, the first that is missing or is no text of an entry has this number
abbrev pub LineFailsAt : ℕ → ℕ → ℕ → List (List ℕ) → ℕ → Type 0
LineFailsAt regions at zero lines failing = ⊥
LineFailsAt regions at (suc count) [] failing = failing ≡ at
LineFailsAt regions at (suc count) (bytes ∷ lines) failing =
    (((entry : Entry) → IsEntryLine regions bytes entry → ⊥) × (failing ≡ at))
    ⊎ ((entry : Entry) × IsEntryLine regions bytes entry × LineFailsAt regions (at + 1) count lines failing)

-- what holds where the history begins here, or later
abbrev pub AtBegin : Bool → Type 0 → Type 0 → Type 0
AtBegin true here later = here
AtBegin false here later = later

-- the history part of these lines has these entries
abbrev pub HistoryIs : ℕ → List (List ℕ) → List Entry → Type 0
HistoryIs regions [] entries = ⊥
HistoryIs regions (bytes ∷ lines) entries =
    AtBegin (begins_history bytes) ((count : ℕ) × Counts bytes count × CountedLines regions count lines entries) (HistoryIs regions lines entries)

-- it has none, since the line of this number fails; they are numbered from `at` on. 0 says that no line begins a history
abbrev pub HistoryFails : ℕ → ℕ → List (List ℕ) → ℕ → Type 0
HistoryFails regions at [] failing = failing ≡ 0
HistoryFails regions at (bytes ∷ lines) failing =
    AtBegin (begins_history bytes)
    ((((count : ℕ) → Counts bytes count → ⊥) × (failing ≡ at))
    ⊎ ((count : ℕ) × Counts bytes count × LineFailsAt regions (at + 1) count lines failing))
    (HistoryFails regions (at + 1) lines failing)

-- the number whose text a field is, where it is one of 64 bits
abbrev pub IsPrinted : List ℕ → Option ℕ → Type 0
IsPrinted field None = (n : ℕ) → n < 2 ^ 64 → field ≡ number n → ⊥
IsPrinted field (Some n) = (n < 2 ^ 64) × (field ≡ number n)
