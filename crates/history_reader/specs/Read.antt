-- What the reader of a history part answers.
use Rattle.std.specs.Prelude.{⊤, ℕ, Result, Ok, Err, List}
use Rattle.svsm_steps.specs.declared.entry.Entry.{Entry}
use Rattle.history_reader.specs.declared.history.HistoryError.{HistoryError}
use Rattle.history_reader.specs.declared.history.HistoryError.TheVariants.{Line, NoMemory}
use Rattle.history_reader.specs.Texts.{CountedLines, LineFailsAt, HistoryIs, HistoryFails}

-- of lines whose first has this number: the entries of their history part, or the line that fails. Want of memory is free
abbrev pub Reads : {V : Type 0} → (V → List Entry) → ℕ → ℕ → List (List ℕ) → Result V HistoryError → Type 0
Reads seen regions at lines (Ok entries) = HistoryIs regions lines (seen entries)
Reads seen regions at lines (Err (Line failing)) = HistoryFails regions at lines failing
Reads seen regions at lines (Err NoMemory) = ⊤

-- of so many lines of entries
abbrev pub CountsFrom : {V : Type 0} → (V → List Entry) → ℕ → ℕ → ℕ → List (List ℕ) → Result V HistoryError → Type 0
CountsFrom seen regions at count lines (Ok entries) = CountedLines regions count lines (seen entries)
CountsFrom seen regions at count lines (Err (Line failing)) = LineFailsAt regions at count lines failing
CountsFrom seen regions at count lines (Err NoMemory) = ⊤
