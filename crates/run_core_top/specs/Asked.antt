-- Which files are loaded.
use Rattle.std.specs.Prelude.{◌≡◌, ℕ, List, [], ◌∷◌, ◌++◌, take, Option, Some, None, Result, Ok, Err}
use Rattle.svsm_outside.specs.Views.{ShelfView}
use Rattle.command_words.specs.Words.{Run}
use Rattle.run_core_top.specs.Task.{Task, of_files, of_numbers, of_saved, of_audit, task_in, saved_files, audited_files}

-- the names of a run's files, in the order of their loads
abbrev pub run_names : Run → List (List ℕ)
run_names run = run.image ∷ run.scripts

-- the names of a task's files: a report comes after the files of its run, and generated scripts have no file
abbrev pub task_names : Task → List (List ℕ)
task_names (of_files command) = run_names command
task_names (of_numbers numbers) = []
task_names (of_saved command) = run_names (saved_files command)
task_names (of_audit command) = run_names (audited_files command) ++ (command.report ∷ [])

-- no task names no file
abbrev pub names_by : Option Task → List (List ℕ)
names_by None = []
names_by (Some task) = task_names task

-- the files that words name
abbrev pub files_in : List (List ℕ) → List (List ℕ)
files_in words = names_by (task_in words)

-- a front of these names was asked for, each once and in their order
pub record AsksFront (names : List (List ℕ)) (before now : ShelfView) : Type 0 where
  pub count : ℕ
  pub asked : now.asked ≡ before.asked ++ take count names

-- all of them were; where it stopped, a front
abbrev pub AsksFor : {T E : Type 0} → List (List ℕ) → ShelfView → ShelfView → Result T E → Type 0
AsksFor names before now (Ok v) = now.asked ≡ before.asked ++ names
AsksFor names before now (Err e) = AsksFront names before now
