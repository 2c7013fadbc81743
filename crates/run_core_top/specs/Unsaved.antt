-- How it is told that a last state is not saved.
use Rattle.std.specs.Prelude.{◌≡◌, ◌⊎◌, ℕ, List, []}
use Rattle.svsm_steps.specs.declared.entry.Entry.{Entry}
use Rattle.image_text.specs.declared.error.SaveError.{SaveError}
use Rattle.run_core_top.specs.declared.stop.Stop.TheVariants as stops
use Rattle.run_core_top.specs.declared.top.Ran.{Ran}
use Rattle.run_core_top.specs.Stops.{stop_line}

-- by its line, with the history of the run
abbrev pub ToldUnsaved : SaveError → List Entry → (List ℕ → Type 0) → Ran → Type 0
ToldUnsaved error trace IsTold ran = (ran.status ≡ 8) × (ran.trace ≡ trace) × IsTold (stop_line (stops.Unsaved error))

-- as want of memory, where there was none for its line
abbrev pub ToldMemory : (List ℕ → Type 0) → Ran → Type 0
ToldMemory IsTold ran = (ran.status ≡ 3) × (ran.trace ≡ []) × IsTold (stop_line stops.Memory)

-- in one of these ways
abbrev pub IsUnsavedBy : SaveError → List Entry → (List ℕ → Type 0) → Ran → Type 0
IsUnsavedBy error trace IsTold ran = ToldUnsaved error trace IsTold ran ⊎ ToldMemory IsTold ran
