-- A run that was made, and whose last state is not saved.
use Rattle.std.proofs.Common.{◌≡◌, ◌≢◌, ℕ, ◌≤◌, List, [], ◌∷◌, refl, sym, ◌∙◌, ap, subst, inl, inr, ⊎_elim, arith}
use Rattle.std.specs.Prelude.{◌⊎◌, Option, Some}
use Rattle.svsm_steps.specs.declared.entry.Entry.{Entry}
use Rattle.svsm_outside.specs.Views.{ShelfView}
use Rattle.command_words.specs.declared.asked.GenWords.{GenWords}
use Rattle.command_words.specs.Words.{Run, Save, run_in}
use Rattle.image_text.specs.declared.error.SaveError.{SaveError}
use Rattle.run_core_top.specs.declared.stop.Stop.TheVariants as stops
use Rattle.run_core_top.specs.declared.top.Ran.{Ran}
use Rattle.run_core_top.specs.Headline.{IsRefusedSave, IsUnsaved, IsUnsavedWith, KeepsLawsIfRun, KeepsLawsOf, StopsWith}
use Rattle.run_core_top.specs.Stops.{stop_line}
use Rattle.run_core_top.specs.Task.{Task, of_files, of_numbers, of_saved, of_audit, task_in}
use Rattle.run_core_top.specs.Unsaved.{ToldUnsaved, ToldMemory, IsUnsavedBy}
use Rattle.run_core_top.proofs.TaskLemmas.{files_task}
use Rattle.run_core_top.proofs.TopLemmas.{memory_cause, stops_for}

-- only where the words ask to save a run

pub not_files : (told : List ℕ → Option (List ℕ)) (words : List (List ℕ)) (task : Task) (trace : List Entry) (error : SaveError)
    → task_in words ≡ Some task → IsRefusedSave told task trace error → (run : Run) → run_in words ≡ Some run → ⊥
not_files told words task trace error is refused run asked =
    let files : task_in words ≡ Some (of_files run) = files_task words run asked in
    let same : task ≡ of_files run = cc in
    subst (λ (t : Task). IsRefusedSave told t trace error) same refused

pub not_numbers : (told : List ℕ → Option (List ℕ)) (words : List (List ℕ)) (task : Task) (trace : List Entry) (error : SaveError)
    → task_in words ≡ Some task → IsRefusedSave told task trace error → (numbers : GenWords) → task_in words ≡ Some (of_numbers numbers) → ⊥
not_numbers told words task trace error is refused numbers asked =
    let same : task ≡ of_numbers numbers = cc in
    subst (λ (t : Task). IsRefusedSave told t trace error) same refused

of_save : (told : List ℕ → Option (List ℕ)) (task : Task) (trace : List Entry) (error : SaveError) → IsRefusedSave told task trace error
    → (command : Save) × (task ≡ of_saved command) × IsUnsaved told command trace error
of_save told (of_files command) trace error refused = absurd refused
of_save told (of_numbers numbers) trace error refused = absurd refused
of_save told (of_audit command) trace error refused = absurd refused
of_save told (of_saved command) trace error refused = (command, refl, refused)

-- what is told of it

pub unsaved_status : (error : SaveError) (trace : List Entry) (IsTold : List ℕ → Type 0) (ran : Ran) → IsUnsavedBy error trace IsTold ran
    → (3 ≤ ran.status) × (ran.status ≢ 6)
unsaved_status error trace IsTold ran by =
    ⊎_elim
    (λ (told : ToldUnsaved error trace IsTold ran). let of = told.0 in (omega (arith, of), λ six. omega (arith, of, six)))
    (λ (memory : ToldMemory IsTold ran). let of = memory.0 in (omega (arith, of), λ six. omega (arith, of, six)))
    by

pub unsaved_with : (before now : ShelfView) (words : List (List ℕ)) (task : Task) (error : SaveError) (trace : List Entry) (IsTold : List ℕ → Type 0)
    (ran : Ran) → task_in words ≡ Some task → IsRefusedSave before.told task trace error → now.faults ≡ before.faults
    → IsUnsavedBy error trace IsTold ran → ran.status ≡ 8 → IsUnsavedWith before now words ran.trace IsTold
unsaved_with before now words task error trace IsTold ran is refused calm by eight =
    let command = of_save before.told task trace error refused in
    ⊎_elim
    (λ (told : ToldUnsaved error trace IsTold ran). record {
      command = command.0;
      is_command = is ∙ ap (λ (t : Task). Some t) command.1;
      error = error;
      unsaved = subst (λ (t : List Entry). IsUnsaved before.told command.0 t error) (sym told.1) command.2;
      calm = calm;
      line = told.2;
    })
    (λ (memory : ToldMemory IsTold ran). let of = memory.0 in absurd (omega (arith, of, eight)))
    by

pub unsaved_stop : (before now : ShelfView) (words : List (List ℕ)) (task : Task) (error : SaveError) (trace : List Entry) (IsTold : List ℕ → Type 0)
    (ran : Ran) → task_in words ≡ Some task → IsUnsavedBy error trace IsTold ran
    → (ran.status ≤ 1) ⊎ ((ran.status ≡ 6) ⊎ ((ran.status ≡ 8) ⊎ StopsWith before now words ran.status IsTold))
unsaved_stop before now words task error trace IsTold ran is by =
    ⊎_elim
    (λ (told : ToldUnsaved error trace IsTold ran). inr (inr (inl told.0)))
    (λ (memory : ToldMemory IsTold ran). inr (inr (inr (record {
      stop = stops.Memory;
      is_status = memory.0;
      cause = stops_for before now words task stops.Memory is (memory_cause before now task);
      line = memory.2;
    }))))
    by

pub unsaved_trace : (error : SaveError) (trace : List Entry) (IsTold : List ℕ → Type 0) (ran : Ran) → IsUnsavedBy error trace IsTold ran
    → (ran.status ≤ 1) ⊎ ((ran.status ≡ 6) ⊎ ((ran.status ≡ 8) ⊎ (ran.trace ≡ [])))
unsaved_trace error trace IsTold ran by =
    ⊎_elim
    (λ (told : ToldUnsaved error trace IsTold ran). inr (inr (inl told.0)))
    (λ (memory : ToldMemory IsTold ran). inr (inr (inr memory.1)))
    by

pub unsaved_laws : (shelf : ShelfView) (words : List (List ℕ)) (task : Task) (error : SaveError) (trace : List Entry) (IsTold : List ℕ → Type 0)
    (ran : Ran) → task_in words ≡ Some task → KeepsLawsIfRun shelf.told task trace → IsUnsavedBy error trace IsTold ran
    → (ran.status ≡ 6) ⊎ (ran.status ≡ 8) → KeepsLawsOf shelf words ran.trace
unsaved_laws shelf words task error trace IsTold ran is keeps by either =
    ⊎_elim
    (λ (told : ToldUnsaved error trace IsTold ran).
    (task, is, subst (λ (t : List Entry). KeepsLawsIfRun shelf.told task t) (sym told.1) keeps))
    (λ (memory : ToldMemory IsTold ran).
    let of = memory.0 in
    absurd (⊎_elim (λ (six : ran.status ≡ 6). omega (arith, of, six)) (λ (eight : ran.status ≡ 8). omega (arith, of, eight)) either))
    by
