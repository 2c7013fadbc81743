-- A run that nothing from outside disturbs.
use Rattle.std.specs.Prelude.{◌≡◌, ℕ, ◌<◌, true, List, length, Contains, None}
use Rattle.svsm_types.specs.declared.image.Image.{Image}
use Rattle.svsm_types.specs.declared.request.Request.{Request}
use Rattle.svsm_steps.specs.declared.entry.Entry.{Entry}
use Rattle.svsm_steps.specs.Announced.{ap_error}
use Rattle.svsm_steps.specs.Region.{fault_at}
use Rattle.svsm_calls.specs.World.{run_answer}
use Rattle.svsm_calls.specs.CoreRun.{is_run_answer}
use Rattle.svsm_calls.specs.Run.{script_of}
use Rattle.svsm_outside.specs.Outside.{Rose}

-- no step of these faulted
abbrev pub NoneFaults : List Entry → Type 0
NoneFaults entries = (entry : Entry) → Contains entries entry → fault_at entry.answer ≡ None

-- by this count of faults, before and after, no load or write failed
abbrev pub NoneFails : ℕ → ℕ → Type 0
NoneFails before now = Rose before now → ⊥

-- by the lines of the image the host answers right all run requests that these scripts may make: at most one for each request of a script
abbrev pub AnswersRight : Image → List (List Request) → Type 0
AnswersRight image scripts =
    (core number : ℕ) → number < length (script_of scripts core) → is_run_answer (run_answer image.host core number) ≡ true

-- by the lines of the image the host takes each exit that announces a vCPU, where the image has any announced
abbrev pub TakesExits : Image → Type 0
TakesExits image = image.announce ≡ true → (number : ℕ) → ap_error image.host number ≡ 0
