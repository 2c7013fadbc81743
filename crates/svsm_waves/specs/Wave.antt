-- A wave on its way: its cores enter, and then run.
use Rattle.std.specs.Prelude.{◌≡◌, ℕ, ◌<◌, IsTrue, List, [], ◌∷◌, ◌++◌, map, length, get_or, slice_set, count_by, true, not, ⊤}
use Rattle.std.specs.List.{list_all, list_any}
use Rattle.svsm_types.specs.declared.address.Page.{Page}
use Rattle.svsm_types.specs.declared.image.Image.{Image}
use Rattle.svsm_types.specs.declared.request.Request.{Request}
use Rattle.svsm_types.specs.declared.vcpu.RowState.TheVariants.{Ready}
use Rattle.svsm_steps.specs.declared.answer.Answer.TheVariants.{Seen}
use Rattle.svsm_steps.specs.declared.entry.Entry.{Entry}
use Rattle.svsm_steps.specs.declared.call.Caller.{Caller}
use Rattle.svsm_steps.specs.declared.outcome.CoreRun.{CoreRun}
use Rattle.svsm_steps.specs.declared.outcome.CoreEnd.TheVariants.{Unstarted}
use Rattle.svsm_steps.specs.Registry.{of_apic_in}
use Rattle.svsm_steps.specs.Formed.{IsWord}
use Rattle.svsm_steps.specs.Made.{made_by}
use Rattle.svsm_steps.specs.Announced.{Announced}
use Rattle.svsm_calls.specs.Waves.{is_among, apic_of, enters, numbers_of, AreWaves}
use Rattle.svsm_calls.specs.Run.{caller_of, IsCore, script_of}
use Rattle.svsm_waves.specs.Trace.{Each, rows_now}

-- numbers that rise
abbrev pub Rises : List ℕ → Type 0
Rises [] = ⊤
Rises (number ∷ numbers) = Each (λ other. number < other) numbers × Rises numbers

-- a core that waits for its Enter
pub record Waits (image : Image) (trace : List Entry) (core : ℕ) : Type 0 where
  pub within : core < length image.cores
  pub ready : IsTrue (list_any (of_apic_in Ready (apic_of image core)) (rows_now image trace))
  pub none_made : made_by core trace ≡ []

-- a core that has entered, and made nothing else
pub record HasEntered (image : Image) (trace : List Entry) (caller : Caller) : Type 0 where
  pub ticket : ℕ
  pub page : Page
  pub within : caller.core < length image.cores
  pub caller_is : caller ≡ caller_of image caller.core caller.caa
  pub area : IsWord image.regions caller.caa.0
  pub made : made_by caller.core trace ≡ record { ticket = ticket; step = enters image caller.core; answer = Seen page caller.caa } ∷ []

abbrev pub cores_of : List Caller → List ℕ
cores_of callers = map (λ (caller : Caller). caller.core) callers

-- these cores entered in order, and nothing else was made
pub record AreEntered (image : Image) (cores : List ℕ) (old new : List Entry) (callers : List Caller) : Type 0 where
  pub first : List Entry
  pub added : new ≡ old ++ first
  pub in_order : map (λ (entry : Entry). entry.core) first ≡ cores
  pub steps : map (λ (entry : Entry). entry.step) first ≡ map (enters image) cores
  pub callers_are : cores_of callers ≡ cores
  pub entered : Each (HasEntered image new) callers

-- entries of these cores were added
pub record AddedBy (cores : List ℕ) (old new : List Entry) : Type 0 where
  pub others : List Entry
  pub added : new ≡ old ++ others
  pub own : IsTrue (list_all (λ (entry : Entry). is_among entry.core cores) others)

-- what stands for a core in no wave
abbrev pub unstarted : ℕ → CoreRun
unstarted core = record { core = core; outcomes = []; end = Unstarted }

-- what each core gave, where these ran
pub record Gave (image : Image) (scripts : List (List Request)) (trace : List Entry) (ran : List ℕ) (runs : List CoreRun) : Type 0 where
  pub count : length runs ≡ length image.cores
  pub each : (core : ℕ) → core < length image.cores
      → IsCore (is_among core ran) image core (script_of scripts core) (made_by core trace) (get_or runs core (unstarted core))

-- the waves so far, with the exits behind them
pub record Waved (image : Image) (scripts : List (List Request)) (trace : List Entry) (ran : List ℕ) (runs : List CoreRun) (told : List Announced) : Type 0 where
  pub waves : AreWaves image trace ran told
  pub gave : Gave image scripts trace ran runs
  pub own : IsTrue (list_all (λ (entry : Entry). is_among entry.core ran) trace)

-- how many cores did not run yet
abbrev pub left : Image → List ℕ → ℕ
left image ran = count_by (λ core. not (is_among core ran)) (numbers_of image)

-- a core entered
pub record EnteredBy (image : Image) (core : ℕ) (caller : Caller) (old new : List Entry) : Type 0 where
  pub entry : Entry
  pub new_is : new ≡ old ++ entry ∷ []
  pub core_is : entry.core ≡ core
  pub step_is : entry.step ≡ enters image core
  pub caller_core : caller.core ≡ core
  pub entered : HasEntered image new caller

-- what each core of a wave gave, by all that it made
abbrev pub AreStarted : Image → List (List Request) → List Entry → List Caller → List CoreRun → Type 0
AreStarted image scripts trace [] [] = ⊤
AreStarted image scripts trace (caller ∷ callers) (run ∷ runs) =
    IsCore true image caller.core (script_of scripts caller.core) (made_by caller.core trace) run
    × AreStarted image scripts trace callers runs
AreStarted image scripts trace [] (run ∷ runs) = ⊥
AreStarted image scripts trace (caller ∷ callers) [] = ⊥

-- each run at the number of its core
abbrev pub put_all : List CoreRun → List CoreRun → List CoreRun
put_all runs [] = runs
put_all runs (run ∷ rest) = put_all (slice_set runs run.core run) rest
