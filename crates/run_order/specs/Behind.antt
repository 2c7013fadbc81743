-- What is kept of a history that is read wave by wave. This module's own.
use Rattle.std.specs.Prelude.{◌≡◌, ℕ, ◌<◌, ◌≤◌, ◌++◌, Bool, true, false, not, is_some, All, Option, None, Some, List, [], ◌∷◌, length, take, get_or, slice_set, count_by}
use Rattle.svsm_types.specs.declared.image.Image.{Image}
use Rattle.svsm_types.specs.declared.image.CoreLine.{CoreLine}
use Rattle.svsm_types.specs.declared.request.Request.{Request}
use Rattle.svsm_types.specs.declared.vcpu.Row.{Row}
use Rattle.svsm_steps.specs.declared.entry.Entry.{Entry}
use Rattle.svsm_steps.specs.declared.outcome.CoreRun.{CoreRun}
use Rattle.svsm_steps.specs.declared.outcome.CoreEnd.TheVariants.{Unstarted}
use Rattle.svsm_steps.specs.Made.{Made, made_by}
use Rattle.svsm_steps.specs.Announced.{Announced}
use Rattle.svsm_calls.specs.Waves.{is_among, numbers_of, ready_cores, rows_behind}
use Rattle.ap_start.specs.declared.exits.ApExit.{ApExit}
use Rattle.ap_start.specs.Exits.{IsLow}
use Rattle.run_trees.specs.Tree.{ended}
use Rattle.run_trees.specs.Order.{BreaksOrder}
use Rattle.run_trees.specs.Begun.{HasEntered, IsBegun, cores_behind, wave_behind}
use Rattle.run_order.specs.declared.order.Waves.{Waves}
use Rattle.run_order.specs.Told.{IsTold}

-- what stands for a core in no wave
abbrev pub unstarted : ℕ → CoreRun
unstarted core = record { core = core; outcomes = []; end = Unstarted }

-- each run at the number of its core
abbrev pub put_all : List CoreRun → List CoreRun → List CoreRun
put_all runs [] = runs
put_all runs (run ∷ rest) = put_all (slice_set runs run.core run) rest

-- what a core gave, by whether it ran
abbrev pub CoreGives : Bool → Image → List (List Request) → ℕ → List Made → CoreRun → Type 0
CoreGives true image scripts core made run = (run.core ≡ core) × HasEntered image scripts core made (ended run.outcomes run.end)
CoreGives false image scripts core made run = (run.core ≡ core) × (run.outcomes ≡ []) × (run.end ≡ Unstarted)

-- what each core gave, where these ran
pub record CoresGave (image : Image) (scripts : List (List Request)) (entries : List Entry) (ran : List ℕ) (runs : List CoreRun) : Type 0 where
  pub count : length runs ≡ length image.cores
  pub each : (core : ℕ) → core < length image.cores
      → CoreGives (is_among core ran) image scripts core (made_by core entries) (get_or runs core (unstarted core))

-- the first entries, so many, are whole waves: these cores ran in them, gave this, and left these rows and exits
pub record AreRead (image : Image) (scripts : List (List Request)) (entries : List Entry) (rows : List Row) (ran : List ℕ) (runs : List CoreRun)
    (exits : List ApExit) (refused : Option (ℕ × ℕ)) (behind : ℕ) : Type 0 where
  pub told : List Announced
  pub within : behind ≤ length entries
  pub begun : IsBegun image scripts (take behind entries) ran told (wave_behind image (take behind entries) ran told) 0
  pub registered : rows ≡ rows_behind image (take behind entries)
  pub gave : CoresGave image scripts (take behind entries) ran runs
  pub is : IsTold image told exits refused
  pub low : All IsLow exits

-- so it is kept
pub record WavesStand (image : Image) (scripts : List (List Request)) (entries : List Entry) (waves : Waves) : Type 0 where
  pub lines : waves.registry.cores ≡ image.cores
  pub read : AreRead image scripts entries waves.registry.rows waves.ran.items waves.cores.items waves.told.exits.items waves.told.refused waves.behind

-- the cores that enter next: none where the host refused an exit
abbrev pub cores_next : Image → Waves → List ℕ
cores_next image waves = cores_behind (is_some waves.told.refused) (ready_cores image waves.ran.items waves.registry.rows)

-- how many cores did not run yet
abbrev pub left : Image → List ℕ → ℕ
left image ran = count_by (λ core. not (is_among core ran)) (numbers_of image)

-- a wave of these cores was read: it is over, or the order breaks at this index
abbrev pub AfterWave : Image → List (List Request) → List Entry → List ℕ → Waves → Waves → Option ℕ → Type 0
AfterWave image scripts entries cores old new None = WavesStand image scripts entries new × (new.ran.items ≡ old.ran.items ++ cores)
AfterWave image scripts entries cores old new (Some at) = BreaksOrder image scripts entries at
