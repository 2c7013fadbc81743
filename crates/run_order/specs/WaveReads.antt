-- How far the entries of a wave go. This module's own.
use Rattle.std.specs.Prelude.{◌≡◌, ⊤, ℕ, ◌<◌, ◌≤◌, false, All, List, [], ◌∷◌, length, take, slice_get, map, Some}
use Rattle.svsm_types.specs.declared.image.Image.{Image}
use Rattle.svsm_types.specs.declared.request.Request.{Request}
use Rattle.svsm_steps.specs.declared.entry.Entry.{Entry}
use Rattle.svsm_steps.specs.declared.outcome.CoreRun.{CoreRun}
use Rattle.svsm_steps.specs.Made.{made_by}
use Rattle.svsm_calls.specs.Waves.{is_among}
use Rattle.run_trees.specs.Tree.{ended}
use Rattle.run_trees.specs.Begun.{HasEntered, IsInWave, IsGoing, IsNextEnter, IsNextStep}
use Rattle.run_order.specs.declared.wave.WaveRead.{WaveRead}
use Rattle.run_order.specs.declared.wave.WaveRead.TheVariants as waves

-- no core stands twice
abbrev pub AreOnce : List ℕ → Type 0
AreOnce [] = ⊤
AreOnce (core ∷ cores) = (is_among core cores ≡ false) × AreOnce cores

-- the entry may not stand next in a wave behind these entries of it
pub record IsNoNext (image : Image) (scripts : List (List Request)) (cores : List ℕ) (entered : ℕ) (wave : List Entry) (entry : Entry) : Type 0 where
  pub no_enter : IsNextEnter image cores entered entry → ⊥
  pub no_step : IsNextStep image scripts wave cores entered entry → ⊥

-- what a core of a wave gave, at its end
abbrev pub IsRunOf : Image → List (List Request) → List Entry → CoreRun → Type 0
IsRunOf image scripts wave run = HasEntered image scripts run.core (made_by run.core wave) (ended run.outcomes run.end)

-- how the entries from a wave's begin on are read: it is over, or an entry may not stand next, or it is on its way
abbrev pub WaveReads : Image → List (List Request) → List ℕ → List Entry → WaveRead → Type 0
WaveReads image scripts cores entries (waves.Over count runs) =
    (count ≤ length entries)
    × (IsInWave image scripts cores (length cores) (take count entries)
    × ((map (λ (run : CoreRun). run.core) runs.items ≡ cores) × All (IsRunOf image scripts (take count entries)) runs.items))
WaveReads image scripts cores entries (waves.Breaks at) =
    (at < length entries)
    × ((entered : ℕ)
    × (IsInWave image scripts cores entered (take at entries)
    × (IsGoing image scripts (take at entries) cores entered
    × ((entry : Entry) → slice_get entries at ≡ Some entry → IsNoNext image scripts cores entered (take at entries) entry))))
WaveReads image scripts cores entries waves.UnderWay =
    (entered : ℕ) × (IsInWave image scripts cores entered entries × IsGoing image scripts entries cores entered)
