-- The order of a history: what the rules of waves and of a core's run allow, whatever the machine gives. This module's own.
use Rattle.std.specs.Prelude.{◌≡◌, ◌⊎◌, ℕ, ◌+◌, ◌<◌, List, ◌++◌, length, take}
use Rattle.svsm_types.specs.declared.image.Image.{Image}
use Rattle.svsm_types.specs.declared.request.Request.{Request}
use Rattle.svsm_steps.specs.declared.entry.Entry.{Entry}
use Rattle.svsm_steps.specs.declared.outcome.CoreRun.{CoreRun}
use Rattle.svsm_steps.specs.Announced.{Announced}
use Rattle.svsm_calls.specs.Waves.{next_wave, has_refused, AreWaves, AreOver}
use Rattle.svsm_calls.specs.Run.{AreCores}

-- a list that the rules of waves and of a core's run allow, with what its cores gave: a run but for the step relation and the
-- platform
pub record IsOrdered (image : Image) (scripts : List (List Request)) (entries : List Entry) (cores : List CoreRun) : Type 0 where
  pub ran : List ℕ
  pub exits : List Announced
  pub waves : AreWaves image entries ran exits
  pub over : AreOver (has_refused image exits) (next_wave image entries ran)
  pub each : AreCores image scripts entries ran 0 image.cores cores

-- the begin of such a list
pub record IsFront (image : Image) (scripts : List (List Request)) (entries : List Entry) : Type 0 where
  pub more : List Entry
  pub cores : List CoreRun
  pub ordered : IsOrdered image scripts (entries ++ more) cores

-- the entry with this index is the first with which the list is no begin of such a list; or the whole list is one, of this length,
-- and is not such a list itself
abbrev pub BreaksOrder : Image → List (List Request) → List Entry → ℕ → Type 0
BreaksOrder image scripts entries at =
    ((at < length entries) × IsFront image scripts (take at entries) × (IsFront image scripts (take (at + 1) entries) → ⊥))
    ⊎ ((at ≡ length entries) × IsFront image scripts entries × ((cores : List CoreRun) → IsOrdered image scripts entries cores → ⊥))
