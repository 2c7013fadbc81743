-- What the host is told of the vCPUs of a run.
use Rattle.std.specs.Prelude.{◌≡◌, ℕ, ◌<◌, ◌≤◌, ◌^◌, ⊤, if◌then◌else◌, Option, None, Some, Result, Ok, Err, List, [], All, take}
use Rattle.svsm_types.specs.declared.image.Image.{Image}
use Rattle.svsm_types.specs.declared.request.Request.{Request}
use Rattle.svsm_types.specs.declared.vcpu.Row.{Row}
use Rattle.svsm_steps.specs.declared.entry.Entry.{Entry}
use Rattle.svsm_steps.specs.declared.outcome.CoreRun.{CoreRun}
use Rattle.svsm_steps.specs.Announced.{Announced, exits_between}
use Rattle.svsm_calls.specs.Run.{IsRun}
use Rattle.ap_start.specs.declared.exits.ApExit.{ApExit}
use Rattle.ap_start.specs.declared.exits.ApError.{ApError}
use Rattle.ap_start.specs.declared.exits.ApError.TheVariants.{Said}
use Rattle.ap_start.specs.Exits.{HasLine, taken, refused_exit}

-- the rows of a registry: their APIC ids have core lines, and their pages lie in the map
pub record AreRegistered (image : Image) (rows : List Row) : Type 0 where
  pub lines : All (HasLine image.cores) rows
  pub pages : All (λ (row : Row). row.page.0 < 2 ^ 52) rows

-- the exits behind a wave, by the rows before it and after it
abbrev pub told_between : Image → List Row → List Row → List Announced
told_between image before after = if image.announce then exits_between before after else []

-- of the exits of a run so far the host took these, and refused the one behind them so
pub record IsTold (image : Image) (told : List Announced) (exits : List ApExit) (refused : Option (ℕ × ℕ)) : Type 0 where
  pub took : exits ≡ taken image told
  pub said : refused ≡ refused_exit image told

-- a run of which the host was told so
abbrev pub IsToldRun : Image → List (List Request) → List Entry → List CoreRun → List ApExit → Option (ℕ × ℕ) → Type 0
IsToldRun image scripts trace cores exits refused =
    (is : IsRun image scripts trace cores) × (exits ≡ taken image is.exits) × (refused ≡ refused_exit image is.exits)

-- how exits ended: which of them the host took, and what it said of the one behind those
abbrev pub taken_by : {X : Type 0} → Result (Unit {0}) ApError → List X → List X
taken_by (Ok done) exits = exits
taken_by (Err (Said index info1 info2)) exits = take index exits

abbrev pub said_by : Result (Unit {0}) ApError → Option (ℕ × ℕ)
said_by (Ok done) = None
said_by (Err (Said index info1 info2)) = Some (info1, info2)

-- the refused one is among so many
abbrev pub EndsWithin : ℕ → Result (Unit {0}) ApError → Type 0
EndsWithin count (Ok done) = ⊤
EndsWithin count (Err (Said index info1 info2)) = index ≤ count
