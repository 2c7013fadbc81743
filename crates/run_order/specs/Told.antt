-- What the host was told of the vCPUs of a history. This module's own.
use Rattle.std.specs.Prelude.{◌≡◌, ℕ, ◌+◌, ◌<◌, ◌^◌, ◌==◌, zero, suc, if◌then◌else◌, Option, None, Some, List, [], All, take}
use Rattle.std.specs.Option.{option_map}
use Rattle.svsm_types.specs.declared.image.Image.{Image}
use Rattle.svsm_types.specs.declared.image.HostLine.{HostLine}
use Rattle.svsm_types.specs.declared.image.HostLine.TheVariants.{Ap}
use Rattle.svsm_types.specs.declared.vcpu.Row.{Row}
use Rattle.svsm_steps.specs.Announced.{Announced, exits_between, ap_error, refused_more}
use Rattle.ap_start.specs.declared.exits.ApExit.{ApExit}
use Rattle.ap_start.specs.Exits.{HasLine, taken, refused_exit}

-- the rows of a registry: their APIC ids have core lines, and their pages lie in the map
pub record AreRegistered (image : Image) (rows : List Row) : Type 0 where
  pub lines : All (HasLine image.cores) rows
  pub pages : All (λ (row : Row). row.page.0 < 2 ^ 52) rows

-- the exits behind a wave, by the rows before it and after it
abbrev pub told_between : Image → List Row → List Row → List Announced
told_between image before after = if image.announce then exits_between before after else []

-- of the exits of a run so far the host took these, and refused the one behind them so
pub record IsTold (image : Image) (told : List Announced) (exits : List ApExit) (refused : Option (ℕ × ℕ)) : Type 0 where
  pub took : exits ≡ taken image told
  pub said : refused ≡ refused_exit image told

-- the error that a line has for the exit with this number
abbrev pub error_in : ℕ → HostLine → Option ℕ
error_in number (Ap other error) = if other == number then Some error else None
error_in number _ = None

-- how many of so many exits, the first with this number, the host takes before it refuses one
abbrev pub refused_of : List HostLine → ℕ → ℕ → Option ℕ
refused_of lines number zero = None
refused_of lines number (suc count) =
    if ap_error lines number == 0 then refused_more (refused_of lines (number + 1) count) else Some 0

-- what is said of the refused one, the first exit having this number: both info values
abbrev pub said_from : List HostLine → ℕ → Option ℕ → Option (ℕ × ℕ)
said_from lines number refused = option_map (λ (refused : ℕ). (0, ap_error lines (number + refused))) refused
