-- The error of an exit that announces a vCPU, line by line.
use Rattle.std.proofs.Common.{◌≡◌, ℕ, Bool, true, false, cond, Option, Some, None, List, ◌∷◌, refl}
use Rattle.std.specs.Prelude.{◌==◌}
use Rattle.svsm_types.specs.declared.image.HostLine.{HostLine}
use Rattle.svsm_types.specs.declared.image.HostLine.TheVariants as Line
use Rattle.svsm_steps.specs.Announced.{ap_error}
use Rattle.boot_core.specs.Creation.{ap_in}

abbrev some_if : Bool → ℕ → Option ℕ
some_if b error = cond b (Some error) None

found_by : (b : Bool) (error other later : ℕ) → some_if b error ≡ Some other → cond b error later ≡ other
found_by true error other later h = cc
found_by false error other later h = cc

passed_by : (b : Bool) (error later : ℕ) → some_if b error ≡ None → cond b error later ≡ later
passed_by true error later h = cc
passed_by false error later h = refl

-- the first line that speaks of it
pub found : (number error : ℕ) (line : HostLine) (lines : List HostLine) → ap_in number line ≡ Some error → ap_error (line ∷ lines) number ≡ error
found number error (Line.Info word) lines h = cc
found number error (Line.Features word) lines h = cc
found number error (Line.Share word) lines h = cc
found number error (Line.Ghcb word) lines h = cc
found number error (Line.Pace word) lines h = cc
found number error (Line.Exit other cur said) lines h = cc
found number error (Line.Change other index word) lines h = cc
found number error (Line.Run core other got) lines h = cc
found number error (Line.Ap other said) lines h = found_by (other == number) said error (ap_error lines number) h

-- and those before it
pub passed : (number : ℕ) (line : HostLine) (lines : List HostLine) → ap_in number line ≡ None → ap_error (line ∷ lines) number ≡ ap_error lines number
passed number (Line.Info word) lines h = refl
passed number (Line.Features word) lines h = refl
passed number (Line.Share word) lines h = refl
passed number (Line.Ghcb word) lines h = refl
passed number (Line.Pace word) lines h = refl
passed number (Line.Exit other cur said) lines h = refl
passed number (Line.Change other index word) lines h = refl
passed number (Line.Run core other got) lines h = refl
passed number (Line.Ap other said) lines h = passed_by (other == number) said (ap_error lines number) h
